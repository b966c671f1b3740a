-- The test counts on the ledger that its blank stands for.
use Rattle.undo_tests.proofs.pack_tests.a_unit_is_undone_in_packages_of_any_size.Given as goal

abbrev pub ghosts-assert_undone : goal.ghosts-assert_undone
ghosts-assert_undone g a = record { name = a.blank.name; parts = a.blank.parts }
