-- The test counts on the ledger that its blank stands for.
use Rattle.row_tests.proofs.update_tests.lists_are_those_that_are_asked_for.Given as goal

abbrev pub ghosts-changes_as_asked : goal.ghosts-changes_as_asked
ghosts-changes_as_asked g a = record { name = a.blank.name; parts = a.blank.parts }
