-- The test counts on the ledger that its blank stands for.
use Rattle.number_tests.proofs.permutations.permutations_are_as_worked_out.Given as goal

abbrev pub ghosts-assert_permutations : goal.ghosts-assert_permutations
ghosts-assert_permutations g a = record { name = a.blank.name; parts = a.blank.parts }
