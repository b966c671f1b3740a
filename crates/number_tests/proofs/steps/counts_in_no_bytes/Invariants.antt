-- The test counts on the ledger that its blank stands for.
use Rattle.number_tests.proofs.steps.counts_in_no_bytes.Given as goal

abbrev pub ghosts-two_steps : goal.ghosts-two_steps
ghosts-two_steps g a = record { name = a.blank.name; parts = a.blank.parts }
