-- The test counts on the ledger that its blank stands for.
use Rattle.row_tests.proofs.line_tests.dates_follow_dates_and_numbers_are_joined.Given as goal

abbrev pub ghosts-assert_all : goal.ghosts-assert_all
ghosts-assert_all g a = record { name = a.blank.name; parts = a.blank.parts }
