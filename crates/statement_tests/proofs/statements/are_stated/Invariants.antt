use Rattle.statement_tests.proofs.statements.are_stated.Given as goal

abbrev pub ghosts-statements : goal.ghosts-statements
ghosts-statements a = record { name = a.blank.name; parts = 1 }
