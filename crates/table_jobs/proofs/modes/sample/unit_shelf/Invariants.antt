use Rattle.table_jobs.proofs.modes.sample.unit_shelf.Given as goal

abbrev pub ghosts-found_job : goal.ghosts-found_job
ghosts-found_job a b = record { name = b.blank.name; parts = b.blank.parts }
