use Rattle.table_jobs.proofs.modes.undo.undo_job.Given as goal

abbrev pub ghosts-found_job : goal.ghosts-found_job
ghosts-found_job a = record { name = a.blank.name; parts = a.blank.parts }

abbrev pub ghosts-found_places : goal.ghosts-found_places
ghosts-found_places a = record { name = a.blank.name; parts = a.blank.parts }
