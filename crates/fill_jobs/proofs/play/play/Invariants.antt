use Rattle.fill_jobs.proofs.play.play.Given as goal

abbrev pub ghosts-play_units : goal.ghosts-play_units
ghosts-play_units a b = record { name = b.blank.name; parts = b.blank.parts }
