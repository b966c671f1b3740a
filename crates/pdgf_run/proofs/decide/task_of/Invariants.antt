use Rattle.pdgf_run.proofs.decide.task_of.Given as goal

abbrev pub ghosts-plan_play : goal.ghosts-plan_play
ghosts-plan_play a b = record { name = b.blank.name; parts = b.blank.parts }
