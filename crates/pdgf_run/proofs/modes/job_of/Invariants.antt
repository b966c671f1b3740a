use Rattle.pdgf_run.proofs.modes.job_of.Given as goal

abbrev pub ghosts-plan_unit : goal.ghosts-plan_unit
ghosts-plan_unit a b = record { name = b.blank.name; parts = b.blank.parts }

abbrev pub ghosts-plan_row : goal.ghosts-plan_row
ghosts-plan_row a b = record { name = b.blank.name; parts = b.blank.parts }

abbrev pub ghosts-plan_details : goal.ghosts-plan_details
ghosts-plan_details a b = record { name = b.blank.name; parts = b.blank.parts }
