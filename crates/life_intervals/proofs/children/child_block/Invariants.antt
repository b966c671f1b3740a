use Rattle.life_intervals.proofs.children.child_block.Given as goal

abbrev pub ghosts-uncounted_number : goal.ghosts-uncounted_number
ghosts-uncounted_number a = record { name = a.blank.name; parts = a.blank.parts }
