use Rattle.sql_lines.proofs.packer.StatementPacker.pack_with.Given as goal

abbrev pub ghosts-put_range : goal.ghosts-put_range
ghosts-put_range a = record { name = a.blank.name; parts = 1 }
