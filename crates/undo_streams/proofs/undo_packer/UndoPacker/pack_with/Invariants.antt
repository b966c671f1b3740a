use Rattle.undo_streams.proofs.undo_packer.UndoPacker.pack_with.Given as goal

abbrev pub ghosts-put_undo : goal.ghosts-put_undo
ghosts-put_undo a = record { name = a.blank.name; parts = 1 }
