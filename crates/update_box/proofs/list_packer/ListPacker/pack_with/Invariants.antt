use Rattle.update_box.proofs.list_packer.ListPacker.pack_with.Given as goal

abbrev pub ghosts-put_entries : goal.ghosts-put_entries
ghosts-put_entries a = record { name = a.blank.name; parts = 1 }
