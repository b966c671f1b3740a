use Rattle.detail_rows.proofs.packer.DetailPacker.put_uncounted.Given as goal

abbrev pub ghosts-put_package : goal.ghosts-put_package
ghosts-put_package a = record { name = a.blank.name; parts = 1 }
