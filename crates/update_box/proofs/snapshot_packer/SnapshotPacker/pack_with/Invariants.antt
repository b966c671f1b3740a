use Rattle.update_box.proofs.snapshot_packer.SnapshotPacker.pack_with.Given as goal

abbrev pub ghosts-put_living : goal.ghosts-put_living
ghosts-put_living a = record { name = a.blank.name; parts = 1 }
