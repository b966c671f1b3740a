use Rattle.std.proofs.Common.{◌≡◌}
use Rattle.undo_streams.specs.Packages.{room_of}
use Rattle.undo_tests.proofs.pack_tests.packed.Given as goal

abbrev pub invariant-loop-n : goal.invariant-loop-n
invariant-loop-n l = l.page.room ≡ room_of l.packer
