use Rattle.std.proofs.Common.{◌≡◌, ◌+◌, take}
use Rattle.update_box.specs.Kept.{packages_kept}
use Rattle.update_box.proofs.shares.find.Given as goal

abbrev pub invariant-loop-share : goal.invariant-loop-share
invariant-loop-share l = l.n ≡ packages_kept (take l.share l.shares) + l.number
