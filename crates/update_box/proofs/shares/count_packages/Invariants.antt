use Rattle.std.proofs.Common.{◌≡◌, ◌≤◌, ◌*◌, ◌^◌, take}
use Rattle.update_box.specs.Kept.{packages_kept}
use Rattle.update_box.proofs.shares.count_packages.Given as goal

abbrev pub invariant-loop-share : goal.invariant-loop-share
invariant-loop-share l = record {
  so_far : l.count ≡ packages_kept (take l.share-index l.shares);
  few : l.count ≤ l.share-index * 2 ^ 40;
}
