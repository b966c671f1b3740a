use Rattle.std.proofs.Common.{◌≡◌, ◌≤◌, map, take}
use Rattle.update_box.specs.Cuts.{greatest}
use Rattle.update_box.specs.Kept.{kept_share}
use Rattle.update_box.specs.Packages.{share_room}
use Rattle.update_box.proofs.shares.room_for.Given as goal

abbrev pub invariant-loop-share : goal.invariant-loop-share
invariant-loop-share l = record {
  so_far : l.room ≡ greatest (share_room l.plan l.size) (map kept_share (take l.share-index l.shares));
  few : l.room ≤ 65536000000;
}
