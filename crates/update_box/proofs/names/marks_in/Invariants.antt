use Rattle.std.proofs.Common.{◌≡◌, map, take}
use Rattle.update_box.specs.Kept.{kept_share, packages_kept}
use Rattle.update_box.specs.Packages.{marks_from, packages_in, share_path}
use Rattle.update_box.proofs.names.marks_in.Given as goal

abbrev pub invariant-loop-share : goal.invariant-loop-share
invariant-loop-share l = record {
  marks : l.marks ≡ marks_from (packages_in l.size) (share_path l.plan l.unit l.dir) 0 (map kept_share (take l.share-index l.shares));
  first : l.first ≡ packages_kept (take l.share-index l.shares);
}
