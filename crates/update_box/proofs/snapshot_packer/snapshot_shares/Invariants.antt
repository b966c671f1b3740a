use Rattle.std.proofs.Common.{◌≡◌, length, map, All}
use Rattle.std.specs.List.{range_with_len}
use Rattle.update_box.specs.Kept.{IsKeptShare, IsSnapshot, kept_share}
use Rattle.update_box.specs.Packages.{share_of}
use Rattle.update_box.specs.Parts.{parts_of, snapshot_contents}
use Rattle.update_box.proofs.snapshot_packer.snapshot_shares.Given as goal

abbrev pub invariant-loop-number : goal.invariant-loop-number
invariant-loop-number l = record {
  many : length l.shares.items ≡ l.number;
  shares : map kept_share l.shares.items ≡ map (share_of l.rows l.job) (parts_of snapshot_contents (range_with_len l.from l.number));
  kept : All (IsKeptShare l.rows l.tables l.job.unit l.job.package) l.shares.items;
  snapshot : All (IsSnapshot l.rows l.job.unit) l.shares.items;
}
