use Rattle.std.proofs.Common.{◌≡◌, ◌*◌, length, map, All}
use Rattle.std.specs.List.{range_with_len}
use Rattle.update_box.specs.Kept.{HasItsLists, IsKeptShare, kept_share}
use Rattle.update_box.specs.Packages.{share_of}
use Rattle.update_box.specs.Parts.{parts_of, unit_contents}
use Rattle.update_box.proofs.list_packer.list_shares.Given as goal

abbrev pub invariant-loop-number : goal.invariant-loop-number
invariant-loop-number l = record {
  many : length l.shares.items ≡ 3 * l.number;
  shares : map kept_share l.shares.items ≡ map (share_of l.plan l.job) (parts_of unit_contents (range_with_len l.from l.number));
  kept : All (IsKeptShare l.plan l.tables l.job.unit l.job.package) l.shares.items;
  have : All (HasItsLists l.plan l.job.unit l.lists) l.shares.items;
}
