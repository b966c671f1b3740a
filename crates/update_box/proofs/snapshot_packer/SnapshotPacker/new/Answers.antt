use Rattle.std.proofs.Common.{◌≡◌, All, List, arith, map, subst, sym}
use Rattle.schema_facts.specs.Dictionaries.{Project}
use Rattle.update_box.specs.Kept.{IsKeptShare, IsSnapshot, kept_share}
use Rattle.update_box.specs.Packages.{chosen_places, share_of}
use Rattle.update_box.specs.Parts.{parts_of, snapshot_contents}
use Rattle.update_box.specs.declared.shares.KeptShare.{KeptShare}
use Rattle.update_box.proofs.PackLemmas.{AreKeptShares-made, packages_by-is}
use Rattle.update_box.proofs.snapshot_packer.SnapshotPacker.new.Goals as goal

pub returns : goal.returns
returns c =
    packages_by-is c.args.plan.now c.args.job.now.unit c.args.job.now.package c.in_ok-kept.kept.items _ c.of.result c.of.ensures.kept c.of.ensures.size
    (subst (λ (p : Project). map kept_share c.in_ok-kept.kept.items ≡ map (share_of p c.args.job.now) (parts_of snapshot_contents (chosen_places p c.args.job.now.table))) c.rows-rows.ensures c.in_ok-kept.ensures.shares)

pub invariant_of-result : goal.invariant_of-result
invariant_of-result c = (
  AreKeptShares-made c.args.plan.now c.args.tables.now c.args.job.now.unit c.args.job.now.package c.in_ok-kept.kept.items c.of.result c.requires.tables c.requires.job.unit c.requires.job.some_entry c.requires.job.package_limit
      (omega (arith, c.in_ok-kept.ensures.count, c.requires.tables.some))
      (subst (λ (p : Project). All (IsKeptShare p c.args.tables.now c.args.job.now.unit c.args.job.now.package) c.in_ok-kept.kept.items) c.rows-rows.ensures c.in_ok-kept.ensures.kept)
      c.of.ensures.kept c.of.ensures.size c.of.ensures.count c.of.ensures.most c.of.ensures.room,
  subst (λ (ks : List KeptShare). All (IsSnapshot c.args.plan.now c.args.job.now.unit) ks) (sym c.of.ensures.kept)
      (subst (λ (p : Project). All (IsSnapshot p c.args.job.now.unit) c.in_ok-kept.kept.items) c.rows-rows.ensures c.in_ok-kept.ensures.snapshot),
)
