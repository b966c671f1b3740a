use Rattle.std.proofs.Common.{All, List, arith, subst, sym}
use Rattle.update_box.specs.Kept.{HasItsLists}
use Rattle.update_box.specs.declared.shares.KeptShare.{KeptShare}
use Rattle.update_box.proofs.PackLemmas.{AreKeptShares-made, packages_by-is}
use Rattle.update_box.proofs.list_packer.ListPacker.new.Goals as goal

pub returns : goal.returns
returns c =
    packages_by-is c.args.plan.now c.args.job.now.unit c.args.job.now.package c.in_ok-kept.kept.items _ c.of.result c.of.ensures.kept c.of.ensures.size c.in_ok-kept.ensures.shares

pub invariant_of-result : goal.invariant_of-result
invariant_of-result c = (
  AreKeptShares-made c.args.plan.now c.args.tables.now c.args.job.now.unit c.args.job.now.package c.in_ok-kept.kept.items c.of.result c.requires.tables c.requires.job.unit c.requires.job.some_entry c.requires.job.package_limit
      (omega (arith, c.in_ok-kept.ensures.count, c.requires.tables.some)) c.in_ok-kept.ensures.kept c.of.ensures.kept c.of.ensures.size c.of.ensures.count c.of.ensures.most c.of.ensures.room,
  subst (λ (ks : List KeptShare). All (HasItsLists c.args.plan.now c.args.job.now.unit c.args.lists.now) ks) (sym c.of.ensures.kept) c.in_ok-kept.ensures.have,
)
