use Rattle.std.proofs.Common.{[], ◌+◌, ap, arith, length, map}
use Rattle.std.proofs.lemmas.List.Elements.{All-nil, All-same}
use Rattle.update_box.specs.Kept.{HasItsLists, IsKeptShare, kept_share}
use Rattle.update_box.specs.Parts.{unit_contents}
use Rattle.update_box.proofs.EntryLemmas.{chosen_places-among}
use Rattle.update_box.proofs.ShareLemmas.{shares-all, shares-more}
use Rattle.update_box.proofs.list_packer.list_shares.Goals as goal

pub loop-number-init : goal.loop-number-init
loop-number-init c = record {
  many = ap length c.new-shares.ensures.items;
  shares = ap (map kept_share) c.new-shares.ensures.items;
  kept = All-same (IsKeptShare c.args.plan.now c.args.tables.now c.args.job.now.unit c.args.job.now.package) _ [] c.new-shares.ensures.items
      (All-nil (IsKeptShare c.args.plan.now c.args.tables.now c.args.job.now.unit c.args.job.now.package));
  have = All-same (HasItsLists c.args.plan.now c.args.job.now.unit c.args.lists.now) _ [] c.new-shares.ensures.items (All-nil (HasItsLists c.args.plan.now c.args.job.now.unit c.args.lists.now));
}

pub loop-number-preserved : goal.loop-number-preserved
loop-number-preserved c = record {
  many = omega (arith, c.in_ok-push_changes.ensures.count, c.loop-number.invariant.many);
  shares = shares-more unit_contents c.args.plan.now c.args.job.now c.places-from.result.from c.loop-number.number _ _ c.loop-number.invariant.shares c.in_ok-push_changes.ensures.shares;
  kept = c.in_ok-push_changes.ensures.kept;
  have = c.in_ok-push_changes.ensures.have;
}

pub push_changes-requires-clause-lists : goal.push_changes-requires-clause-lists
push_changes-requires-clause-lists c =
    c.requires.lists.each (c.places-from.result.from + c.loop-number.number) (omega (arith, c.requires.tables.within, c.places-from.ensures.from, c.places-from.ensures.count, c.loop-number-test.true))
    (chosen_places-among c.args.plan.now c.args.job.now.table c.args.tables.now _ c.requires.chosen_places
    (record { begun = omega (arith, c.places-from.ensures.from); not_ended = omega (arith, c.places-from.ensures.from, c.places-from.ensures.count, c.loop-number-test.true) }))

pub returns-clause-shares : goal.returns-clause-shares
returns-clause-shares c =
    shares-all unit_contents c.args.plan.now c.args.job.now c.args.tables.now _ c.loop-number.number _ c.args.job.now.table c.loop-number.invariant.shares
    (omega (arith, c.loop-number-test.false, c.loop-number.auto.number-end, c.places-from.ensures.count)) c.places-from.ensures.from c.requires.chosen_places
