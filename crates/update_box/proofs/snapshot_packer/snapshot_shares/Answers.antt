use Rattle.std.proofs.Common.{[], ◌∷◌, ◌++◌, ap, arith, length, map, ◌∙◌}
use Rattle.std.proofs.lemmas.List.{map-append}
use Rattle.std.proofs.lemmas.List.Elements.{All-nil, All-same}
use Rattle.update_box.specs.Kept.{IsKeptShare, IsSnapshot, kept_share}
use Rattle.update_box.specs.Packages.{Share}
use Rattle.update_box.specs.Parts.{snapshot_contents}
use Rattle.update_box.proofs.ShareLemmas.{All-pushed, length-pushed, shares-all, shares-more}
use Rattle.update_box.proofs.snapshot_packer.snapshot_shares.Goals as goal

pub loop-number-init : goal.loop-number-init
loop-number-init c = record {
  many = ap length c.new-shares.ensures.items;
  shares = ap (map kept_share) c.new-shares.ensures.items;
  kept = All-same (IsKeptShare c.args.rows.now c.args.tables.now c.args.job.now.unit c.args.job.now.package) _ [] c.new-shares.ensures.items
      (All-nil (IsKeptShare c.args.rows.now c.args.tables.now c.args.job.now.unit c.args.job.now.package));
  snapshot = All-same (IsSnapshot c.args.rows.now c.args.job.now.unit) _ [] c.new-shares.ensures.items (All-nil (IsSnapshot c.args.rows.now c.args.job.now.unit));
}

pub loop-number-preserved : goal.loop-number-preserved
loop-number-preserved c =
    let pushed = c.in_ok-push.ensures.items in
    record {
      many = length-pushed _ _ _ c.loop-number.number pushed c.loop-number.invariant.many;
      shares =
          shares-more snapshot_contents c.args.rows.now c.args.job.now c.places-from.result.from c.loop-number.number _ _ c.loop-number.invariant.shares
          (ap (map kept_share) pushed
          ∙ map-append kept_share c.loop-number.shares.items (c.snapshot_share.result ∷ [])
          ∙ ap (λ (share : Share). map kept_share c.loop-number.shares.items ++ share ∷ []) c.snapshot_share.ensures.share);
      kept = All-pushed (IsKeptShare c.args.rows.now c.args.tables.now c.args.job.now.unit c.args.job.now.package) _ _ _ pushed c.loop-number.invariant.kept c.snapshot_share.ensures.kept;
      snapshot = All-pushed (IsSnapshot c.args.rows.now c.args.job.now.unit) _ _ _ pushed c.loop-number.invariant.snapshot c.snapshot_share.ensures.snapshot;
    }

pub returns-clause-shares : goal.returns-clause-shares
returns-clause-shares c =
    shares-all snapshot_contents c.args.rows.now c.args.job.now c.args.tables.now _ c.loop-number.number _ c.args.job.now.table c.loop-number.invariant.shares
    (omega (arith, c.loop-number-test.false, c.loop-number.auto.number-end, c.places-from.ensures.count)) c.places-from.ensures.from c.requires.chosen_places
