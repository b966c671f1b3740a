use Rattle.replay_files.proofs.ApplyLemmas.{can-apply}
use Rattle.replay_files.proofs.modes.apply.apply_of.Goals as goal

pub returns-clause-can : goal.returns-clause-can
returns-clause-can c =
    let places = c.places_of-places in
    can-apply c.args.plan.now c.schema-limits.ensures.limits c.args.table places.result.from places.result.count places.ensures.places places.ensures.some places.ensures.few c.args.request.now
    c.in_ok-table_names.field-0 c.in_ok-columns_by.field-0 c.requires.table c.requires.order c.requires.units c.in_ok-table_names.ensures c.in_ok-columns_by.ensures
