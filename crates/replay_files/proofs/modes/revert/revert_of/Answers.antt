use Rattle.replay_files.proofs.ApplyLemmas.{can-revert}
use Rattle.replay_files.proofs.modes.revert.revert_of.Goals as goal

pub returns-clause-can : goal.returns-clause-can
returns-clause-can c =
    let places = c.places_of in
    can-revert c.args.plan.now c.schema-limits.ensures.limits c.args.table places.result.from places.result.count places.ensures.places places.ensures.some places.ensures.few c.args.request.now
    c.in_ok-table_names.field-0 c.requires.order c.requires.units c.in_ok-table_names.ensures
