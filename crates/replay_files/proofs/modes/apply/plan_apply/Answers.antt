use Rattle.schema_facts.specs.Layout.{layout_of}
use Rattle.replay_files.specs.modes.Apply.{apply_of, tables_asked}
use Rattle.replay_files.proofs.ApplyLemmas.{names_told, replayed_asked}
use Rattle.replay_files.proofs.modes.apply.plan_apply.Goals as goal

pub returns-clause-job : goal.returns-clause-job
returns-clause-job g c =
    replayed_asked (apply_of c.args.plan.now c.args.request.now) _ _ (layout_of c.args.plan.now).delimiter c.args.request.now (tables_asked c.args.plan.now c.args.request.now) c.in_ok-table.table c.in-Ok.replay _
    c.in_ok-table.ensures.asked c.in-Ok.ensures.replay c.delimiter.ensures c.replay_files.ensures.job

pub returns-clause-asked_told : goal.returns-clause-asked_told
returns-clause-asked_told g c =
    names_told (apply_of c.args.plan.now c.args.request.now) _ c.args.request.now (tables_asked c.args.plan.now c.args.request.now) c.in_ok-table.table c.in-Ok.replay _ _
    c.in_ok-table.ensures.asked c.in-Ok.ensures.replay c.replay_files.ensures.asked_told
