use Rattle.std.proofs.Common.{[], ◌∷◌, ◌++◌, ◌∙◌, ap, List, ℕ}
use Rattle.schema_plan.specs.Rules.{column_names}
use Rattle.run_jobs.proofs.MoreLemmas.{ranged_more}
use Rattle.replay_files.proofs.modes.apply.columns_by.Goals as goal

pub loop-number-preserved : goal.loop-number-preserved
loop-number-preserved c =
    ranged_more (column_names c.args.plan.now.schema) c.args.places.from c.loop-number.number c.loop-number.tables _ c.loop-number.invariant
    (c.in-Ok.ensures.appended ∙ ap (λ (names : List (List ℕ)). c.loop-number.tables ++ names ∷ []) c.in_ok-names.ensures)
