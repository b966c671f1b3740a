use Rattle.std.proofs.Common.{[], ◌∷◌, ◌++◌, ◌∙◌, ap, List, ℕ}
use Rattle.update_box.specs.Parts.{name_at}
use Rattle.run_jobs.proofs.MoreLemmas.{ranged_more}
use Rattle.run_jobs.proofs.names.table_names.Goals as goal

pub loop-number-preserved : goal.loop-number-preserved
loop-number-preserved c =
    ranged_more (name_at c.args.plan.now.schema) c.args.places.from c.loop-number.number c.loop-number.names _ c.loop-number.invariant
    (c.in_ok-put.ensures ∙ ap (λ (name : List ℕ). c.loop-number.names ++ name ∷ []) (c.in_ok-name.ensures ∙ c.name_of.ensures))
