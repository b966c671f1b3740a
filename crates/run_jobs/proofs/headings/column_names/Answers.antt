use Rattle.std.proofs.Common.{[], ◌∷◌, ◌++◌, ◌∙◌, ap, arith, map, sym, List, ℕ}
use Rattle.schema_model.specs.declared.column.Column.{Column}
use Rattle.run_jobs.proofs.ColumnLemmas.{columns-found}
use Rattle.run_jobs.proofs.MoreLemmas.{all_mapped, mapped_more}
use Rattle.run_jobs.proofs.headings.column_names.Goals as goal

pub loop-place-preserved : goal.loop-place-preserved
loop-place-preserved c =
    mapped_more (λ (column : Column). column.name) _ c.loop-place.place _ c.loop-place.names _ c.get.ensures c.loop-place.invariant
    (c.in_ok-put.ensures ∙ ap (λ (name : List ℕ). c.loop-place.names ++ name ∷ []) (c.in_ok-name.ensures ∙ c.as_str.ensures.value))

pub returns : goal.returns
returns c =
    all_mapped (λ (column : Column). column.name) _ c.loop-place.place c.loop-place.names (omega (arith, c.len-place-end.ensures, c.loop-place-test.false)) c.loop-place.invariant
    ∙ ap (map (λ (column : Column). column.name)) (sym (columns-found c.args.plan.now.schema c.args.table _ c.table.ensures.found))
