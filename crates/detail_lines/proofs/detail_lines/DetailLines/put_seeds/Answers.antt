use Rattle.std.proofs.Common.{◌≡◌, ◌<◌, ◌∙◌, ℕ, List, ap, arith, get_or, if◌then◌else◌, length, subst}
use Rattle.std.proofs.lemmas.List.FromFn.{get_or-map-range_with_len, length-map-range_with_len}
use Rattle.philox_seeds.specs.SeedTree.{column_seed, unit_seed}
use Rattle.schema_plan.specs.declared.ready.ReadyColumn.{ReadyColumn}
use Rattle.schema_facts.specs.Layout.{column_at}
use Rattle.draw_values.specs.Values.{draw_unit}
use Rattle.detail_plan.specs.Kept.{KeepsRules}
use Rattle.detail_plan.specs.Limits.{IsInLimits}
use Rattle.detail_lines.specs.Made.{LinesOver, columns_over, detail_seed, own_over, told_at}
use Rattle.detail_lines.proofs.ColumnLemmas.{ready_at}
use Rattle.detail_lines.proofs.TextLemmas.{set-more}
use Rattle.detail_lines.proofs.detail_lines.DetailLines.put_seeds.Goals as goal

pub bounds-columns_seeds-column : goal.bounds-columns_seeds-column
bounds-columns_seeds-column c =
    omega (
      arith,
      ap (length {A = ℕ}) c.seeds-columns_seeds.ensures,
      length-map-range_with_len (column_seed (detail_seed c.args.self.now.kept)) 0 (own_over c.args.self.now),
      c.loop-column-test.true,
      c.columns-column-end.ensures.many,
    )

pub loop-column-preserved : goal.loop-column-preserved
loop-column-preserved c =
    let over : LinesOver = c.args.self.now in
    let column : ℕ = c.loop-column.column in
    let within : column < own_over over = omega (arith, c.loop-column-test.true, c.columns-column-end.ensures.many) in
    let keeps = subst (λ (o : LinesOver). KeepsRules o.plan o.kept) c.self.view_is c.self.invariant.keeps in
    let limits = subst (λ (o : LinesOver). IsInLimits o.kept.lists o.kept.detail) c.self.view_is c.self.invariant.limits in
    let ready =
    c.index-columns-column.is
    ∙ ap (λ (columns : List ReadyColumn). get_or columns column c.index-columns-column.result) (c.columns-columns.ensures ∙ ap (λ (o : LinesOver). o.kept.columns) c.self.view_is)
    ∙ ready_at over.plan over.kept keeps limits column c.index-columns-column.result within in
    let seed : get_or c.seeds-columns_seeds.result.now column 0 ≡ column_seed (detail_seed over.kept) column =
    ap (λ (seeds : List ℕ). get_or seeds column 0) c.seeds-columns_seeds.ensures
    ∙ get_or-map-range_with_len (column_seed (detail_seed over.kept)) 0 (own_over over) column column 0 within (omega arith) in
    set-more (λ (place : ℕ). unit_seed (column_seed (detail_seed over.kept) place) (draw_unit (column_at (columns_over over) place) (told_at c.args.row.now)))
    c.loop-column.seeds column c.unit_seed.result (omega (arith, within, c.loop-column.auto.seeds, c.requires))
    (c.unit_seed.ensures.seed
    ∙ ap (λ (n : ℕ). unit_seed n c.draw_unit-unit.result) seed
    ∙ ap (λ (unit : ℕ). unit_seed (column_seed (detail_seed over.kept) column) unit)
    (c.draw_unit-unit.ensures ∙ ap (λ (one : ReadyColumn). if one.changes then c.args.row.now.changed else c.args.row.now.born) ready))
    c.loop-column.invariant
