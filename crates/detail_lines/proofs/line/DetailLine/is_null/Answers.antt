use Rattle.std.proofs.Common.{ap, arith, get_or, subst, ◌∙◌}
use Rattle.philox_seeds.specs.SeedTree.{draw, row_seed}
use Rattle.schema_plan.specs.declared.ready.ReadyColumn.{ReadyColumn}
use Rattle.schema_facts.specs.Layout.{ColumnLayout}
use Rattle.draw_values.specs.Values.{is_null}
use Rattle.detail_lines.specs.Lines.{column_of}
use Rattle.detail_lines.specs.Made.{IsLineOver, LineOver, line_over}
use Rattle.detail_lines.proofs.LineValueLemmas.{seed-draws}
use Rattle.detail_lines.proofs.line.DetailLine.is_null.Goals as goal

pub offset_bounds-self-inside-column : goal.offset_bounds-self-inside-column
offset_bounds-self-inside-column c =
    let own = subst (λ (l : LineOver). IsLineOver l c.self.inside.row.now c.self.inside.delimiter c.self.inside.seeds.now c.self.inside.drawn) c.self.view_is c.self.invariant in
    omega (arith, c.requires, own.limits.few_columns)

pub returns : goal.returns
returns c =
    let line : LineOver = c.args.self.now in
    let own = subst (λ (l : LineOver). IsLineOver l c.self.inside.row.now c.self.inside.delimiter c.self.inside.seeds.now c.self.inside.drawn) c.self.view_is c.self.invariant in
    let column : ColumnLayout = column_of (line_over line) c.args.column in
    c.is_null.ensures
    ∙ ap (λ (ready : ReadyColumn). is_null ready.null (draw (row_seed (get_or c.self.inside.seeds.now c.args.column 0) c.self.inside.drawn))) c.column.ensures
    ∙ ap (is_null column.null) (seed-draws line c.self.inside.row.now c.self.inside.delimiter c.self.inside.seeds.now c.self.inside.drawn own c.args.column c.requires)
