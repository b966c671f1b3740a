use Rattle.std.proofs.Common.{◌≡◌, ◌≤◌, length, ap, arith, subst, sym, ◌∙◌}
use Rattle.line_pages.specs.Rows.{piece_text_at}
use Rattle.row_text.specs.Fields.{field_text}
use Rattle.schema_facts.specs.Dictionaries.{Project}
use Rattle.schema_facts.specs.Layout.{layout_of}
use Rattle.draw_values.specs.Runs.{AreRunRows, IsRunColumn, RunColumnOf, run_row, run_field}
use Rattle.draw_values.specs.Values.{size_at, value_at}
use Rattle.life_intervals.specs.Generator.{last_unit}
use Rattle.row_lines.specs.Runs.{RunLinesOf}
use Rattle.row_lines.specs.TableLines.{TableLinesOf, table_lines}
use Rattle.row_lines.proofs.RunFieldLemmas.{run_rows}
use Rattle.row_lines.proofs.RunPieceLemmas.{AreRunLines-view, column_of-is, columns-at, length-columns, made-drawn}
use Rattle.row_lines.proofs.runs.RunLines.put_drawn.Goals as goal
use Rattle.row_lines.proofs.runs.RunLines.put_drawn.Goals.{After-plan-plan}

-- what is kept of the columns
kept_are : (c : After-plan-plan) → c.columns-columns.result.now ≡ (table_lines c.args.self.now.plan c.args.self.now.table).columns
kept_are c =
    let known = AreRunLines-view _ c.args.self.now c.self.inside.lines.now c.self.view_is c.self.invariant in
    c.columns-columns.ensures ∙ ap (λ (kept : TableLinesOf). kept.columns) known.kept_are

plan_is : (c : After-plan-plan) → c.plan-plan.result.now ≡ c.args.self.now.plan
plan_is c = c.plan-plan.ensures ∙ ap (λ (of : RunLinesOf). of.plan) c.self.view_is

pub bounds-columns-column : goal.bounds-columns-column
bounds-columns-column c =
    let here = (goal.at.bounds-columns-column c).After-plan-plan in
    omega (arith, c.requires.column, length-columns c.args.self.now.plan c.args.self.now.table c.columns-columns.result.now (kept_are here))

pub fill-requires-clause-column : goal.fill-requires-clause-column
fill-requires-clause-column c =
    let lines : RunLinesOf = c.args.self.now in
    let here = (goal.at.fill-requires-clause-column c).After-plan-plan in
    let known = AreRunLines-view _ lines c.self.inside.lines.now c.self.view_is c.self.invariant in
    let is = columns-at lines.plan lines.table c.args.column c.columns-columns.result.now c.index-columns-column.result (kept_are here) c.requires.column c.index-columns-column.is in
    subst (λ (plan : Project). IsRunColumn plan c.index-columns-column.result) (sym (plan_is here))
    (column_of-is lines.plan lines.table c.args.column c.index-columns-column.result known.table c.requires.column is)

pub fill-requires-clause-short : goal.fill-requires-clause-short
fill-requires-clause-short c =
    let lines : RunLinesOf = c.args.self.now in
    let here = (goal.at.fill-requires-clause-short c).After-plan-plan in
    let is = columns-at lines.plan lines.table c.args.column c.columns-columns.result.now c.index-columns-column.result (kept_are here) c.requires.column c.index-columns-column.is in
    ap (λ (run : RunColumnOf). run.short) is ∙ c.requires.short

pub fill-requires-clause-rows : goal.fill-requires-clause-rows
fill-requires-clause-rows c =
    let lines : RunLinesOf = c.args.self.now in
    let here = (goal.at.fill-requires-clause-rows c).After-plan-plan in
    let known = AreRunLines-view _ lines c.self.inside.lines.now c.self.view_is c.self.invariant in
    subst (λ (plan : Project). AreRunRows (last_unit plan) (length c.args.pieces.now) c.args.rows) (sym (plan_is here))
    (run_rows lines c.args.rows (length c.args.pieces.now) known.unit c.requires.rows c.requires.pieces)

pub returns : goal.returns
returns c =
    let lines : RunLinesOf = c.args.self.now in
    let here = (goal.at.returns c).After-plan-plan in
    let known = AreRunLines-view _ lines c.self.inside.lines.now c.self.view_is c.self.invariant in
    let run : RunColumnOf = c.index-columns-column.result in
    let is = columns-at lines.plan lines.table c.args.column c.columns-columns.result.now run (kept_are here) c.requires.column c.index-columns-column.is in
    made-drawn lines c.args.rows c.args.column run c.fill.new.pieces known.table c.requires.rows is (ap (λ (of : RunColumnOf). of.short) is ∙ c.requires.short)
    (λ i inside. subst (λ (plan : Project). piece_text_at c.fill.new.pieces i ≡ run_field plan run c.args.rows i) (plan_is here) (c.fill.ensures.text i (omega (arith, inside, c.requires.pieces))))
    (λ i inside. subst (λ (plan : Project). length (field_text (layout_of plan).delimiter (value_at (layout_of plan) run.table run.column (run_row c.args.rows i))) ≤ size_at (layout_of plan) run.table run.column)
    (plan_is here) (c.fill.ensures.size i (omega (arith, inside, c.requires.pieces))))
