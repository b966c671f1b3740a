use Rattle.std.proofs.Common.{◌≡◌, ◌∷◌, ◌++◌, ℕ, pos, List, [], length, get_or, if◌then◌else◌, ap, arith, subst, sym, ◌∙◌}
use Rattle.line_pages.specs.Rows.{piece_text_at}
use Rattle.schema_facts.specs.Dictionaries.{Project}
use Rattle.schema_facts.specs.Layout.{column_at}
use Rattle.draw_values.specs.Dates.{date_text}
use Rattle.draw_values.specs.Runs.{AreRunRows, IsRunColumn, is_null_in, null_text, run_row}
use Rattle.life_intervals.specs.Generator.{last_unit}
use Rattle.row_lines.specs.Runs.{RunLinesOf, layout_for}
use Rattle.row_lines.specs.TableLines.{TableLinesOf, table_lines}
use Rattle.row_lines.proofs.DerivedLemmas.{after_here, after_kind-dated, day-calendar, size-day}
use Rattle.row_lines.proofs.RunFieldLemmas.{lines_of, run_rows}
use Rattle.row_lines.proofs.RunPieceLemmas.{AreRunLines-view, column_of-is, columns-at, length-columns}
use Rattle.row_lines.proofs.RunValueLemmas.{length-date, made-nulled, text-dated}
use Rattle.row_lines.proofs.runs.RunLines.put_dates_of.Goals as goal
use Rattle.row_lines.proofs.runs.RunLines.put_dates_of.Goals.{After-columns-own}

-- what is kept of the columns
own_are : (c : After-columns-own) → c.columns-own.result.now ≡ (table_lines c.args.self.now.plan c.args.self.now.table).columns
own_are c =
    let known = AreRunLines-view _ c.args.self.now c.self.inside.lines.now c.self.view_is c.self.invariant in
    c.columns-own.ensures ∙ ap (λ (kept : TableLinesOf). kept.columns) known.kept_are

pub fill_dates_of-requires-clause-days : goal.fill_dates_of-requires-clause-days
fill_dates_of-requires-clause-days c = λ i inside.
    let lines : RunLinesOf = c.args.self.now in
    let known = AreRunLines-view _ lines c.self.inside.lines.now c.self.view_is c.self.invariant in
    let after = after_kind-dated (column_at (layout_for lines).columns c.args.column).kind c.requires.dated in
    day-calendar (lines_of lines) c.args.column after.before after.lo after.hi (get_or c.args.days.now i (pos 0))
    (after_here (lines_of lines) known.sound known.table known.limits c.args.column after.before after.lo after.hi c.requires.column after.is)
    (c.requires.days.within i (omega (arith, inside, c.requires.same)))

pub bounds-own-column : goal.bounds-own-column
bounds-own-column c =
    let lines : RunLinesOf = c.args.self.now in
    omega (arith, c.requires.column, length-columns lines.plan lines.table c.columns-own.result.now (own_are (goal.at.bounds-own-column c).After-columns-own))

pub null_out-requires-clause-column : goal.null_out-requires-clause-column
null_out-requires-clause-column c =
    let lines : RunLinesOf = c.args.self.now in
    let known = AreRunLines-view _ lines c.self.inside.lines.now c.self.view_is c.self.invariant in
    let are = own_are (goal.at.null_out-requires-clause-column c).After-columns-own in
    let is = columns-at lines.plan lines.table c.args.column c.columns-own.result.now c.index-own-column.result are c.requires.column c.index-own-column.is in
    subst (λ (plan : Project). IsRunColumn plan c.index-own-column.result) (sym (c.plan.ensures ∙ ap (λ (of : RunLinesOf). of.plan) c.self.view_is))
    (column_of-is lines.plan lines.table c.args.column c.index-own-column.result known.table c.requires.column is)

pub null_out-requires-clause-rows : goal.null_out-requires-clause-rows
null_out-requires-clause-rows c =
    let lines : RunLinesOf = c.args.self.now in
    let known = AreRunLines-view _ lines c.self.inside.lines.now c.self.view_is c.self.invariant in
    subst (λ (plan : Project). AreRunRows (last_unit plan) (length c.fill_dates_of.new.pieces) c.args.rows) (sym (c.plan.ensures ∙ ap (λ (of : RunLinesOf). of.plan) c.self.view_is))
    (run_rows lines c.args.rows (length c.fill_dates_of.new.pieces) known.unit c.requires.rows (c.fill_dates_of.auto.pieces ∙ c.requires.pieces))

pub returns : goal.returns
returns c =
    let lines : RunLinesOf = c.args.self.now in
    let known = AreRunLines-view _ lines c.self.inside.lines.now c.self.view_is c.self.invariant in
    let are = own_are (goal.at.returns c).After-columns-own in
    let is = columns-at lines.plan lines.table c.args.column c.columns-own.result.now c.index-own-column.result are c.requires.column c.index-own-column.is in
    let shows : ℕ → List ℕ = λ i. date_text (get_or c.args.days.now i (pos 0)) in
    made-nulled lines c.args.rows c.args.column c.index-own-column.result c.fill_dates_of.new.pieces c.null_out.new.pieces shows known.table c.requires.rows is
    (omega (arith, size-day (lines_of lines) c.args.column c.requires.dated))
    (λ i inside. text-dated lines c.args.rows.ordinals.now c.args.days.now c.args.column i c.requires.dated c.requires.days inside)
    (λ i inside. c.fill_dates_of.ensures i (omega (arith, inside, c.requires.pieces)) ∙ ap (λ (byte : ℕ). shows i ++ byte ∷ []) c.requires.behind)
    (λ i inside. omega (arith, length-date (get_or c.args.days.now i (pos 0)), size-day (lines_of lines) c.args.column c.requires.dated))
    (λ i inside. subst (λ (plan : Project). piece_text_at c.null_out.new.pieces i ≡ (if is_null_in plan c.index-own-column.result (run_row c.args.rows i) then null_text c.index-own-column.result else piece_text_at c.fill_dates_of.new.pieces i))
    (c.plan.ensures ∙ ap (λ (of : RunLinesOf). of.plan) c.self.view_is) (c.null_out.ensures i (omega (arith, inside, c.fill_dates_of.auto.pieces, c.requires.pieces))))
