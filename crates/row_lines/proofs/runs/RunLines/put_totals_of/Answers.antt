use Rattle.std.proofs.Common.{◌≡◌, ◌≤◌, ◌∷◌, ◌++◌, ℕ, [], get_or, if◌then◌else◌, length, pos, ap, arith, subst, sym, ◌∙◌}
use Rattle.line_pages.specs.Rows.{piece_text_at}
use Rattle.schema_facts.specs.ColumnFacts.{field_facts}
use Rattle.schema_facts.specs.Dictionaries.{Project}
use Rattle.schema_facts.specs.Layout.{layout_of}
use Rattle.draw_values.specs.Runs.{AreRunRows, IsRunColumn, RunColumnOf, is_null_in, null_text, run_row}
use Rattle.draw_values.specs.Values.{number_text}
use Rattle.life_intervals.specs.Generator.{last_unit}
use Rattle.row_lines.specs.RunValues.{digits_in, number_of}
use Rattle.row_lines.specs.Runs.{RunLinesOf}
use Rattle.row_lines.specs.TableLines.{TableLinesOf, table_lines}
use Rattle.row_lines.proofs.RunFieldLemmas.{lines_of, run_rows}
use Rattle.row_lines.proofs.RunPieceLemmas.{AreRunLines-view, column_of-is, columns-at, length-columns}
use Rattle.row_lines.proofs.RunTotalLemmas.{length-number, size-total_for, small-number, text-totalled}
use Rattle.row_lines.proofs.RunValueLemmas.{made-nulled}
use Rattle.row_lines.proofs.runs.RunLines.put_totals_of.Goals as goal
use Rattle.row_lines.proofs.runs.RunLines.put_totals_of.Goals.{After-columns-own}

own_are : (c : After-columns-own) → c.columns-own.result.now ≡ (table_lines c.args.self.now.plan c.args.self.now.table).columns
own_are c =
    let known = AreRunLines-view _ c.args.self.now c.self.inside.lines.now c.self.view_is c.self.invariant in
    c.columns-own.ensures ∙ ap (λ (kept : TableLinesOf). kept.columns) known.kept_are

pub fill_numbers-requires-clause-short : goal.fill_numbers-requires-clause-short
fill_numbers-requires-clause-short c = λ i inside.
    let lines : RunLinesOf = c.args.self.now in
    small-number (field_facts (layout_of lines.plan) lines.table c.args.column).numbers (number_of lines c.args.column (get_or c.args.totals.now i (pos 0))) c.requires.small
    (c.requires.totals.within i (omega (arith, inside, c.requires.same)))

pub bounds-own-column : goal.bounds-own-column
bounds-own-column c =
    let lines : RunLinesOf = c.args.self.now in
    omega (arith, c.requires.column, length-columns lines.plan lines.table c.columns-own.result.now (own_are (goal.at.bounds-own-column c).After-columns-own))

pub null_out-requires-clause-column : goal.null_out-requires-clause-column
null_out-requires-clause-column c =
    let lines : RunLinesOf = c.args.self.now in
    let known = AreRunLines-view _ lines c.self.inside.lines.now c.self.view_is c.self.invariant in
    let are = own_are (goal.at.null_out-requires-clause-column c).After-columns-own in
    let is = columns-at lines.plan lines.table c.args.column c.columns-own.result.now c.index-own-column.result are c.requires.column c.index-own-column.is in
    subst (λ (plan : Project). IsRunColumn plan c.index-own-column.result) (sym (c.plan.ensures ∙ ap (λ (of : RunLinesOf). of.plan) c.self.view_is))
    (column_of-is lines.plan lines.table c.args.column c.index-own-column.result known.table c.requires.column is)

pub null_out-requires-clause-rows : goal.null_out-requires-clause-rows
null_out-requires-clause-rows c =
    let lines : RunLinesOf = c.args.self.now in
    let known = AreRunLines-view _ lines c.self.inside.lines.now c.self.view_is c.self.invariant in
    subst (λ (plan : Project). AreRunRows (last_unit plan) (length c.fill_numbers.new.pieces) c.args.rows) (sym (c.plan.ensures ∙ ap (λ (of : RunLinesOf). of.plan) c.self.view_is))
    (run_rows lines c.args.rows (length c.fill_numbers.new.pieces) known.unit c.requires.rows (omega (arith, c.fill_numbers.auto.pieces, c.requires.pieces)))

pub returns : goal.returns
returns c =
    let lines : RunLinesOf = c.args.self.now in
    let known = AreRunLines-view _ lines c.self.inside.lines.now c.self.view_is c.self.invariant in
    let run : RunColumnOf = c.index-own-column.result in
    let own = columns-at lines.plan lines.table c.args.column c.columns-own.result.now run (own_are (goal.at.returns c).After-columns-own) c.requires.column c.index-own-column.is in
    let plan_is = c.plan.ensures ∙ ap (λ (of : RunLinesOf). of.plan) c.self.view_is in
    let few : digits_in lines c.args.column ≤ 9 = omega (arith, c.decimals-decimals.ensures.digits, c.decimals-decimals.ensures.few) in
    let size = size-total_for (lines_of lines) c.args.column c.requires.column c.requires.total in
    made-nulled lines c.args.rows c.args.column run c.fill_numbers.new.pieces c.null_out.new.pieces (λ i. number_text (number_of lines c.args.column (get_or c.args.totals.now i (pos 0)))) known.table
    c.requires.rows own (omega (arith, size))
    (λ i inside. text-totalled lines c.args.rows.ordinals.now c.args.totals.now c.args.column i c.requires.total c.requires.totals inside)
    (λ i inside. c.fill_numbers.ensures i (omega (arith, inside, c.requires.pieces))
    ∙ ap (λ (digits : ℕ). number_text (record { value = get_or c.args.totals.now i (pos 0); decimals = digits }) ++ c.args.behind ∷ []) c.decimals-decimals.ensures.digits
    ∙ ap (λ (byte : ℕ). number_text (number_of lines c.args.column (get_or c.args.totals.now i (pos 0))) ++ byte ∷ []) c.requires.behind)
    (λ i inside. omega (
      arith,
      size,
      length-number (number_of lines c.args.column (get_or c.args.totals.now i (pos 0))) few
          (small-number (field_facts (layout_of lines.plan) lines.table c.args.column).numbers (number_of lines c.args.column (get_or c.args.totals.now i (pos 0))) c.requires.small (c.requires.totals.within i inside)),
    ))
    (λ i inside. subst (λ (plan : Project). piece_text_at c.null_out.new.pieces i ≡ (if is_null_in plan run (run_row c.args.rows i) then null_text run else piece_text_at c.fill_numbers.new.pieces i)) plan_is
    (c.null_out.ensures i (omega (arith, inside, c.fill_numbers.auto.pieces, c.requires.pieces))))
