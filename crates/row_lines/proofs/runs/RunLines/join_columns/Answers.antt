use Rattle.std.proofs.Common.{◌≡◌, ◌<◌, ◌+◌, ◌-◌, ℕ, ℤ, w64, to_z, of_z, List, Some, get_or, length, pos, ap, arith, subst, sym, ◌∙◌}
use Rattle.std.proofs.lemmas.List.{get_or-replicate}
use Rattle.schema_plan.specs.declared.ready.ReadyColumn.{ReadyColumn}
use Rattle.schema_facts.specs.ColumnFacts.{field_facts}
use Rattle.schema_facts.specs.Dictionaries.{Project}
use Rattle.schema_facts.specs.Layout.{layout_of}
use Rattle.schema_plan.specs.Ready.{ready_columns}
use Rattle.draw_values.specs.declared.leaf_numbers.Number.{Number}
use Rattle.draw_values.specs.CohortValues.{IsNumberOf}
use Rattle.draw_values.specs.Runs.{AreRunRows, IsRunColumn, RunColumnOf, number_in, run_row}
use Rattle.life_intervals.specs.Generator.{last_unit}
use Rattle.life_intervals.proofs.CohortParentLemmas.{length-ready_columns}
use Rattle.row_lines.specs.CohortLines.{LinesOf}
use Rattle.row_lines.specs.RunFields.{AreRunLines}
use Rattle.row_lines.specs.Runs.{RunLinesOf, layout_for}
use Rattle.row_lines.specs.TableLines.{TableLinesOf, column_of, table_lines}
use Rattle.row_lines.specs.Totals.{IsTotalOf, digits_for, start_of}
use Rattle.row_lines.proofs.CohortFieldLemmas.{ready_at}
use Rattle.row_lines.proofs.RunFieldLemmas.{lines_of, run_rows}
use Rattle.row_lines.proofs.RunPieceLemmas.{AreRunLines-view, column_of-is, columns-at, length-columns}
use Rattle.row_lines.proofs.RunTotalLemmas.{IsRowNext, IsRowSoFar, back_range, row-none, rows-more, rows-totals, start-few, start_range, total-here}
use Rattle.row_lines.proofs.runs.RunLines.join_columns.Goals as goal
use Rattle.row_lines.proofs.runs.RunLines.join_columns.Goals.{After-new-fields, After-start-start, In-loop-place, After-index-own-place, After-saturating_sub-more}

-- ---- the total

known : (c : After-new-fields) → AreRunLines c.args.self.now c.self.inside.lines.now
known c = AreRunLines-view _ c.args.self.now c.self.inside.lines.now c.self.view_is c.self.invariant

fields_are : (c : After-new-fields) → c.new-fields.result ≡ lines_of c.args.self.now
fields_are c = c.new-fields.ensures ∙ ap lines_of c.self.view_is

total_is : (c : After-new-fields) → IsTotalOf (lines_of c.args.self.now) c.args.column c.args.of.now c.args.join
total_is c =
    total-here (lines_of c.args.self.now) (known c).sound (known c).table (known c).limits c.args.column c.args.of.now c.args.join c.requires.column c.requires.total

pub start-start-requires : goal.start-start-requires
start-start-requires c =
    let here = (goal.at.start-start-requires c).After-new-fields in
    subst (λ (of : LinesOf). IsTotalOf of c.args.column c.args.of.now c.args.join) (sym (fields_are here)) (total_is here)

-- the number that the operands are joined from
start_is : (c : After-start-start) → c.start-start.result ≡ start_of c.args.join (digits_for (lines_of c.args.self.now) c.args.of.now)
start_is c =
    c.start-start.ensures ∙ ap (λ (of : LinesOf). start_of c.args.join (digits_for of c.args.of.now)) (c.new-fields.ensures ∙ ap lines_of c.self.view_is)

pub loop-place-init : goal.loop-place-init
loop-place-init c = record {
  so_far = λ r inside.
      let here = (goal.at.loop-place-init c).After-start-start in
      let lines : RunLinesOf = c.args.self.now in
      let value_is : get_or c.fill.new.self r (pos 0) ≡ (start_of c.args.join (digits_for (lines_of lines) c.args.of.now)).value =
      ap (λ (totals : List ℤ). get_or totals r (pos 0)) (c.fill.ensures.after (λ y same. same))
      ∙ get_or-replicate (length c.args.totals.now) r (to_z w64 (of_z w64 c.start-start.result.value)) (pos 0) (omega (arith, inside, c.requires.totals))
      ∙ ap (λ (number : Number). to_z w64 (of_z w64 number.value)) (start_is here)
      ∙ back_range (start_of c.args.join (digits_for (lines_of lines) c.args.of.now)).value (start_range c.args.join (digits_for (lines_of lines) c.args.of.now)) in
      subst (IsRowSoFar lines c.args.rows c.args.column c.args.of.now c.args.join 0 r) (sym value_is) (row-none lines c.args.rows c.args.column c.args.of.now c.args.join r);
}

-- ---- the column of an operand

-- stands before
before : (c : In-loop-place) → get_or c.args.of.now c.loop-place.place-index 0 < length (layout_for c.args.self.now).columns
before c =
    let known = AreRunLines-view _ c.args.self.now c.self.inside.lines.now c.self.view_is c.self.invariant in
    let is = total-here (lines_of c.args.self.now) known.sound known.table known.limits c.args.column c.args.of.now c.args.join c.requires.column c.requires.total in
    omega (arith, is.earlier c.loop-place.place-index 0 c.loop-place-test.true, c.requires.column)

ready_are : (c : In-loop-place) → c.columns-columns.result.now ≡ ready_columns (layout_of c.args.self.now.plan) c.args.self.now.table
ready_are c =
    c.columns-columns.ensures.columns ∙ ap (λ (plan : Project). ready_columns (layout_of plan) c.self.inside.table) c.plan-plan.ensures
    ∙ ap (λ (of : RunLinesOf). ready_columns (layout_of of.plan) of.table) c.self.view_is

ready_many : (c : In-loop-place) → get_or c.args.of.now c.loop-place.place-index 0 < length c.columns-columns.result.now
ready_many c =
    omega (arith, before c, ap (λ (all : List ReadyColumn). length all) (ready_are c), length-ready_columns c.args.self.now.plan c.args.self.now.table)

own_are : (c : In-loop-place) → c.columns-own.result.now ≡ (table_lines c.args.self.now.plan c.args.self.now.table).columns
own_are c =
    let known = AreRunLines-view _ c.args.self.now c.self.inside.lines.now c.self.view_is c.self.invariant in
    c.columns-own.ensures ∙ ap (λ (kept : TableLinesOf). kept.columns) known.kept_are

pub bounds-columns-place : goal.bounds-columns-place
bounds-columns-place c = ready_many (goal.at.bounds-columns-place c).In-loop-place

pub bounds-columns-place-in-loop-place : goal.bounds-columns-place-in-loop-place
bounds-columns-place-in-loop-place c = ready_many (goal.at.bounds-columns-place-in-loop-place c).In-loop-place

pub bounds-own-place : goal.bounds-own-place
bounds-own-place c =
    let here = (goal.at.bounds-own-place c).In-loop-place in
    let lines : RunLinesOf = c.args.self.now in
    omega (arith, before here, length-columns lines.plan lines.table c.columns-own.result.now (own_are here))

-- what is prepared of it
own_is : (c : After-index-own-place) → c.columns-own.result.now ≡ (table_lines c.args.self.now.plan c.args.self.now.table).columns →
    get_or c.args.of.now c.loop-place.place-index 0 < length (layout_for c.args.self.now).columns →
    c.index-own-place.result ≡ column_of c.args.self.now.plan c.args.self.now.table (get_or c.args.of.now c.loop-place.place-index 0)
own_is c are within =
    columns-at c.args.self.now.plan c.args.self.now.table (get_or c.args.of.now c.loop-place.place-index 0) c.columns-own.result.now c.index-own-place.result are within c.index-own-place.is

pub put_numbers-requires-clause-column : goal.put_numbers-requires-clause-column
put_numbers-requires-clause-column c =
    let at = goal.at.put_numbers-requires-clause-column c in
    let lines : RunLinesOf = c.args.self.now in
    let known = AreRunLines-view _ lines c.self.inside.lines.now c.self.view_is c.self.invariant in
    let within = before at.In-loop-place in
    subst (λ (plan : Project). IsRunColumn plan c.index-own-place.result) (sym (c.plan-plan.ensures ∙ ap (λ (of : RunLinesOf). of.plan) c.self.view_is))
    (column_of-is lines.plan lines.table (get_or c.args.of.now c.loop-place.place-index 0) c.index-own-place.result known.table within (own_is at.After-index-own-place (own_are at.In-loop-place) within))

pub put_numbers-requires-clause-rows : goal.put_numbers-requires-clause-rows
put_numbers-requires-clause-rows c =
    let lines : RunLinesOf = c.args.self.now in
    let known = AreRunLines-view _ lines c.self.inside.lines.now c.self.view_is c.self.invariant in
    subst (λ (plan : Project). AreRunRows (last_unit plan) (length c.loop-place.operands) c.args.rows) (sym (c.plan-plan.ensures ∙ ap (λ (of : RunLinesOf). of.plan) c.self.view_is))
    (run_rows lines c.args.rows (length c.loop-place.operands) known.unit c.requires.rows (omega (arith, c.loop-place.auto.operands, c.requires.operands)))

-- ---- one more operand

next : (c : After-saturating_sub-more) → (b : In-loop-place) → c.columns-own.result.now ≡ (table_lines c.args.self.now.plan c.args.self.now.table).columns →
    c.columns-columns.result.now ≡ ready_columns (layout_of c.args.self.now.plan) c.args.self.now.table →
    get_or c.args.of.now c.loop-place.place-index 0 < length (layout_for c.args.self.now).columns →
    (r : ℕ) → r < length c.args.rows.ordinals.now →
    IsRowNext c.args.self.now c.args.rows c.args.column c.args.of.now c.args.join c.loop-place.place-index r c.saturating_sub-more.result (get_or c.loop-place.totals r (pos 0)) (get_or c.put_numbers.new.values r (pos 0))
next c b are ready within r inside =
    let lines : RunLinesOf = c.args.self.now in
    let known = AreRunLines-view _ lines c.self.inside.lines.now c.self.view_is c.self.invariant in
    let place : ℕ = get_or c.args.of.now c.loop-place.place-index 0 in
    let run : RunColumnOf = c.index-own-place.result in
    let plan_is = c.plan-plan.ensures ∙ ap (λ (of : RunLinesOf). of.plan) c.self.view_is in
    let is = total-here (lines_of lines) known.sound known.table known.limits c.args.column c.args.of.now c.args.join c.requires.column c.requires.total in
    let start = c.start-start.ensures ∙ ap (λ (of : LinesOf). start_of c.args.join (digits_for of c.args.of.now)) (c.new-fields.ensures ∙ ap lines_of c.self.view_is) in
    rows-more lines c.args.rows c.args.column c.args.of.now c.args.join c.loop-place.place-index c.saturating_sub-more.result c.in-Some.decimals c.loop-place.totals c.put_numbers.new.values run is
    c.loop-place-test.true known.table known.unit c.requires.rows c.loop-place.invariant.so_far
    (columns-at lines.plan lines.table place c.columns-own.result.now run are within c.index-own-place.is)
    (omega (arith, c.if-columns-place-gt0.false, ap (λ (of : ReadyColumn). of.null) c.index-columns-place.is, ap (λ (of : ReadyColumn). of.null) (ready_at (lines_of lines) c.columns-columns.result.now ready place c.index-columns-place.result within c.index-columns-place.is)))
    (λ i below. subst (λ (plan : Project). number_in plan run (run_row c.args.rows i) ≡ Some (record { value = get_or c.put_numbers.new.values i (pos 0); decimals = c.in-Some.decimals })) plan_is
    (c.in-Some.ensures.exact i (omega (arith, below, c.loop-place.auto.operands, c.requires.operands))))
    (λ i below. subst (λ (plan : Project). IsNumberOf (field_facts (layout_of plan) run.table run.column).numbers (record { value = get_or c.put_numbers.new.values i (pos 0); decimals = c.in-Some.decimals })) plan_is
    (c.in-Some.ensures.within i (omega (arith, below, c.loop-place.auto.operands, c.requires.operands))))
    (c.saturating_sub-more.ensures ∙ ap (λ (number : Number). number.decimals - c.in-Some.decimals) start) r inside

pub join_all-requires-clause-more : goal.join_all-requires-clause-more
join_all-requires-clause-more c =
    let at = goal.at.join_all-requires-clause-more c in
    let start = start_is at.After-start-start in
    omega (
      arith,
      c.saturating_sub-more.ensures,
      ap (λ (number : Number). number.decimals) start,
      start-few (lines_of c.args.self.now) c.args.column c.args.of.now c.args.join (total_is at.After-new-fields),
    )

pub join_all-requires-clause-operands : goal.join_all-requires-clause-operands
join_all-requires-clause-operands c = λ i inside.
    let at = goal.at.join_all-requires-clause-operands c in
    (next at.After-saturating_sub-more at.In-loop-place (own_are at.In-loop-place) (ready_are at.In-loop-place) (before at.In-loop-place) i
    (omega (arith, inside, c.loop-place.auto.totals, c.fill.ensures.len, c.requires.totals))).own_in

pub join_all-requires-clause-scaled : goal.join_all-requires-clause-scaled
join_all-requires-clause-scaled c = λ i inside.
    let at = goal.at.join_all-requires-clause-scaled c in
    (next at.After-saturating_sub-more at.In-loop-place (own_are at.In-loop-place) (ready_are at.In-loop-place) (before at.In-loop-place) i
    (omega (arith, inside, c.loop-place.auto.totals, c.fill.ensures.len, c.requires.totals))).operand_in

pub join_all-requires-clause-total : goal.join_all-requires-clause-total
join_all-requires-clause-total c = λ i inside.
    let at = goal.at.join_all-requires-clause-total c in
    (next at.After-saturating_sub-more at.In-loop-place (own_are at.In-loop-place) (ready_are at.In-loop-place) (before at.In-loop-place) i
    (omega (arith, inside, c.loop-place.auto.totals, c.fill.ensures.len, c.requires.totals))).total_in

pub loop-place-preserved : goal.loop-place-preserved
loop-place-preserved c = record {
  so_far = λ r inside.
      let at = goal.at.loop-place-preserved c in
      subst (IsRowSoFar c.args.self.now c.args.rows c.args.column c.args.of.now c.args.join (c.loop-place.place-index + 1) r)
      (sym (c.join_all.ensures r (omega (arith, inside, c.loop-place.auto.totals, c.fill.ensures.len, c.requires.totals))))
      (next at.After-saturating_sub-more at.In-loop-place (own_are at.In-loop-place) (ready_are at.In-loop-place) (before at.In-loop-place) r inside).so_far;
}

pub returns : goal.returns
returns c = λ found.
    let lines : RunLinesOf = c.args.self.now in
    let known = AreRunLines-view _ lines c.self.inside.lines.now c.self.view_is c.self.invariant in
    rows-totals lines c.args.rows c.args.column c.args.of.now c.args.join c.loop-place.place-index c.loop-place.totals
    (total-here (lines_of lines) known.sound known.table known.limits c.args.column c.args.of.now c.args.join c.requires.column c.requires.total) c.requires.total
    (omega (arith, c.loop-place-test.false)) known.table known.unit c.requires.rows c.loop-place.invariant.so_far
