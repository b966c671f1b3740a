use Rattle.std.proofs.Common.{◌≡◌, ℕ, ◌+◌, true, false, get_or, length, ap, arith, subst, sym, ◌∙◌}
use Rattle.schema_facts.specs.Dictionaries.{Project}
use Rattle.draw_values.specs.Items.{itemized_field}
use Rattle.draw_values.specs.Runs.{AreRunRows, IsRunColumn, RunColumnOf, run_row}
use Rattle.life_intervals.specs.Generator.{last_unit}
use Rattle.row_lines.specs.Runs.{RunLinesOf}
use Rattle.row_lines.specs.TableLines.{TableLinesOf, column_of, table_lines}
use Rattle.row_lines.proofs.RunFieldLemmas.{run_rows}
use Rattle.row_lines.proofs.RunPieceLemmas.{AreRunLines-view, column_of-is, columns-at, length-columns}
use Rattle.row_lines.proofs.runs.RunLines.itemize_column.Goals as goal
use Rattle.row_lines.proofs.runs.RunLines.itemize_column.Goals.{After-columns-columns, After-index-columns-column, After-plan}

clash : true ≡ false → ⊥
clash same = cc

-- what is kept of the columns
kept_are : (c : After-columns-columns) → c.columns-columns.result.now ≡ (table_lines c.args.self.now.plan c.args.self.now.table).columns
kept_are c =
    let known = AreRunLines-view _ c.args.self.now c.self.inside.lines.now c.self.view_is c.self.invariant in
    c.columns-columns.ensures ∙ ap (λ (kept : TableLinesOf). kept.columns) known.kept_are

column_is : (c : After-index-columns-column) → c.index-columns-column.result ≡ column_of c.args.self.now.plan c.args.self.now.table c.args.column
column_is c = columns-at c.args.self.now.plan c.args.self.now.table c.args.column c.columns-columns.result.now c.index-columns-column.result
    (let known = AreRunLines-view _ c.args.self.now c.self.inside.lines.now c.self.view_is c.self.invariant in c.columns-columns.ensures ∙ ap (λ (kept : TableLinesOf). kept.columns) known.kept_are)
    c.requires.column c.index-columns-column.is

plan_is : (c : After-plan) → c.plan.result.now ≡ c.args.self.now.plan
plan_is c = c.plan.ensures ∙ ap (λ (of : RunLinesOf). of.plan) c.self.view_is

pub bounds-columns-column : goal.bounds-columns-column
bounds-columns-column c =
    let here = (goal.at.bounds-columns-column c).After-columns-columns in
    omega (arith, c.requires.column, length-columns c.args.self.now.plan c.args.self.now.table c.columns-columns.result.now (kept_are here))

pub itemize-requires-clause-column : goal.itemize-requires-clause-column
itemize-requires-clause-column c =
    let lines : RunLinesOf = c.args.self.now in
    let here = (goal.at.itemize-requires-clause-column c).After-plan in
    let known = AreRunLines-view _ lines c.self.inside.lines.now c.self.view_is c.self.invariant in
    subst (λ (plan : Project). IsRunColumn plan c.index-columns-column.result) (sym (plan_is here))
    (column_of-is lines.plan lines.table c.args.column c.index-columns-column.result known.table c.requires.column (column_is (goal.at.itemize-requires-clause-column c).After-index-columns-column))

pub itemize-requires-clause-itemized : goal.itemize-requires-clause-itemized
itemize-requires-clause-itemized c = sym c.is_itemized.ensures ∙ c.if-is_itemized.true

pub itemize-requires-clause-rows : goal.itemize-requires-clause-rows
itemize-requires-clause-rows c =
    let lines : RunLinesOf = c.args.self.now in
    let here = (goal.at.itemize-requires-clause-rows c).After-plan in
    let known = AreRunLines-view _ lines c.self.inside.lines.now c.self.view_is c.self.invariant in
    subst (λ (plan : Project). AreRunRows (last_unit plan) (length c.args.fields.now) c.args.rows) (sym (plan_is here))
    (run_rows lines c.args.rows (length c.args.fields.now) known.unit c.requires.rows c.requires.fields)

pub returns-then-is_itemized : goal.returns-then-is_itemized
returns-then-is_itemized c = λ itemized.
    let lines : RunLinesOf = c.args.self.now in
    let here = (goal.at.returns-then-is_itemized c).After-plan in
    record {
      each = λ i d inside.
          let begun : 0 + i ≡ i = omega arith in
          ap (λ (place : ℕ). get_or c.itemize.new.fields place d) begun
          ∙ c.itemize.ensures i d (omega (arith, inside, c.requires.fields))
          ∙ ap (λ (plan : Project). itemized_field plan c.index-columns-column.result (run_row c.args.rows i)) (plan_is here)
          ∙ ap (λ (run : RunColumnOf). itemized_field lines.plan run (run_row c.args.rows i)) (column_is (goal.at.returns-then-is_itemized c).After-index-columns-column);
    }

pub returns-else-is_itemized : goal.returns-else-is_itemized
returns-else-is_itemized c = λ itemized.
    let here = (goal.at.returns-else-is_itemized c).After-index-columns-column in
    absurd (clash (sym itemized ∙ sym (ap (λ (run : RunColumnOf). run.itemized) (column_is here)) ∙ sym c.is_itemized.ensures ∙ c.if-is_itemized.false))
