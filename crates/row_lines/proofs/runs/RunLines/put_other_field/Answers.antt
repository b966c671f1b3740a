use Rattle.std.proofs.Common.{◌≡◌, ◌-◌, ◌++◌, ℕ, List, length, get_or, ap, arith, subst, sym, ◌∙◌}
use Rattle.cohort_sizes.specs.Births.{first_ordinal}
use Rattle.schema_facts.specs.Dictionaries.{Project}
use Rattle.draw_values.specs.Runs.{AreColumnsOf, RunColumnOf}
use Rattle.life_intervals.specs.Generator.{generator_of, last_unit, table_of}
use Rattle.life_intervals.proofs.LifeLemmas.{change_unit-le}
use Rattle.row_lines.specs.CohortLines.{LinesOf, size_for}
use Rattle.row_lines.specs.RunFields.{AreRunLines}
use Rattle.row_lines.specs.Runs.{RunLinesOf}
use Rattle.row_lines.specs.TableLines.{TableLinesOf}
use Rattle.row_lines.proofs.RowOfRunLemmas.{IsRowOf, behind_of_run, field_of_run, row_of_run}
use Rattle.row_lines.proofs.RunFieldLemmas.{run-born}
use Rattle.row_lines.proofs.RunPieceLemmas.{AreRunLines-view, columns-seeds}
use Rattle.row_lines.proofs.runs.RunLines.put_other_field.Goals as goal
use Rattle.row_lines.proofs.runs.RunLines.put_other_field.Goals.{After-columns-columns}

known : (g : _) (c : After-columns-columns g) → AreRunLines c.args.self.now c.self.inside.lines.now
known g c = AreRunLines-view _ c.args.self.now c.self.inside.lines.now c.self.view_is c.self.invariant

row_is : (g : _) (c : After-columns-columns g) →
    IsRowOf c.args.lines.now (get_or c.args.rows.ordinals.now c.args.row 0 - c.cohort.result.first) (get_or c.args.rows.ordinals.now c.args.row 0) c.args.key (get_or c.args.rows.changes.now c.args.row 0)
row_is g c =
    let lines : RunLinesOf = c.args.self.now in
    let ordinal : ℕ = get_or c.args.rows.ordinals.now c.args.row 0 in
    let born : ℕ = get_or c.args.rows.births.now c.args.row 0 in
    let first : c.cohort.result.first ≡ first_ordinal (table_of lines.plan lines.table).births born =
    c.cohort.ensures.first ∙ ap (λ (plan : Project). first_ordinal (table_of plan c.self.inside.table).births born) c.plan-plan.ensures
    ∙ ap (λ (of : RunLinesOf). first_ordinal (table_of of.plan of.table).births born) c.self.view_is in
    subst (λ (of : LinesOf). IsRowOf of (ordinal - c.cohort.result.first) ordinal c.args.key (get_or c.args.rows.changes.now c.args.row 0)) (sym c.requires.lines)
    (row_of_run lines c.args.rows.ordinals.now c.args.rows.births.now c.args.row c.cohort.result.first c.args.key (get_or c.args.rows.changes.now c.args.row 0) c.requires.rows.living (known g c).unit
    c.requires.row first c.requires.key (c.requires.rows.changes.each c.args.row c.requires.row))

pub kept-values-requires-clause-columns : goal.kept-values-requires-clause-columns
kept-values-requires-clause-columns g c =
    let lines : RunLinesOf = c.args.self.now in
    let of = AreRunLines-view _ lines c.self.inside.lines.now c.self.view_is c.self.invariant in
    let columns : List RunColumnOf = c.columns-columns.result.now in
    subst (λ (plan : Project). AreColumnsOf plan c.self.inside.table columns) (sym c.plan-plan.ensures)
    (subst (λ (l : RunLinesOf). AreColumnsOf l.plan l.table columns) (sym c.self.view_is)
    (columns-seeds lines.plan lines.table columns (c.columns-columns.ensures ∙ ap (λ (kept : TableLinesOf). kept.columns) of.kept_are)))

pub kept-values-requires-clause-changed : goal.kept-values-requires-clause-changed
kept-values-requires-clause-changed g c =
    let lines : RunLinesOf = c.args.self.now in
    let of = AreRunLines-view _ lines c.self.inside.lines.now c.self.view_is c.self.invariant in
    let row : ℕ = c.args.row in
    omega (
      arith,
      c.requires.rows.changes.each row c.requires.row,
      change_unit-le (generator_of lines.plan) lines.table lines.unit (get_or c.args.rows.ordinals.now row 0)
          (run-born lines.plan lines.table lines.unit c.args.rows.ordinals.now c.args.rows.births.now c.requires.rows.living.run row c.requires.row),
      of.unit,
      ap (λ (plan : Project). last_unit plan) c.plan-plan.ensures,
      ap (λ (l : RunLinesOf). last_unit l.plan) c.self.view_is,
    )

pub put_field_behind-requires-clause-alive : goal.put_field_behind-requires-clause-alive
put_field_behind-requires-clause-alive g c = (row_is g (goal.at.put_field_behind-requires-clause-alive g c).After-columns-columns).alive

pub put_field_behind-requires-clause-key : goal.put_field_behind-requires-clause-key
put_field_behind-requires-clause-key g c = (row_is g (goal.at.put_field_behind-requires-clause-key g c).After-columns-columns).key_is

pub returns-clause-text : goal.returns-clause-text
returns-clause-text g c =
    let here = (goal.at.returns-clause-text g c).After-columns-columns in
    c.put_field_behind.ensures.text
    ∙ ap (λ (text : List ℕ). record { text = c.args.page.now.text ++ text; room = c.args.page.now.room })
    (behind_of_run c.args.self.now c.args.lines.now (get_or c.args.rows.births.now c.args.row 0) _ _ _ _ c.args.column c.requires.lines (row_is g here))

pub returns-clause-size : goal.returns-clause-size
returns-clause-size g c =
    let here = (goal.at.returns-clause-size g c).After-columns-columns in
    omega (
      arith,
      c.put_field_behind.ensures.size,
      ap (λ (text : List ℕ). length text) (field_of_run c.args.self.now c.args.lines.now (get_or c.args.rows.births.now c.args.row 0) _ _ _ _ c.args.column c.requires.lines (row_is g here)),
      ap (λ (of : LinesOf). size_for of c.args.column) c.requires.lines,
    )
