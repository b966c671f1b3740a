use Rattle.std.proofs.Common.{◌≡◌, ◌<◌, ◌≤◌, ◌∷◌, ◌++◌, ℕ, List, [], false, length, get_or, if◌then◌else◌, ap, arith, subst, sym, ◌∙◌}
use Rattle.line_pages.specs.Rows.{piece_text_at}
use Rattle.schema_plan.specs.declared.ready.ReadyColumn.{ReadyColumn}
use Rattle.schema_facts.specs.Dictionaries.{Project}
use Rattle.schema_facts.specs.Layout.{layout_of}
use Rattle.schema_plan.specs.Limits.{IsStillColumn}
use Rattle.schema_plan.specs.Ready.{ready_columns}
use Rattle.draw_values.specs.Runs.{AreRunRows, IsRunColumn, RunColumnOf, is_null_in, null_text, run_column, run_row}
use Rattle.draw_values.specs.Values.{size_at}
use Rattle.life_intervals.specs.CohortParents.{IsReferenceOf}
use Rattle.life_intervals.specs.Generator.{last_unit, table_of}
use Rattle.life_intervals.specs.Runs.{IsRun}
use Rattle.row_lines.specs.Lookups.{text_held}
use Rattle.row_lines.specs.RunFields.{AreRunLines, column_lines}
use Rattle.row_lines.specs.Runs.{RunLinesOf}
use Rattle.row_lines.specs.TableLines.{TableLinesOf, behind_of, table_lines}
use Rattle.row_lines.proofs.LookupLemmas.{looks_up_still}
use Rattle.row_lines.proofs.RunFieldLemmas.{run_rows}
use Rattle.row_lines.proofs.RunLookupLemmas.{length-shown, lookup-parent, lookup-steps, lookup_by_reference, lookup_refers, made-lookups, shown-at, shown-lookup, shown-short, shown_column-is}
use Rattle.row_lines.proofs.RunPieceLemmas.{AreRunLines-view, column_of-is, columns-at, length-columns}
use Rattle.row_lines.proofs.runs.RunLines.put_lookups.Goals as goal
use Rattle.row_lines.proofs.runs.RunLines.put_lookups.Goals.{After-columns-columns, After-shown-shown, After-columns-own, In-Some}

-- ---- what is kept

ready_are : (g : _) (c : After-columns-columns g) → c.columns-columns.result.now ≡ ready_columns (layout_of c.args.self.now.plan) c.args.self.now.table
ready_are g c =
    c.columns-columns.ensures.columns ∙ ap (λ (plan : Project). ready_columns (layout_of plan) c.self.inside.table) c.plan-plan.ensures
    ∙ ap (λ (of : RunLinesOf). ready_columns (layout_of of.plan) of.table) c.self.view_is

shown_are : (g : _) (c : After-shown-shown g) → c.shown-shown.result.now ≡ (table_lines c.args.self.now.plan c.args.self.now.table).shown
shown_are g c =
    let known = AreRunLines-view _ c.args.self.now c.self.inside.lines.now c.self.view_is c.self.invariant in
    c.shown-shown.ensures ∙ ap (λ (kept : TableLinesOf). kept.shown) known.kept_are

own_are : (g : _) (c : After-columns-own g) → c.columns-own.result.now ≡ (table_lines c.args.self.now.plan c.args.self.now.table).columns
own_are g c =
    let known = AreRunLines-view _ c.args.self.now c.self.inside.lines.now c.self.view_is c.self.invariant in
    c.columns-own.ensures ∙ ap (λ (kept : TableLinesOf). kept.columns) known.kept_are

-- ---- the lookup

known_here : (g : _) (c : In-Some g) → AreRunLines c.args.self.now c.self.inside.lines.now
known_here g c = AreRunLines-view _ c.args.self.now c.self.inside.lines.now c.self.view_is c.self.invariant

-- goes by this reference
refers : (g : _) (c : In-Some g) →
    IsReferenceOf c.args.self.now.plan c.args.self.now.table c.args.lookup.now.via c.in-Reference.reference × (c.in-Reference.reference.parent ≡ c.args.lookup.now.parent) × (c.in-Reference.reference.nulls ≡ false)
refers g c =
    let lines : RunLinesOf = c.args.self.now in
    let known = known_here g c in
    let are = c.columns-columns.ensures.columns ∙ ap (λ (plan : Project). ready_columns (layout_of plan) c.self.inside.table) c.plan-plan.ensures
    ∙ ap (λ (of : RunLinesOf). ready_columns (layout_of of.plan) of.table) c.self.view_is in
    lookup_refers (column_lines lines) known.sound known.table c.columns-columns.result.now are c.args.column c.args.lookup.now c.index-columns-lookup.result c.in-Reference.reference c.requires.lookup
    c.index-columns-lookup.is (ap (λ (column : ReadyColumn). column.kind) c.index-columns-lookup.is ∙ c.in-Reference.is)

-- and shows this column
shown_is : (g : _) (c : In-Some g) → c.in-Some.shown ≡ run_column c.args.self.now.plan c.args.lookup.now.parent c.args.lookup.now.column (behind_of c.args.self.now.plan c.args.self.now.table c.args.column)
shown_is g c =
    let lines : RunLinesOf = c.args.self.now in
    let are = c.shown-shown.ensures ∙ ap (λ (kept : TableLinesOf). kept.shown) (known_here g c).kept_are in
    shown_column-is lines.plan lines.table c.args.column lines.unit c.args.lookup.now c.shown-shown.result.now c.index-shown-column.result c.in-Some.shown are c.requires.lookup c.index-shown-column.is c.in-Some.is

-- ---- the goals

pub returns-in_default : goal.returns-in_default
returns-in_default g c =
    let lines : RunLinesOf = c.args.self.now in
    let known = AreRunLines-view _ lines c.self.inside.lines.now c.self.view_is c.self.invariant in
    let found = lookup_by_reference (column_lines lines) known.sound known.table c.columns-columns.result.now (ready_are g (goal.at.returns-in_default g c).After-columns-columns)
    c.args.column c.args.lookup.now c.index-columns-lookup.result c.requires.lookup c.index-columns-lookup.is in
    absurd (c.in_default.not-Reference found.0 (sym (ap (λ (column : ReadyColumn). column.kind) c.index-columns-lookup.is) ∙ found.1))

pub bounds-shown-column : goal.bounds-shown-column
bounds-shown-column g c =
    let lines : RunLinesOf = c.args.self.now in
    omega (arith, c.requires.lookup.within, length-shown lines.plan lines.table c.shown-shown.result.now (shown_are g (goal.at.bounds-shown-column g c).After-shown-shown))

pub returns-in_default-shown-clause-made : goal.returns-in_default-shown-clause-made
returns-in_default-shown-clause-made g c =
    let lines : RunLinesOf = c.args.self.now in
    absurd
    (c.in_default-shown.not-Some _
    (shown-at lines.plan lines.table c.args.column c.shown-shown.result.now c.index-shown-column.result (shown_are g (goal.at.returns-in_default-shown-clause-made g c).After-shown-shown)
    c.requires.lookup.within c.index-shown-column.is
    ∙ shown-lookup lines.plan lines.table c.args.column lines.unit c.args.lookup.now c.requires.lookup))

pub find_parents-requires-clause-reference : goal.find_parents-requires-clause-reference
find_parents-requires-clause-reference g c =
    let here = (goal.at.find_parents-requires-clause-reference g c).In-Some in
    (refers g here).0

pub put_shown-requires-clause-table : goal.put_shown-requires-clause-table
put_shown-requires-clause-table g c =
    let lines : RunLinesOf = c.args.self.now in
    let here = (goal.at.put_shown-requires-clause-table g c).In-Some in
    subst (λ (run : RunColumnOf). run.table < length lines.plan.schema.tables) (sym (shown_is g here))
    (lookup-parent (column_lines lines) (known_here g here).sound (known_here g here).table c.args.column c.args.lookup.now c.requires.lookup)

pub put_shown-requires-clause-still : goal.put_shown-requires-clause-still
put_shown-requires-clause-still g c =
    let lines : RunLinesOf = c.args.self.now in
    let here = (goal.at.put_shown-requires-clause-still g c).In-Some in
    subst (λ (run : RunColumnOf). IsStillColumn (table_of lines.plan run.table) run.column) (sym (shown_is g here))
    (looks_up_still (column_lines lines) (known_here g here).sound (known_here g here).table c.args.column c.args.lookup.now c.requires.lookup)

pub put_shown-requires-clause-shown : goal.put_shown-requires-clause-shown
put_shown-requires-clause-shown g c =
    let here = (goal.at.put_shown-requires-clause-shown g c).In-Some in
    let is = shown_is g here in
    is ∙ ap (λ (run : RunColumnOf). run_column c.args.self.now.plan run.table run.column run.behind) (sym is)

pub put_shown-requires-clause-short : goal.put_shown-requires-clause-short
put_shown-requires-clause-short g c =
    let lines : RunLinesOf = c.args.self.now in
    let here = (goal.at.put_shown-requires-clause-short g c).In-Some in
    ap (λ (run : RunColumnOf). run.short) (shown_is g here) ∙ shown-short lines.plan lines.table c.args.column lines.unit c.args.lookup.now c.requires.lookup c.requires.short

pub put_shown-requires-clause-rows : goal.put_shown-requires-clause-rows
put_shown-requires-clause-rows g c =
    let lines : RunLinesOf = c.args.self.now in
    let here = (goal.at.put_shown-requires-clause-rows g c).In-Some in
    subst (λ (run : RunColumnOf). IsRun lines.plan run.table lines.unit c.ordinals-ordinals.result.now c.births-births.result.now) (sym (shown_is g here))
    (subst (λ (ordinals : List ℕ). IsRun lines.plan c.args.lookup.now.parent lines.unit ordinals c.births-births.result.now) (sym c.ordinals-ordinals.ensures)
    (subst (λ (births : List ℕ). IsRun lines.plan c.args.lookup.now.parent lines.unit c.find_parents.new.parents.ordinals births) (sym c.births-births.ensures)
    (subst (λ (place : ℕ). IsRun lines.plan place lines.unit c.find_parents.new.parents.ordinals c.find_parents.new.parents.births) (refers g here).1 c.find_parents.ensures.found.run)))

pub bounds-own-column : goal.bounds-own-column
bounds-own-column g c =
    let lines : RunLinesOf = c.args.self.now in
    omega (arith, c.requires.lookup.within, length-columns lines.plan lines.table c.columns-own.result.now (own_are g (goal.at.bounds-own-column g c).After-columns-own))

pub null_out-requires-clause-column : goal.null_out-requires-clause-column
null_out-requires-clause-column g c =
    let lines : RunLinesOf = c.args.self.now in
    let known = AreRunLines-view _ lines c.self.inside.lines.now c.self.view_is c.self.invariant in
    let are = own_are g (goal.at.null_out-requires-clause-column g c).After-columns-own in
    let is = columns-at lines.plan lines.table c.args.column c.columns-own.result.now c.index-own-column.result are c.requires.lookup.within c.index-own-column.is in
    subst (λ (plan : Project). IsRunColumn plan c.index-own-column.result) (sym (c.plan-plan.ensures ∙ ap (λ (of : RunLinesOf). of.plan) c.self.view_is))
    (column_of-is lines.plan lines.table c.args.column c.index-own-column.result known.table c.requires.lookup.within is)

pub null_out-requires-clause-rows : goal.null_out-requires-clause-rows
null_out-requires-clause-rows g c =
    let lines : RunLinesOf = c.args.self.now in
    let known = AreRunLines-view _ lines c.self.inside.lines.now c.self.view_is c.self.invariant in
    subst (λ (plan : Project). AreRunRows (last_unit plan) (length c.put_shown.new.pieces) c.args.rows) (sym (c.plan-plan.ensures ∙ ap (λ (of : RunLinesOf). of.plan) c.self.view_is))
    (run_rows lines c.args.rows (length c.put_shown.new.pieces) known.unit c.requires.rows (omega (arith, c.put_shown.auto.pieces, c.requires.pieces)))

pub returns-clause-made : goal.returns-clause-made
returns-clause-made g c =
    let lines : RunLinesOf = c.args.self.now in
    let here = (goal.at.returns-clause-made g c).In-Some in
    let known = known_here g here in
    let found = refers g here in
    let run : RunColumnOf = c.index-own-column.result in
    let own = columns-at lines.plan lines.table c.args.column c.columns-own.result.now run (own_are g (goal.at.returns-clause-made g c).After-columns-own) c.requires.lookup.within c.index-own-column.is in
    let plan_is = c.plan-plan.ensures ∙ ap (λ (of : RunLinesOf). of.plan) c.self.view_is in
    let many : length c.ordinals-ordinals.result.now ≡ length c.args.rows.ordinals.now =
    ap (λ (ordinals : List ℕ). length ordinals) c.ordinals-ordinals.ensures ∙ c.find_parents.ensures.found.same_length in
    made-lookups lines c.args.rows c.args.column c.args.lookup.now c.in-Reference.reference c.find_parents.new.parents.ordinals run c.put_shown.new.pieces c.null_out.new.pieces known.sound known.table known.unit
    c.requires.rows c.requires.lookup found.0 found.1 found.2 own c.find_parents.ensures.found.each
    (subst (λ (ordinals : List ℕ). (i : ℕ) → i < length c.args.rows.ordinals.now →
    piece_text_at c.put_shown.new.pieces i ≡ text_held lines.plan c.args.lookup.now.parent lines.unit (get_or ordinals i 0) c.args.lookup.now.column ++ behind_of lines.plan lines.table c.args.column ∷ []) c.ordinals-ordinals.ensures
    (λ i inside. subst (λ (shown : RunColumnOf). piece_text_at c.put_shown.new.pieces i ≡ text_held lines.plan shown.table lines.unit (get_or c.ordinals-ordinals.result.now i 0) shown.column ++ shown.behind ∷ []) (shown_is g here)
    (c.put_shown.ensures.text i (omega (arith, inside, many)))))
    (subst (λ (ordinals : List ℕ). (i : ℕ) → i < length c.args.rows.ordinals.now →
    length (text_held lines.plan c.args.lookup.now.parent lines.unit (get_or ordinals i 0) c.args.lookup.now.column) ≤ size_at (layout_of lines.plan) c.args.lookup.now.parent c.args.lookup.now.column) c.ordinals-ordinals.ensures
    (λ i inside. subst (λ (shown : RunColumnOf). length (text_held lines.plan shown.table lines.unit (get_or c.ordinals-ordinals.result.now i 0) shown.column) ≤ size_at (layout_of lines.plan) shown.table shown.column) (shown_is g here)
    (c.put_shown.ensures.size i (omega (arith, inside, many)))))
    (λ i inside. subst (λ (plan : Project). piece_text_at c.null_out.new.pieces i ≡ (if is_null_in plan run (run_row c.args.rows i) then null_text run else piece_text_at c.put_shown.new.pieces i)) plan_is
    (c.null_out.ensures i (omega (arith, inside, c.put_shown.auto.pieces, c.requires.pieces))))

pub returns-clause-steps : goal.returns-clause-steps
returns-clause-steps g c =
    let here = (goal.at.returns-clause-steps g c).In-Some in
    lookup-steps c.args.self.now c.args.column (length c.args.rows.ordinals.now) c.args.steps.now c.find_parents.new.steps c.args.lookup.now c.in-Reference.reference (known_here g here).sound (known_here g here).table
    c.requires.lookup (refers g here).0 c.find_parents.ensures.steps
