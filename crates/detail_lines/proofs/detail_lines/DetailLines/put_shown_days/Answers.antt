use Rattle.std.proofs.Common.{◌≡◌, ◌<◌, ℕ, Some, get_or, length, pos, ap, arith, subst, sym, ◌∙◌}
use Rattle.schema_plan.specs.declared.ready.ReadyColumn.{ReadyColumn}
use Rattle.schema_facts.specs.ColumnFacts.{field_facts}
use Rattle.schema_facts.specs.Dictionaries.{Project}
use Rattle.schema_facts.specs.Layout.{column_at, layout_of}
use Rattle.schema_plan.specs.Ready.{ready_columns}
use Rattle.draw_values.specs.CohortValues.{IsDayOf}
use Rattle.draw_values.specs.Runs.{AreRunRows, IsRunColumn, RunColumnOf, day_in, run_column, run_row}
use Rattle.life_intervals.specs.Generator.{last_unit, table_of}
use Rattle.detail_lines.specs.Made.{LinesOver, behind_over, place_over}
use Rattle.detail_lines.proofs.LineParentLemmas.{below-parent, below-shown, column-few, days-shown, parent-null, parent-rows, shown-is, shown-run, table-within}
use Rattle.detail_lines.proofs.detail_lines.DetailLines.put_shown_days.Goals as goal
use Rattle.detail_lines.proofs.detail_lines.DetailLines.put_shown_days.Goals.{After-columns-held, In-Some}

-- the columns of the parent
held_are : (c : After-columns-held) → c.columns-held.result.now ≡ ready_columns (layout_of c.args.self.now.plan) c.args.lookup.now.parent
held_are c = c.columns-held.ensures.columns ∙ ap (λ (plan : Project). ready_columns (layout_of plan) c.args.lookup.now.parent) c.plan-plan.ensures.value

held_below : (c : After-columns-held) → c.args.lookup.now.column < length c.columns-held.result.now
held_below c =
    below-parent c.args.self.now c.ready-keeps.ensures.keeps c.ready-keeps.ensures.limits c.args.column c.requires.column c.args.lookup.now c.requires.lookup c.columns-held.result.now (held_are c)

-- the one that is shown
shown_here : (c : In-Some) → c.in-Some.shown ≡ run_column c.args.self.now.plan (place_over c.args.self.now) c.args.lookup.now.column (behind_over c.args.self.now c.args.column)
shown_here c =
    shown-run c.args.self.now c.ready-keeps.ensures.keeps c.ready-keeps.ensures.limits c.args.column c.requires.column c.args.lookup.now c.requires.lookup
    c.shown-shown.result.now c.index-shown-column.result c.in-Some.shown c.shown-shown.ensures c.index-shown-column.is c.in-Some.is

pub columns-held-requires : goal.columns-held-requires
columns-held-requires c =
    subst (λ (plan : Project). c.args.lookup.now.parent < length plan.schema.tables) (sym c.plan-plan.ensures.value)
    (table-within c.args.self.now c.ready-keeps.ensures.keeps c.ready-keeps.ensures.limits c.args.column c.requires.column c.args.lookup.now c.requires.lookup)

pub offset_bounds-held-lookup : goal.offset_bounds-held-lookup
offset_bounds-held-lookup c =
    let few = column-few c.args.self.now c.ready-keeps.ensures.keeps c.ready-keeps.ensures.limits c.args.column c.requires.column c.args.lookup.now c.requires.lookup c.plan-plan.ensures.sound in
    record { fits = omega (arith, few) }

pub bounds-held-lookup : goal.bounds-held-lookup
bounds-held-lookup c = held_below (goal.at.bounds-held-lookup c).After-columns-held

pub bounds-held-lookup-2 : goal.bounds-held-lookup-2
bounds-held-lookup-2 c = held_below (goal.at.bounds-held-lookup-2 c).After-columns-held

pub bounds-shown-column : goal.bounds-shown-column
bounds-shown-column c =
    below-shown c.args.self.now c.ready-keeps.ensures.keeps c.ready-keeps.ensures.limits c.args.column c.requires.column c.shown-shown.result.now c.shown-shown.ensures

pub put_days-requires-clause-column : goal.put_days-requires-clause-column
put_days-requires-clause-column c =
    let here = (goal.at.put_days-requires-clause-column c).In-Some in
    subst (λ (plan : Project). IsRunColumn plan c.in-Some.shown) (sym c.plan-plan.ensures.value)
    (shown-is c.args.self.now c.ready-keeps.ensures.keeps c.ready-keeps.ensures.limits c.args.column c.requires.column c.args.lookup.now c.requires.lookup c.in-Some.shown (shown_here here))

pub put_days-requires-clause-rows : goal.put_days-requires-clause-rows
put_days-requires-clause-rows c =
    subst (λ (plan : Project). AreRunRows (last_unit plan) (length c.args.days.now) c.drawn_rows.result) (sym c.plan-plan.ensures.value)
    (subst (λ (many : ℕ). AreRunRows (last_unit c.args.self.now.plan) many c.drawn_rows.result) (sym c.requires.days)
    (parent-rows c.args.self.now c.ready-keeps.ensures.keeps c.ready-keeps.ensures.limits c.args.column c.requires.column c.args.lookup.now c.requires.lookup
    c.args.at.now.unit c.args.count c.args.run.now c.requires.lines c.drawn_rows.result c.drawn_rows.ensures.lengths c.drawn_rows.ensures.rows c.requires.at.unit))

pub returns : goal.returns
returns c = λ found.
    let here = (goal.at.returns c).In-Some in
    let known = (goal.at.returns c).After-columns-held in
    let over : LinesOver = c.args.self.now in
    let keeps = c.ready-keeps.ensures.keeps in
    let limits = c.ready-keeps.ensures.limits in
    let shown : RunColumnOf = c.in-Some.shown in
    let never : (column_at (table_of over.plan (place_over over)).columns c.args.lookup.now.column).null ≡ 0 =
    omega (
      arith,
      c.if-held-lookup-gt0.false,
      parent-null over keeps limits c.args.column c.requires.column c.args.lookup.now c.requires.lookup c.columns-held.result.now c.index-held-lookup.result (held_are known) c.index-held-lookup.is,
      ap (λ (of : ReadyColumn). of.null) c.index-held-lookup.is,
    ) in
    days-shown over keeps limits c.args.column c.requires.column c.args.lookup.now c.requires.lookup c.args.at.now.unit c.args.count c.args.run.now c.requires.lines c.drawn_rows.result
    c.drawn_rows.ensures.lengths c.drawn_rows.ensures.rows shown (shown_here here) never c.put_days.new.days
    (λ k inside. subst (λ (plan : Project). day_in plan shown (run_row c.drawn_rows.result k) ≡ Some (get_or c.put_days.new.days k (pos 0))) c.plan-plan.ensures.value (c.put_days.ensures.exact found k (omega (arith, inside, c.requires.days))))
    (λ k inside. subst (λ (plan : Project). IsDayOf (field_facts (layout_of plan) shown.table shown.column).days (get_or c.put_days.new.days k (pos 0))) c.plan-plan.ensures.value (c.put_days.ensures.within found k (omega (arith, inside, c.requires.days))))
