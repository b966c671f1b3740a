use Rattle.std.proofs.Common.{◌≡◌, ◌<◌, ℕ, pos, Some, get_or, length, ap, arith, subst, sym, ◌∙◌}
use Rattle.std.proofs.lemmas.Int.{ints}
use Rattle.schema_plan.specs.declared.ready.ReadyColumn.{ReadyColumn}
use Rattle.schema_facts.specs.Choices.{choices}
use Rattle.schema_facts.specs.ColumnFacts.{field_facts}
use Rattle.schema_facts.specs.Dictionaries.{Project}
use Rattle.schema_facts.specs.Layout.{column_at, layout_of}
use Rattle.schema_plan.specs.Ready.{ready_columns, ready_kind}
use Rattle.draw_values.specs.CohortValues.{IsDayOf}
use Rattle.draw_values.specs.Runs.{AreRunRows, IsRunColumn, RunColumnOf, day_in, run_row}
use Rattle.draw_values.specs.Values.{chosen, draws_at}
use Rattle.life_intervals.specs.Generator.{last_unit}
use Rattle.row_lines.specs.RunFields.{AreRunLines}
use Rattle.row_lines.specs.Runs.{RunLinesOf, layout_for}
use Rattle.row_lines.specs.TableLines.{TableLinesOf, column_of, table_lines}
use Rattle.row_lines.proofs.CohortFieldLemmas.{length-columns as length-ready, ready_at}
use Rattle.row_lines.proofs.DerivedLemmas.{IsAfterHere, after_from_ready, after_here}
use Rattle.row_lines.proofs.RunFieldLemmas.{lines_of, run_rows}
use Rattle.row_lines.proofs.RunPieceLemmas.{AreRunLines-view, column_of-is, columns-at, length-columns}
use Rattle.row_lines.proofs.RunValueLemmas.{later-calendar, later-days, own-days}
use Rattle.row_lines.proofs.runs.RunLines.+put_days.Goals as goal
use Rattle.row_lines.proofs.runs.RunLines.+put_days.Goals.{After-columns-own, In-After}

known : (t : _) (c : After-columns-own t) → AreRunLines c.args.self.now c.self.inside.lines.now
known t c = AreRunLines-view _ c.args.self.now c.self.inside.lines.now c.self.view_is c.self.invariant

-- what is kept of the columns
own_are : (t : _) (c : After-columns-own t) → c.columns-own.result.now ≡ (table_lines c.args.self.now.plan c.args.self.now.table).columns
own_are t c = c.columns-own.ensures ∙ ap (λ (kept : TableLinesOf). kept.columns) (known t c).kept_are

ready_are : (t : _) (c : After-columns-own t) → c.columns-columns.result.now ≡ ready_columns (layout_of c.args.self.now.plan) c.args.self.now.table
ready_are t c =
    c.columns-columns.ensures.columns ∙ ap (λ (plan : Project). ready_columns (layout_of plan) c.self.inside.table) c.plan-plan.ensures
    ∙ ap (λ (of : RunLinesOf). ready_columns (layout_of of.plan) of.table) c.self.view_is

plan_is : (t : _) (c : After-columns-own t) → c.plan-plan.result.now ≡ c.args.self.now.plan
plan_is t c = c.plan-plan.ensures ∙ ap (λ (of : RunLinesOf). of.plan) c.self.view_is

-- the column is prepared, as it is read
own_is : (t : _) (c : After-columns-own t) (run : RunColumnOf) → run ≡ get_or c.columns-own.result.now c.args.column run → run ≡ column_of c.args.self.now.plan c.args.self.now.table c.args.column
own_is t c run at = columns-at c.args.self.now.plan c.args.self.now.table c.args.column c.columns-own.result.now run (own_are t c) c.requires.column at

prepared : (t : _) (c : After-columns-own t) (run : RunColumnOf) → run ≡ get_or c.columns-own.result.now c.args.column run → IsRunColumn c.plan-plan.result.now run
prepared t c run at =
    subst (λ (plan : Project). IsRunColumn plan run) (sym (plan_is t c))
    (column_of-is c.args.self.now.plan c.args.self.now.table c.args.column run (known t c).table c.requires.column (own_is t c run at))

-- so are the rows
rows_are : (t : _) (c : After-columns-own t) (count : ℕ) → count ≡ length c.args.rows.ordinals.now → AreRunRows (last_unit c.plan-plan.result.now) count c.args.rows
rows_are t c count many =
    subst (λ (plan : Project). AreRunRows (last_unit plan) count c.args.rows) (sym (plan_is t c)) (run_rows c.args.self.now c.args.rows count (known t c).unit c.requires.rows many)

below_own : (t : _) (c : After-columns-own t) → c.args.column < length c.columns-own.result.now
below_own t c = omega (arith, c.requires.column, length-columns c.args.self.now.plan c.args.self.now.table c.columns-own.result.now (own_are t c))

-- ---- a date after a date

kind_is : (t : _) (c : After-columns-own t) (found : ReadyColumn) → found ≡ get_or c.columns-columns.result.now c.args.column found →
    ready_kind (layout_of c.args.self.now.plan).delimiter (column_at (layout_for c.args.self.now).columns c.args.column).kind ≡ found.kind
kind_is t c found at =
    ap (λ (ready : ReadyColumn). ready.kind) (ready_at (lines_of c.args.self.now) c.columns-columns.result.now (ready_are t c) c.args.column found c.requires.column at)

after_is : (t : _) (c : In-After t) → IsAfterHere (lines_of c.args.self.now) c.args.column c.in-After.after.of c.in-After.after.lo c.in-After.after.hi × (c.in-After.after.choices ≡ choices c.in-After.after.lo c.in-After.after.hi 1)
after_is t c =
    let lines : RunLinesOf = c.args.self.now in
    let of = AreRunLines-view _ lines c.self.inside.lines.now c.self.view_is c.self.invariant in
    let are = c.columns-columns.ensures.columns ∙ ap (λ (plan : Project). ready_columns (layout_of plan) c.self.inside.table) c.plan-plan.ensures
    ∙ ap (λ (of : RunLinesOf). ready_columns (layout_of of.plan) of.table) c.self.view_is in
    let ready = ap (λ (column : ReadyColumn). column.kind) (ready_at (lines_of lines) c.columns-columns.result.now are c.args.column c.index-columns-column.result c.requires.column c.index-columns-column.is) in
    let parts = after_from_ready (layout_of lines.plan).delimiter (column_at (layout_for lines).columns c.args.column).kind c.in-After.after
    (ready ∙ ap (λ (column : ReadyColumn). column.kind) c.index-columns-column.is ∙ c.in-After.is) in
    (after_here (lines_of lines) of.sound of.table of.limits c.args.column c.in-After.after.of c.in-After.after.lo c.in-After.after.hi c.requires.column parts.0, parts.1)

below_ready : (t : _) (c : In-After t) → c.in-After.after.of < length c.columns-columns.result.now
below_ready t c =
    let lines : RunLinesOf = c.args.self.now in
    let are = c.columns-columns.ensures.columns ∙ ap (λ (plan : Project). ready_columns (layout_of plan) c.self.inside.table) c.plan-plan.ensures
    ∙ ap (λ (of : RunLinesOf). ready_columns (layout_of of.plan) of.table) c.self.view_is in
    omega (arith, (after_is t c).0.later.earlier, c.requires.column, length-ready (lines_of lines) c.columns-columns.result.now are)

-- ---- the goals

pub bounds-own-column : goal.bounds-own-column
bounds-own-column t c = below_own t (goal.at.bounds-own-column t c).After-columns-own

pub put_days-requires : goal.put_days-requires
put_days-requires t c =
    let here = (goal.at.put_days-requires t c).After-columns-own in
    record { column = prepared t here c.index-own-column.result c.index-own-column.is; rows = rows_are t here (length c.args.days.now) c.requires.days }

pub returns-in_default : goal.returns-in_default
returns-in_default t c = λ made.
    let lines : RunLinesOf = c.args.self.now in
    let here = (goal.at.returns-in_default t c).After-columns-own in
    own-days lines c.args.rows c.args.column c.index-own-column.result c.put_days.new.days (known t here).table c.requires.rows (own_is t here c.index-own-column.result c.index-own-column.is)
    (λ after is. c.in_default.not-After after (sym (kind_is t here c.index-columns-column.result c.index-columns-column.is ∙ ap (λ (column : ReadyColumn). column.kind) c.index-columns-column.is) ∙ is))
    (λ i inside. subst (λ (plan : Project). day_in plan c.index-own-column.result (run_row c.args.rows i) ≡ Some (get_or c.put_days.new.days i (pos 0))) (plan_is t here) (c.put_days.ensures.exact made i (omega (arith, inside, c.requires.days))))
    (λ i inside. subst (λ (plan : Project). IsDayOf (field_facts (layout_of plan) c.index-own-column.result.table c.index-own-column.result.column).days (get_or c.put_days.new.days i (pos 0))) (plan_is t here)
    (c.put_days.ensures.within made i (omega (arith, inside, c.requires.days))))

pub offset_bounds-columns-of : goal.offset_bounds-columns-of
offset_bounds-columns-of t c =
    let here = (goal.at.offset_bounds-columns-of t c).In-After in
    let lines : RunLinesOf = c.args.self.now in
    omega (arith, (after_is t here).0.later.earlier, c.requires.column, (known t (goal.at.offset_bounds-columns-of t c).After-columns-own).limits.column_limit)

pub bounds-columns-of : goal.bounds-columns-of
bounds-columns-of t c = below_ready t (goal.at.bounds-columns-of t c).In-After

pub bounds-columns-of-in-After : goal.bounds-columns-of-in-After
bounds-columns-of-in-After t c = below_ready t (goal.at.bounds-columns-of-in-After t c).In-After

pub put_days-requires-else-columns-of-gt0 : goal.put_days-requires-else-columns-of-gt0
put_days-requires-else-columns-of-gt0 t c =
    let here = after_is t (goal.at.put_days-requires-else-columns-of-gt0 t c).In-After in
    (omega (arith, here.0.later.earlier, c.decreases), (omega (arith, here.0.later.earlier, c.requires.column), (c.requires.rows, (c.requires.days, c.requires.more))))

pub bounds-own-column-2 : goal.bounds-own-column-2
bounds-own-column-2 t c = below_own t (goal.at.bounds-own-column-2 t c).After-columns-own

pub put_days_after-requires-clause-column : goal.put_days_after-requires-clause-column
put_days_after-requires-clause-column t c = prepared t (goal.at.put_days_after-requires-clause-column t c).After-columns-own c.index-own-column-2.result c.index-own-column-2.is

pub put_days_after-requires-clause-rows : goal.put_days_after-requires-clause-rows
put_days_after-requires-clause-rows t c =
    rows_are t (goal.at.put_days_after-requires-clause-rows t c).After-columns-own (length c.put_days-else-columns-of-gt0.new.more) (c.put_days-else-columns-of-gt0.auto.more ∙ c.requires.more)

pub put_days_after-requires-clause-range : goal.put_days_after-requires-clause-range
put_days_after-requires-clause-range t c = (after_is t (goal.at.put_days_after-requires-clause-range t c).In-After).0.range

pub put_days_after-requires-clause-choices : goal.put_days_after-requires-clause-choices
put_days_after-requires-clause-choices t c = (after_is t (goal.at.put_days_after-requires-clause-choices t c).In-After).1

pub add_all-requires-clause-range : goal.add_all-requires-clause-range
add_all-requires-clause-range t c = λ i inside.
    let here = after_is t (goal.at.add_all-requires-clause-range t c).In-After in
    let days = c.put_days-else-columns-of-gt0.auto.days ∙ c.requires.days in
    let more = c.put_days-else-columns-of-gt0.auto.more ∙ c.requires.more in
    let calendar = later-calendar c.args.self.now c.args.rows c.args.column c.in-After.after c.put_days-else-columns-of-gt0.new.days c.put_days_after.new.days here.0 (c.put_days-else-columns-of-gt0.ensures c.if-not-put_days.false)
    (λ k within. c.put_days_after.ensures.range k (omega (arith, within, more))) i (omega (arith, inside, days)) in
    record { from = omega (arith, ints, calendar.from); to = omega (arith, ints, calendar.to) }

pub returns : goal.returns
returns t c = λ made.
    let lines : RunLinesOf = c.args.self.now in
    let columns = (goal.at.returns t c).After-columns-own in
    let here = after_is t (goal.at.returns t c).In-After in
    let days = c.put_days-else-columns-of-gt0.auto.days ∙ c.requires.days in
    let more = c.put_days-else-columns-of-gt0.auto.more ∙ c.requires.more in
    let before : c.in-After.after.of < length (layout_for lines).columns = omega (arith, here.0.later.earlier, c.requires.column) in
    let followed = ready_at (lines_of lines) c.columns-columns.result.now (ready_are t columns) c.in-After.after.of c.index-columns-of.result before c.index-columns-of.is in
    let never : (column_at (layout_for lines).columns c.in-After.after.of).null ≡ 0 = omega (arith, ap (λ (ready : ReadyColumn). ready.null) followed, ap (λ (ready : ReadyColumn). ready.null) c.index-columns-of.is, c.if-columns-of-gt0.false) in
    let own = own_is t columns c.index-own-column-2.result c.index-own-column-2.is in
    later-days lines c.args.rows c.args.column c.in-After.after c.put_days-else-columns-of-gt0.new.days c.put_days_after.new.days c.add_all.new.numbers (known t columns).table c.requires.rows here.0 here.0.later.earlier never
    (c.put_days-else-columns-of-gt0.ensures c.if-not-put_days.false)
    (λ i inside. c.put_days_after.ensures.exact i (omega (arith, inside, more))
    ∙ ap (λ (plan : Project). chosen c.in-After.after.lo c.in-After.after.hi 1 (draws_at (layout_of plan) c.index-own-column-2.result.table (run_row c.args.rows i) c.index-own-column-2.result.column 1)) (plan_is t columns)
    ∙ ap (λ (run : RunColumnOf). chosen c.in-After.after.lo c.in-After.after.hi 1 (draws_at (layout_of lines.plan) run.table (run_row c.args.rows i) run.column 1)) own)
    (λ i inside. c.put_days_after.ensures.range i (omega (arith, inside, more)))
    (λ i inside. c.add_all.ensures i (omega (arith, inside, days)))
