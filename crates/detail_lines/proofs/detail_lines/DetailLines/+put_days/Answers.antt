use Rattle.std.proofs.Common.{◌≡◌, ◌<◌, Some, get_or, length, pos, arith, ap, subst, sym, ◌∙◌}
use Rattle.std.proofs.lemmas.Int.{ints}
use Rattle.philox_seeds.specs.SeedTree.{draw}
use Rattle.schema_plan.specs.declared.ready.ReadyColumn.{ReadyColumn}
use Rattle.schema_plan.specs.declared.ready.ReadyKind.TheVariants as kind
use Rattle.draw_values.specs.ReadyValues.{ready_own_day}
use Rattle.draw_values.specs.Runs.{DrawnColumnOf, IsReadyDrawn, run_row, run_seed}
use Rattle.draw_values.specs.Values.{chosen}
use Rattle.detail_lines.specs.LineRuns.{line_of}
use Rattle.detail_lines.specs.Made.{LinesOver, place_over, prepared_column, ready_over}
use Rattle.detail_lines.specs.Shown.{IsAfterAt}
use Rattle.detail_lines.proofs.LineRunLemmas.{days-calendar, days-drawn, days-later, drawn-ready, is_after, prepared-length, prepared-of, ready-length, ready-of}
use Rattle.detail_lines.proofs.detail_lines.DetailLines.+put_days.Goals as goal
use Rattle.detail_lines.proofs.detail_lines.DetailLines.+put_days.Goals.{After-drawn_rows-rows, In-After}

below : (t : _) (c : After-drawn_rows-rows t) → place_over c.args.self.now < length c.args.self.now.plan.schema.tables
below t c = omega (arith, c.requires.at.table, c.requires.at.within)

-- the column as it is kept ready
ready_is : (t : _) (c : After-drawn_rows-rows t) → c.index-columns-column.result ≡ ready_over c.args.self.now c.args.column
ready_is t c =
    ready-of c.args.self.now c.ready-columns.ensures.keeps c.ready-columns.ensures.limits c.args.column c.requires.column c.ready-columns.result.now c.index-columns-column.result c.ready-columns.ensures.value c.index-columns-column.is

-- and prepared, as it is read
prepared_is : (t : _) (c : After-drawn_rows-rows t) (found : DrawnColumnOf) → found ≡ get_or c.prepared-prepared.result.now c.args.column found → found ≡ prepared_column c.args.self.now c.args.column
prepared_is t c found at = prepared-of c.args.self.now c.args.column c.requires.column c.prepared-prepared.result.now found c.prepared-prepared.ensures at

after_kind : (t : _) (c : In-After t) → (ready_over c.args.self.now c.args.column).kind ≡ kind.After c.in-After.after
after_kind t c =
    sym (ap (λ (one : ReadyColumn). one.kind)
    (ready-of c.args.self.now c.ready-columns.ensures.keeps c.ready-columns.ensures.limits c.args.column c.requires.column c.ready-columns.result.now c.index-columns-column.result c.ready-columns.ensures.value c.index-columns-column.is))
    ∙ c.in-After.is

-- the date that it follows stands before
after_at : (t : _) (c : In-After t) → IsAfterAt (line_of c.args.self.now c.args.at.now.unit c.args.run.now 0) c.args.column c.in-After.after
after_at t c =
    is_after c.args.self.now c.args.at.now.unit c.args.count c.args.run.now c.requires.lines c.ready-columns.ensures.keeps c.ready-columns.ensures.limits (omega (arith, c.requires.at.table, c.requires.at.within)) c.args.column c.requires.column
    c.drawn_rows-rows.result c.drawn_rows-rows.ensures.rows c.in-After.after (after_kind t c) 0

pub bounds-prepared-column : goal.bounds-prepared-column
bounds-prepared-column t c = omega (arith, c.requires.column, prepared-length c.args.self.now c.prepared-prepared.result.now c.prepared-prepared.ensures)

pub bounds-prepared-column-2 : goal.bounds-prepared-column-2
bounds-prepared-column-2 t c = omega (arith, c.requires.column, prepared-length c.args.self.now c.prepared-prepared.result.now c.prepared-prepared.ensures)

pub put_days-requires-clause-ready : goal.put_days-requires-clause-ready
put_days-requires-clause-ready t c =
    subst (λ (ready : ReadyColumn). IsReadyDrawn ready.kind) (sym (ready_is t (goal.at.put_days-requires-clause-ready t c).After-drawn_rows-rows))
    (drawn-ready c.args.self.now c.ready-columns.ensures.keeps c.ready-columns.ensures.limits c.args.column c.requires.column)

pub returns-in-Drawn : goal.returns-in-Drawn
returns-in-Drawn t c = λ shown.
    let here = (goal.at.returns-in-Drawn t c).After-drawn_rows-rows in
    let over : LinesOver = c.args.self.now in
    let rows = c.drawn_rows-rows.result in
    days-drawn over c.args.at.now.unit c.args.count c.args.run.now c.requires.lines c.ready-columns.ensures.keeps c.ready-columns.ensures.limits (below t here) c.args.column c.requires.column rows c.drawn_rows-rows.ensures.rows _
    (sym (ap (λ (one : ReadyColumn). one.kind) (ready_is t here)) ∙ c.in-Drawn.is) c.put_days.new.days
    (λ k inside.
    subst (λ (one : ReadyColumn). ready_own_day (run_row rows k) (draw (run_seed (prepared_column over c.args.column).seed one.changes rows k)) one.kind ≡ Some (get_or c.put_days.new.days k (pos 0))) (ready_is t here)
    (subst (λ (p : DrawnColumnOf). ready_own_day (run_row rows k) (draw (run_seed p.seed c.index-columns-column.result.changes rows k)) c.index-columns-column.result.kind ≡ Some (get_or c.put_days.new.days k (pos 0)))
    (prepared_is t here c.index-prepared-column.result c.index-prepared-column.is) (c.put_days.ensures.exact shown k (omega (arith, inside, c.requires.days)))))

pub offset_bounds-columns-of : goal.offset_bounds-columns-of
offset_bounds-columns-of t c =
    let here = (goal.at.offset_bounds-columns-of t c).In-After in
    omega (arith, (after_at t here).earlier, c.requires.column, c.ready-columns.ensures.limits.few_columns)

pub bounds-columns-of : goal.bounds-columns-of
bounds-columns-of t c =
    let here = (goal.at.bounds-columns-of t c).In-After in
    omega (arith, (after_at t here).earlier, c.requires.column, ready-length c.args.self.now c.ready-columns.ensures.keeps c.ready-columns.ensures.limits c.ready-columns.result.now c.ready-columns.ensures.value)

pub bounds-columns-of-in-After : goal.bounds-columns-of-in-After
bounds-columns-of-in-After t c =
    let here = (goal.at.bounds-columns-of-in-After t c).In-After in
    omega (arith, (after_at t here).earlier, c.requires.column, ready-length c.args.self.now c.ready-columns.ensures.keeps c.ready-columns.ensures.limits c.ready-columns.result.now c.ready-columns.ensures.value)

pub put_days-requires-else-columns-of-gt0 : goal.put_days-requires-else-columns-of-gt0
put_days-requires-else-columns-of-gt0 t c =
    let here = (goal.at.put_days-requires-else-columns-of-gt0 t c).In-After in
    (omega (arith, (after_at t here).earlier, c.decreases), (omega (arith, (after_at t here).earlier, c.requires.column), (c.requires.at, (c.requires.lines, (c.requires.days, c.requires.more)))))

pub put_days_after-requires-clause-range : goal.put_days_after-requires-clause-range
put_days_after-requires-clause-range t c = (after_at t (goal.at.put_days_after-requires-clause-range t c).In-After).range

pub put_days_after-requires-clause-choices : goal.put_days_after-requires-clause-choices
put_days_after-requires-clause-choices t c = (after_at t (goal.at.put_days_after-requires-clause-choices t c).In-After).choices_are

pub add_all-requires-clause-range : goal.add_all-requires-clause-range
add_all-requires-clause-range t c = λ i inside.
    let here = (goal.at.add_all-requires-clause-range t c).In-After in
    let start = (goal.at.add_all-requires-clause-range t c).After-drawn_rows-rows in
    let over : LinesOver = c.args.self.now in
    let rows = c.drawn_rows-rows.result in
    let of_is = ready-of over c.ready-columns.ensures.keeps c.ready-columns.ensures.limits c.in-After.after.of (omega (arith, (after_at t here).earlier, c.requires.column)) c.ready-columns.result.now c.index-columns-of.result c.ready-columns.ensures.value c.index-columns-of.is in
    let never : (ready_over over c.in-After.after.of).null ≡ 0 = omega (arith, ap (λ (one : ReadyColumn). one.null) of_is, ap (λ (one : ReadyColumn). one.null) c.index-columns-of.is, c.if-columns-of-gt0.false) in
    let calendar = days-calendar over c.args.at.now.unit c.args.count c.args.run.now c.requires.lines c.ready-columns.ensures.keeps c.ready-columns.ensures.limits (below t start) c.args.column c.requires.column rows c.drawn_rows-rows.ensures.rows
    c.in-After.after (after_kind t here) c.put_days-else-columns-of-gt0.new.days c.put_days_after.new.days (c.put_days-else-columns-of-gt0.ensures c.if-not-put_days.false) never
    (λ k below_it.
    subst (λ (one : ReadyColumn). get_or c.put_days_after.new.days k (pos 0) ≡ chosen c.in-After.after.lo c.in-After.after.hi 1 (draw (run_seed (prepared_column over c.args.column).seed one.changes rows k) 1)) (ready_is t start)
    (subst (λ (p : DrawnColumnOf). get_or c.put_days_after.new.days k (pos 0) ≡ chosen c.in-After.after.lo c.in-After.after.hi 1 (draw (run_seed p.seed c.index-columns-column.result.changes rows k) 1))
    (prepared_is t start c.index-prepared-column-2.result c.index-prepared-column-2.is) (c.put_days_after.ensures.exact k (omega (arith, below_it, c.put_days-else-columns-of-gt0.auto.more, c.requires.more)))))
    (λ k below_it. c.put_days_after.ensures.range k (omega (arith, below_it, c.put_days-else-columns-of-gt0.auto.more, c.requires.more)))
    i (omega (arith, inside, c.put_days-else-columns-of-gt0.auto.days, c.requires.days)) in
    record { from = omega (arith, ints, calendar.from); to = omega (arith, ints, calendar.to) }

pub returns : goal.returns
returns t c = λ shown.
    let here = (goal.at.returns t c).In-After in
    let start = (goal.at.returns t c).After-drawn_rows-rows in
    let over : LinesOver = c.args.self.now in
    let rows = c.drawn_rows-rows.result in
    let of_is = ready-of over c.ready-columns.ensures.keeps c.ready-columns.ensures.limits c.in-After.after.of (omega (arith, (after_at t here).earlier, c.requires.column)) c.ready-columns.result.now c.index-columns-of.result c.ready-columns.ensures.value c.index-columns-of.is in
    let never : (ready_over over c.in-After.after.of).null ≡ 0 = omega (arith, ap (λ (one : ReadyColumn). one.null) of_is, ap (λ (one : ReadyColumn). one.null) c.index-columns-of.is, c.if-columns-of-gt0.false) in
    days-later over c.args.at.now.unit c.args.count c.args.run.now c.requires.lines c.ready-columns.ensures.keeps c.ready-columns.ensures.limits (below t start) c.args.column c.requires.column rows c.drawn_rows-rows.ensures.rows
    c.in-After.after (after_kind t here) c.put_days-else-columns-of-gt0.new.days c.put_days_after.new.days c.add_all.new.numbers (c.put_days-else-columns-of-gt0.ensures c.if-not-put_days.false) never
    (λ k below_it.
    subst (λ (one : ReadyColumn). get_or c.put_days_after.new.days k (pos 0) ≡ chosen c.in-After.after.lo c.in-After.after.hi 1 (draw (run_seed (prepared_column over c.args.column).seed one.changes rows k) 1)) (ready_is t start)
    (subst (λ (p : DrawnColumnOf). get_or c.put_days_after.new.days k (pos 0) ≡ chosen c.in-After.after.lo c.in-After.after.hi 1 (draw (run_seed p.seed c.index-columns-column.result.changes rows k) 1))
    (prepared_is t start c.index-prepared-column-2.result c.index-prepared-column-2.is) (c.put_days_after.ensures.exact k (omega (arith, below_it, c.put_days-else-columns-of-gt0.auto.more, c.requires.more)))))
    (λ k below_it. c.put_days_after.ensures.range k (omega (arith, below_it, c.put_days-else-columns-of-gt0.auto.more, c.requires.more)))
    (λ k below_it. c.add_all.ensures k (omega (arith, below_it, c.put_days-else-columns-of-gt0.auto.days, c.requires.days)))

pub put_shown_days-requires-clause-lookup : goal.put_shown_days-requires-clause-lookup
put_shown_days-requires-clause-lookup t c =
    sym (ap (λ (one : ReadyColumn). one.kind) (ready_is t (goal.at.put_shown_days-requires-clause-lookup t c).After-drawn_rows-rows)) ∙ c.in-Lookup.is
