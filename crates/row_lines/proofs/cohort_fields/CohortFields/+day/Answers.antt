use Rattle.std.proofs.Common.{◌≡◌, ◌<◌, ◌≤◌, ◌+ℤ◌, ℕ, ℤ, List, Option, Some, None, Bool, true, false, get_or, refl, length, w64, to_z, of_z, FitsSigned, ap, ap₂, arith, subst, sym, ◌∙◌}
use Rattle.std.specs.Prelude.{IfSome}
use Rattle.std.specs.Option.{option_map}
use Rattle.cohort_sizes.specs.Births.{cohort_size}
use Rattle.schema_plan.specs.declared.ready.ReadyAfter.{ReadyAfter}
use Rattle.schema_plan.specs.declared.ready.ReadyColumn.{ReadyColumn}
use Rattle.schema_plan.specs.declared.ready.ReadyKind.TheVariants.{Lookup}
use Rattle.schema_plan.specs.declared.ready.ReadyLookup.{ReadyLookup}
use Rattle.schema_facts.specs.declared.days.Days.{Days}
use Rattle.schema_facts.specs.ColumnFacts.{field_cost, field_facts}
use Rattle.schema_facts.specs.Ends.{IsBetween}
use Rattle.schema_facts.specs.Layout.{KindLayout, after_kind, column_at, layout_of, lookup_kind}
use Rattle.draw_values.specs.CohortValues.{IsDayOf, ValuesOf, is_null_for, row_for}
use Rattle.draw_values.specs.Values.{Draws, chosen, draws_at, is_null}
use Rattle.life_intervals.specs.Generator.{generator_of}
use Rattle.life_intervals.specs.Rows.{Row}
use Rattle.schema_facts.proofs.FieldFactsLemmas.{cost-after, days-lookup}
use Rattle.row_lines.specs.declared.derived.ParentRow.{ParentRow}
use Rattle.row_lines.specs.CohortLines.{AreFieldsOf, LinesOf, layout_for, ordinal_of, row_changed, values_at}
use Rattle.row_lines.specs.Derived.{columns_before, day_in}
use Rattle.row_lines.specs.Lookups.{IsLookupOf}
use Rattle.row_lines.specs.RowViews.{draws_of}
use Rattle.row_lines.specs.Totals.{day_for}
use Rattle.row_lines.proofs.CohortFieldLemmas.{AreFieldsOf-view, column_here, ready_at}
use Rattle.row_lines.proofs.DerivedLemmas.{IsAfterHere, after_ready, day-drawn, day-null, day-within, day_by-own, draws-values, fits_day, own_day-values, parent-day, parent_before, shown_within}
use Rattle.row_lines.proofs.LookupLemmas.{cost_of_lookup, kind_of_lookup, looks_up_earlier, looks_up_still}
use Rattle.row_lines.proofs.PartLemmas.{null-drawn}
use Rattle.row_lines.proofs.cohort_fields.CohortFields.+day.Goals as goal

-- whether the field is null, as the row has it
null_is : (lines : LinesOf) (values : ValuesOf) (column index ordinal : ℕ) (null told : Bool) → values ≡ values_at lines values.changed → ordinal ≡ ordinal_of lines index → lines.born ≤ lines.unit →
    index < cohort_size (layout_for lines).births lines.born → null ≡ is_null_for values column ordinal → null ≡ told →
    is_null (column_at (layout_for lines).columns column).null (draws_of (generator_of lines.plan) lines.table (row_changed lines index values.changed) column) ≡ told
null_is lines values column index ordinal null told values_are ordinal_is early inside drawn told_is =
    null-drawn lines values column index values.changed ordinal values_are ordinal_is early inside ∙ sym drawn ∙ told_is

pub returns-then-is_null-clause-day : goal.returns-then-is_null-clause-day
returns-then-is_null-clause-day g t c = λ n enough.
    let lines : LinesOf = c.args.self.now in
    day-null (generator_of lines.plan) lines.table c.args.column (row_changed lines c.args.index c.args.values.now.changed)
    (null_is lines c.args.values.now c.args.column c.args.index c.ordinal-ordinal.result c.is_null.result true c.requires.values c.ordinal-ordinal.ensures.ordinal c.ordinal-ordinal.ensures.early c.requires.row c.is_null.ensures c.if-is_null.true) n

-- the day of an after field, by the day that it follows
after_made : (lines : LinesOf) (values : ValuesOf) (column index ordinal : ℕ) (null : Bool) (after : ReadyAfter) (earlier : Option ℤ) → IsAfterHere lines column after.of after.lo after.hi →
    values ≡ values_at lines values.changed → ordinal ≡ ordinal_of lines index → lines.born ≤ lines.unit → index < cohort_size (layout_for lines).births lines.born → null ≡ is_null_for values column ordinal → null ≡ false →
    ((n : ℕ) → columns_before lines.table after.of < n → earlier ≡ day_for lines index values.changed n after.of) → (n : ℕ) → columns_before lines.table column < n →
    option_map (λ (day : ℤ). day +ℤ chosen after.lo after.hi 1 (draws_at (layout_of values.plan) values.table (row_for values ordinal) column 1)) earlier ≡ day_for lines index values.changed n column
after_made lines values column index ordinal null after earlier here values_are ordinal_is early inside null_told drawn found n enough =
    let by : Draws → ℤ → ℤ = λ draw day. day +ℤ chosen after.lo after.hi 1 (draw 1) in
    ap (λ (draw : Draws). option_map (by draw) earlier) (sym (draws-values lines values column index values.changed ordinal values_are ordinal_is early inside))
    ∙ day-drawn (generator_of lines.plan) lines.table column (row_changed lines index values.changed) (after_kind after.of after.lo after.hi)
    (option_map (by (draws_of (generator_of lines.plan) lines.table (row_changed lines index values.changed) column)) earlier) here.of.kind_is
    (null_is lines values column index ordinal null false values_are ordinal_is early inside null_told drawn)
    (λ m past. ap (option_map (by (draws_of (generator_of lines.plan) lines.table (row_changed lines index values.changed) column))) (found m (omega (arith, past, here.later.earlier)))) n enough

pub returns-in_err-earlier-in-After-clause-day : goal.returns-in_err-earlier-in-After-clause-day
returns-in_err-earlier-in-After-clause-day g t c = λ n enough.
    let lines : LinesOf = c.args.self.now in
    let known = AreFieldsOf-view _ lines c.self.inside.columns.now c.self.inside.first c.self.view_is c.self.invariant in
    let here = after_ready lines c.self.inside.columns.now c.self.inside.first known c.args.column c.index-columns-column.result c.in-After.after c.requires.column c.index-columns-column.is
    (ap (λ (column : ReadyColumn). column.kind) c.index-columns-column.is ∙ c.in-After.is) in
    c.from_residual.ensures
    ∙ after_made lines c.args.values.now c.args.column c.args.index c.ordinal-ordinal.result c.is_null.result c.in-After.after None here.0 c.requires.values c.ordinal-ordinal.ensures.ordinal c.ordinal-ordinal.ensures.early c.requires.row
    c.is_null.ensures c.if-is_null.false (λ m past. sym (c.in_err-earlier-in-After.was) ∙ c.day.ensures.day m past) n enough

pub returns-in_err-earlier-in-After-clause-steps : goal.returns-in_err-earlier-in-After-clause-steps
returns-in_err-earlier-in-After-clause-steps g t c =
    let lines : LinesOf = c.args.self.now in
    let known = AreFieldsOf-view _ lines c.self.inside.columns.now c.self.inside.first c.self.view_is c.self.invariant in
    let here = (after_ready lines c.self.inside.columns.now c.self.inside.first known c.args.column c.index-columns-column.result c.in-After.after c.requires.column c.index-columns-column.is
    (ap (λ (column : ReadyColumn). column.kind) c.index-columns-column.is ∙ c.in-After.is)).0 in
    omega (arith, c.day.ensures.steps, cost-after (layout_of lines.plan) lines.table c.args.column c.in-After.after.of c.in-After.after.lo c.in-After.after.hi here.of here.later.earlier)

pub days_after-requires-clause-range : goal.days_after-requires-clause-range
days_after-requires-clause-range g t c =
    let known = AreFieldsOf-view _ c.args.self.now c.self.inside.columns.now c.self.inside.first c.self.view_is c.self.invariant in
    (after_ready c.args.self.now c.self.inside.columns.now c.self.inside.first known c.args.column c.index-columns-column.result c.in-After.after c.requires.column c.index-columns-column.is
    (ap (λ (column : ReadyColumn). column.kind) c.index-columns-column.is ∙ c.in-After.is)).0.range

pub days_after-requires-clause-choices : goal.days_after-requires-clause-choices
days_after-requires-clause-choices g t c =
    let known = AreFieldsOf-view _ c.args.self.now c.self.inside.columns.now c.self.inside.first c.self.view_is c.self.invariant in
    (after_ready c.args.self.now c.self.inside.columns.now c.self.inside.first known c.args.column c.index-columns-column.result c.in-After.after c.requires.column c.index-columns-column.is
    (ap (λ (column : ReadyColumn). column.kind) c.index-columns-column.is ∙ c.in-After.is)).1

-- the day that comes of an earlier one
later : (lines : LinesOf) (column : ℕ) (after : ReadyAfter) (result : Option ℤ) (earlier by : ℤ) → IsAfterHere lines column after.of after.lo after.hi → result ≡ Some earlier →
    IfSome result (IsDayOf (field_facts (layout_of lines.plan) lines.table after.of).days) → IsBetween after.lo after.hi by →
    IsDayOf (field_facts (layout_of lines.plan) lines.table column).days (earlier +ℤ by)
    × ((to_z w64 (of_z w64 earlier) ≡ earlier) × (to_z w64 (of_z w64 by) ≡ by) × (to_z w64 (of_z w64 (earlier +ℤ by)) ≡ earlier +ℤ by) × FitsSigned w64 (earlier +ℤ by))
later lines column after result earlier by here is within between =
    let shown = day-within lines column after.of after.lo after.hi earlier by here (subst (λ (o : Option ℤ). IfSome o (IsDayOf (field_facts (layout_of lines.plan) lines.table after.of).days)) is within) between in
    (shown.0, fits_day after.lo after.hi earlier by here.range between shown.1)

-- which is passed on as it is
sum_is : (earlier by : ℤ) → to_z w64 (of_z w64 earlier) ≡ earlier → to_z w64 (of_z w64 by) ≡ by → to_z w64 (of_z w64 earlier) +ℤ to_z w64 (of_z w64 by) ≡ earlier +ℤ by
sum_is earlier by p q = ap₂ (λ (a b : ℤ). a +ℤ b) p q

pub overflow_add-result : goal.overflow_add-result
overflow_add-result g t c =
    let lines : LinesOf = c.args.self.now in
    let known = AreFieldsOf-view _ lines c.self.inside.columns.now c.self.inside.first c.self.view_is c.self.invariant in
    let here = (after_ready lines c.self.inside.columns.now c.self.inside.first known c.args.column c.index-columns-column.result c.in-After.after c.requires.column c.index-columns-column.is
    (ap (λ (column : ReadyColumn). column.kind) c.index-columns-column.is ∙ c.in-After.is)).0 in
    let made = (later lines c.args.column c.in-After.after c.day.result c.in_ok-earlier-in-After.earlier c.days_after.result here (c.in_ok-earlier-in-After.was) c.day.ensures.within c.days_after.ensures.range).1 in
    subst (FitsSigned w64) (sym (sum_is c.in_ok-earlier-in-After.earlier c.days_after.result made.0 made.1)) made.3

pub returns-in_ok-earlier-in-After-clause-day : goal.returns-in_ok-earlier-in-After-clause-day
returns-in_ok-earlier-in-After-clause-day g t c = λ n enough.
    let lines : LinesOf = c.args.self.now in
    let known = AreFieldsOf-view _ lines c.self.inside.columns.now c.self.inside.first c.self.view_is c.self.invariant in
    let here = (after_ready lines c.self.inside.columns.now c.self.inside.first known c.args.column c.index-columns-column.result c.in-After.after c.requires.column c.index-columns-column.is
    (ap (λ (column : ReadyColumn). column.kind) c.index-columns-column.is ∙ c.in-After.is)).0 in
    let earlier : ℤ = c.in_ok-earlier-in-After.earlier in
    let made = (later lines c.args.column c.in-After.after c.day.result earlier c.days_after.result here (c.in_ok-earlier-in-After.was) c.day.ensures.within c.days_after.ensures.range).1 in
    ap (λ (day : ℤ). Some (to_z w64 (of_z w64 day))) (sum_is earlier c.days_after.result made.0 made.1)
    ∙ ap (λ (day : ℤ). Some day) (made.2 ∙ ap (λ (by : ℤ). earlier +ℤ by) c.days_after.ensures.exact)
    ∙ after_made lines c.args.values.now c.args.column c.args.index c.ordinal-ordinal.result c.is_null.result c.in-After.after (Some earlier) here c.requires.values c.ordinal-ordinal.ensures.ordinal c.ordinal-ordinal.ensures.early c.requires.row
    c.is_null.ensures c.if-is_null.false (λ m past. sym (c.in_ok-earlier-in-After.was) ∙ c.day.ensures.day m past) n enough

pub returns-in_ok-earlier-in-After-clause-within : goal.returns-in_ok-earlier-in-After-clause-within
returns-in_ok-earlier-in-After-clause-within g t c =
    let lines : LinesOf = c.args.self.now in
    let known = AreFieldsOf-view _ lines c.self.inside.columns.now c.self.inside.first c.self.view_is c.self.invariant in
    let here = (after_ready lines c.self.inside.columns.now c.self.inside.first known c.args.column c.index-columns-column.result c.in-After.after c.requires.column c.index-columns-column.is
    (ap (λ (column : ReadyColumn). column.kind) c.index-columns-column.is ∙ c.in-After.is)).0 in
    let earlier : ℤ = c.in_ok-earlier-in-After.earlier in
    let made = later lines c.args.column c.in-After.after c.day.result earlier c.days_after.result here (c.in_ok-earlier-in-After.was) c.day.ensures.within c.days_after.ensures.range in
    subst (IsDayOf (field_facts (layout_of lines.plan) lines.table c.args.column).days)
    (sym (ap (λ (day : ℤ). to_z w64 (of_z w64 day)) (sum_is earlier c.days_after.result made.1.0 made.1.1) ∙ made.1.2)) made.0

pub returns-in_ok-earlier-in-After-clause-steps : goal.returns-in_ok-earlier-in-After-clause-steps
returns-in_ok-earlier-in-After-clause-steps g t c =
    let lines : LinesOf = c.args.self.now in
    let known = AreFieldsOf-view _ lines c.self.inside.columns.now c.self.inside.first c.self.view_is c.self.invariant in
    let here = (after_ready lines c.self.inside.columns.now c.self.inside.first known c.args.column c.index-columns-column.result c.in-After.after c.requires.column c.index-columns-column.is
    (ap (λ (column : ReadyColumn). column.kind) c.index-columns-column.is ∙ c.in-After.is)).0 in
    omega (arith, c.day.ensures.steps, cost-after (layout_of lines.plan) lines.table c.args.column c.in-After.after.of c.in-After.after.lo c.in-After.after.hi here.of here.later.earlier)

-- the column is a lookup
looks : (lines : LinesOf) (columns : List ReadyColumn) (first : ℕ) → AreFieldsOf lines columns first → (column : ℕ) (found : ReadyColumn) (lookup : ReadyLookup) → column < length (layout_for lines).columns →
    found ≡ get_or columns column found → found.kind ≡ Lookup lookup → IsLookupOf lines column lookup
looks lines columns first known column found lookup within at held =
    record { within = within; is = ap (λ (ready : ReadyColumn). ready.kind) (ready_at lines columns known.columns_are column found within at) ∙ held }

pub returns-in-Lookup-clause-day : goal.returns-in-Lookup-clause-day
returns-in-Lookup-clause-day g t c = λ n enough.
    let lines : LinesOf = c.args.self.now in
    let known = AreFieldsOf-view _ lines c.self.inside.columns.now c.self.inside.first c.self.view_is c.self.invariant in
    let lookup : ReadyLookup = c.in-Lookup.lookup in
    let here = looks lines c.self.inside.columns.now c.self.inside.first known c.args.column c.index-columns-column.result lookup c.requires.column c.index-columns-column.is (ap (λ (column : ReadyColumn). column.kind) c.index-columns-column.is ∙ c.in-Lookup.is) in
    let parent : ParentRow = c.parent_row-parent.result in
    let is = kind_of_lookup lines known.sound known.table c.args.column lookup here in
    day-drawn (generator_of lines.plan) lines.table c.args.column (row_changed lines c.args.index c.args.values.now.changed) (lookup_kind lookup.via lookup.parent lookup.column) c.day-in-Lookup.result is
    (null_is lines c.args.values.now c.args.column c.args.index c.ordinal-ordinal.result c.is_null.result false c.requires.values c.ordinal-ordinal.ensures.ordinal c.ordinal-ordinal.ensures.early c.requires.row c.is_null.ensures c.if-is_null.false)
    (λ m past.
    c.day-in-Lookup.ensures.day m (parent_before lines parent lookup c.args.column m c.parent_row-parent.ensures.row (looks_up_earlier lines known.sound known.table c.args.column lookup here) (shown_within lines known.sound known.table c.args.column lookup here) past)
    ∙ ap (λ (changed : ℕ). day_for parent.fields parent.index changed m lookup.column) (ap (λ (of : ValuesOf). of.changed) c.parent_row-parent.ensures.row.values)
    ∙ sym (parent-day lines known.sound known.table known.born known.unit c.args.column c.args.index c.args.values.now.changed c.requires.row lookup here parent c.parent_row-parent.ensures.row m)) n enough

pub returns-in-Lookup-clause-within : goal.returns-in-Lookup-clause-within
returns-in-Lookup-clause-within g t c =
    let lines : LinesOf = c.args.self.now in
    let known = AreFieldsOf-view _ lines c.self.inside.columns.now c.self.inside.first c.self.view_is c.self.invariant in
    let lookup : ReadyLookup = c.in-Lookup.lookup in
    let here = looks lines c.self.inside.columns.now c.self.inside.first known c.args.column c.index-columns-column.result lookup c.requires.column c.index-columns-column.is (ap (λ (column : ReadyColumn). column.kind) c.index-columns-column.is ∙ c.in-Lookup.is) in
    let is = kind_of_lookup lines known.sound known.table c.args.column lookup here in
    let told : (field_facts (layout_of c.parent_row-parent.result.fields.plan) c.parent_row-parent.result.fields.table lookup.column).days ≡ (field_facts (layout_of lines.plan) lines.table c.args.column).days =
    ap (λ (of : LinesOf). (field_facts (layout_of of.plan) of.table lookup.column).days) c.parent_row-parent.ensures.row.fields
    ∙ sym (days-lookup (layout_of lines.plan) lines.table c.args.column lookup.via lookup.parent lookup.column
    (column_here lines c.self.inside.columns.now c.self.inside.first known c.args.column (lookup_kind lookup.via lookup.parent lookup.column) c.requires.column is)
    (looks_up_earlier lines known.sound known.table c.args.column lookup here)) in
    subst (λ (days : Option Days). IfSome c.day-in-Lookup.result (IsDayOf days)) told c.day-in-Lookup.ensures.within

pub returns-in-Lookup-clause-steps : goal.returns-in-Lookup-clause-steps
returns-in-Lookup-clause-steps g t c =
    let lines : LinesOf = c.args.self.now in
    let known = AreFieldsOf-view _ lines c.self.inside.columns.now c.self.inside.first c.self.view_is c.self.invariant in
    let lookup : ReadyLookup = c.in-Lookup.lookup in
    let here = looks lines c.self.inside.columns.now c.self.inside.first known c.args.column c.index-columns-column.result lookup c.requires.column c.index-columns-column.is (ap (λ (column : ReadyColumn). column.kind) c.index-columns-column.is ∙ c.in-Lookup.is) in
    omega (
      arith,
      c.parent_row-parent.ensures.steps,
      c.day-in-Lookup.ensures.steps,
      ap (λ (of : LinesOf). field_cost (layout_of of.plan) of.table lookup.column) c.parent_row-parent.ensures.row.fields,
      cost_of_lookup lines known.sound known.table c.args.column lookup here,
    )

pub returns-in_default : goal.returns-in_default
returns-in_default g t c =
    let lines : LinesOf = c.args.self.now in
    let known = AreFieldsOf-view _ lines c.self.inside.columns.now c.self.inside.first c.self.view_is c.self.invariant in
    let row : Row = row_changed lines c.args.index c.args.values.now.changed in
    let held : KindLayout = (column_at (layout_for lines).columns c.args.column).kind in
    let d : ℕ = (layout_of lines.plan).delimiter in
    let ready = ap (λ (column : ReadyColumn). column.kind) (sym (ready_at lines c.self.inside.columns.now known.columns_are c.args.column c.index-columns-column.result c.requires.column c.index-columns-column.is ∙ c.index-columns-column.is)) in
    record {
      day = day-drawn (generator_of lines.plan) lines.table c.args.column row held c.day-in_default.result refl
          (null_is lines c.args.values.now c.args.column c.args.index c.ordinal-ordinal.result c.is_null.result false c.requires.values c.ordinal-ordinal.ensures.ordinal c.ordinal-ordinal.ensures.early c.requires.row c.is_null.ensures c.if-is_null.false)
          (λ m past.
          c.day-in_default.ensures.exact
          ∙ sym (own_day-values lines c.args.values.now c.args.column c.args.index c.args.values.now.changed c.ordinal-ordinal.result c.requires.values c.ordinal-ordinal.ensures.ordinal c.ordinal-ordinal.ensures.early c.requires.row)
          ∙ sym (day_by-own d (day_in m (generator_of lines.plan)) (generator_of lines.plan) lines.table c.args.column row held
          (λ after is. c.in_default.not-After after (ready ∙ is)) (λ lookup is. c.in_default.not-Lookup lookup (ready ∙ is))));
      within = subst (λ (of : ValuesOf). IfSome c.day-in_default.result (IsDayOf (field_facts (layout_of of.plan) of.table c.args.column).days)) c.requires.values c.day-in_default.ensures.within;
      steps = omega arith;
    }

pub day-requires-in-Lookup : goal.day-requires-in-Lookup
day-requires-in-Lookup g t c κs outlives =
    let lines : LinesOf = c.args.self.now in
    let known = AreFieldsOf-view _ lines c.self.inside.columns.now c.self.inside.first c.self.view_is c.self.invariant in
    let lookup : ReadyLookup = c.in-Lookup.lookup in
    let parent : ParentRow = c.parent_row-parent.result in
    let of = c.parent_row-parent.ensures.row in
    let here = looks lines c.self.inside.columns.now c.self.inside.first known c.args.column c.index-columns-column.result lookup c.requires.column c.index-columns-column.is (ap (λ (column : ReadyColumn). column.kind) c.index-columns-column.is ∙ c.in-Lookup.is) in (
      omega (
        arith,
        c.decreases,
        parent_before lines parent lookup c.args.column (columns_before lines.table c.args.column) of (looks_up_earlier lines known.sound known.table c.args.column lookup here)
            (shown_within lines known.sound known.table c.args.column lookup here) (omega arith),
      ),
      (
        outlives,
        (
          subst (λ (fields : LinesOf). lookup.column < length (layout_for fields).columns) (sym of.fields) (looks_up_still lines known.sound known.table c.args.column lookup here).within,
          (of.inside, of.values ∙ ap (values_at parent.fields) (sym (ap (λ (values : ValuesOf). values.changed) of.values))),
        ),
      ),
    )
