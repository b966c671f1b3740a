-- The days and numbers of a row from which dates after dates, sums and products are made.
use Rattle.std.proofs.Common.{w64, to_z, of_z, FitsSigned, get_or, ◌≡◌, ◌<◌, ◌≤◌, ◌+◌, ◌+ℤ◌, ℕ, ℤ, pos, zero, suc, Bool, true, false, cond, List, [], ◌∷◌, length, get_or, sum_by, Option, Some, None, is_some, if◌then◌else◌, refl, ap, subst, sym, zero-add, ◌∙◌, arith}
use Rattle.std.specs.Prelude.{nat_le}
use Rattle.std.specs.List.{fold}
use Rattle.std.specs.Option.{option_and_then, option_map, unwrap_or}
use Rattle.std.proofs.lemmas.Bool.{leb-true}
use Rattle.std.proofs.lemmas.Int.{fits_signed_from_abs, ints}
use Rattle.row_text.specs.Fields.{field_text}
use Rattle.cohort_sizes.specs.Births.{born_count, cohort_size}
use Rattle.cohort_sizes.proofs.CohortLemmas.{birth-later}
use Rattle.schema_facts.specs.declared.days.Days.{Days}
use Rattle.schema_facts.specs.declared.numbers.Numbers.{Numbers}
use Rattle.schema_plan.specs.declared.ready.ReadyAfter.{ReadyAfter}
use Rattle.schema_plan.specs.declared.ready.ReadyColumn.{ReadyColumn}
use Rattle.schema_plan.specs.declared.ready.ReadyKind.TheVariants as kind
use Rattle.schema_plan.specs.declared.ready.ReadyLookup.{ReadyLookup}
use Rattle.schema_plan.specs.declared.ready.ReadyReference.{ReadyReference}
use Rattle.schema_facts.specs.Dictionaries.{Project}
use Rattle.schema_facts.specs.Choices.{choices}
use Rattle.schema_facts.specs.ColumnFacts.{field_cost, field_facts}
use Rattle.schema_facts.specs.Days.{days_after}
use Rattle.schema_facts.specs.FieldSizes.{size_alone, size_of}
use Rattle.schema_facts.specs.Lineage.{lineages, null_cost_of}
use Rattle.schema_facts.specs.Ends.{IsBetween, IsInCalendar}
use Rattle.schema_facts.specs.Layout.{KindLayout, after_kind, born_kind, case_kind, changed_kind, column_at, key_kind, layout_of, leaf_kind, list_kind, lookup_kind, no_table, product_kind, reference_kind, sum_kind, table_at, template_kind, unit_date_kind}
use Rattle.schema_plan.specs.Limits.{IsAfterRange, IsInLimits, IsKindInLimits, IsLaterDate, IsOfOthersInLimits, IsTableInLimits, IsTotal, is_cited, is_lookup_kind}
use Rattle.schema_facts.specs.Numbers.{most_decimals, product_of as facts_product, start_from, sum_of as facts_sum, with_operand as with_facts}
use Rattle.schema_plan.specs.Ready.{ready_kind}
use Rattle.schema_facts.specs.References.{Reference, reference_at}
use Rattle.schema_facts.proofs.DayRangeLemmas.{days_between-parts, later-within}
use Rattle.schema_facts.proofs.FieldFactsLemmas.{IsColumnOf, cost-product, cost-sum, days-after, numbers-product, numbers-sum}
use Rattle.schema_facts.proofs.NumberLemmas.{sum_of-joined}
use Rattle.draw_values.specs.declared.leaf_numbers.Number.{Number}
use Rattle.draw_values.specs.CohortValues.{IsDayOf, IsNumberOf, ValuesOf, day_for as own_day_for, number_for as own_number_for, row_for}
use Rattle.draw_values.proofs.ShortNumberLemmas.{back}
use Rattle.draw_values.specs.Dates.{date_text}
use Rattle.draw_values.specs.Values.{Draws, draws_at, is_null, number_text, own_day, own_number, unless_null}
use Rattle.life_intervals.specs.CohortParents.{IsReferenceOf, reference_by}
use Rattle.life_intervals.specs.Generator.{Generator, generator_of, last_unit, table_of}
use Rattle.life_intervals.specs.Intervals.{held_parent, row_at}
use Rattle.life_intervals.specs.Rows.{Row}
use Rattle.life_intervals.proofs.AcceptedLemmas.{length-tables}
use Rattle.life_intervals.proofs.CohortParentLemmas.{parent_in-born}
use Rattle.life_intervals.proofs.HeldParentLemmas.{held_parent-cascades, parent_of-by}
use Rattle.row_lines.specs.declared.derived.Join.{Join}
use Rattle.row_lines.specs.declared.derived.Join.TheVariants as join
use Rattle.row_lines.specs.declared.derived.ParentRow.{ParentRow}
use Rattle.row_lines.specs.CohortLines.{AreFieldsOf, LinesOf, asked_by, asked_for, change_for, layout_for, ordinal_of, parent_for, row_changed, size_for, text_in_cohort, unless_known, values_at}
use Rattle.row_lines.specs.Derived.{columns_before, day_by, day_in, in_parent, number_by, number_in, number_of_kind}
use Rattle.row_lines.specs.Lines.{value_alone}
use Rattle.row_lines.specs.Lookups.{IsLookupOf}
use Rattle.row_lines.specs.Parts.{cited_for}
use Rattle.row_lines.specs.RowViews.{at_row, draws_of, parent_of_row}
use Rattle.row_lines.specs.Totals.{IsDated, IsParentOf, IsTotalOf, day_for, facts_for, is_total, join_of_facts, number_for}
use Rattle.row_lines.proofs.CohortFieldLemmas.{born_of_index, of_units, ready_at}
use Rattle.row_lines.proofs.LookupLemmas.{looks_up_earlier, looks_up_still, parent_of-for, reference_cascades, reference_ready, reference_to, is_lookup, text-in_table}
use Rattle.row_lines.proofs.PartLemmas.{cited_for-held}
use Rattle.row_lines.proofs.ReferenceFieldLemmas.{parent_of_row-by, parents-held_parent, reference_here}
use Rattle.row_lines.proofs.StillLemmas.{still_day, still_number}
use Rattle.row_lines.proofs.OperandLemmas.{joins-few}
use Rattle.row_lines.proofs.TotalLemmas.{numbers_at}

-- ---- kinds, as they are ready

pub after_from_ready : (delimiter : ℕ) (held : KindLayout) (after : ReadyAfter) → ready_kind delimiter held ≡ kind.After after →
    (held ≡ after_kind after.of after.lo after.hi) × (after.choices ≡ choices after.lo after.hi 1)
after_from_ready delimiter (after_kind of lo hi) after is =
    let same : record { of = of; lo = lo; hi = hi; choices = choices lo hi 1 } ≡ after = cc in
    (ap (λ (a : ReadyAfter). after_kind a.of a.lo a.hi) same, subst (λ (a : ReadyAfter). a.choices ≡ choices a.lo a.hi 1) same refl)
after_from_ready delimiter _ after is = absurd (cc)

pub dated_from_ready : (delimiter : ℕ) (held : KindLayout) (after : ReadyAfter) → ready_kind delimiter held ≡ kind.After after → IsDated held
dated_from_ready delimiter held after is = subst IsDated (sym (after_from_ready delimiter held after is).0) tt

pub sum_from_ready : (delimiter : ℕ) (held : KindLayout) (of : List ℕ) → ready_kind delimiter held ≡ kind.Sum of → held ≡ sum_kind of
sum_from_ready delimiter (sum_kind operands) of is =
    let same : operands ≡ of = cc in ap sum_kind same
sum_from_ready delimiter _ of is = absurd (cc)

pub product_from_ready : (delimiter : ℕ) (held : KindLayout) (of : List ℕ) → ready_kind delimiter held ≡ kind.Product of → held ≡ product_kind of
product_from_ready delimiter (product_kind operands) of is =
    let same : operands ≡ of = cc in ap product_kind same
product_from_ready delimiter _ of is = absurd (cc)

-- ---- whether a field is null

-- a null field shows no day and holds no number
pub day-null : (generator : Generator) (place column : ℕ) (row : Row) → is_null (column_at (table_at generator.tables place).columns column).null (draws_of generator place row column) ≡ true →
    (n : ℕ) → None ≡ day_in n generator place row column
unfolding day_in
day-null generator place column row null zero = refl
day-null generator place column row null (suc n) =
    sym (ap (λ (b : Bool). if b then None else day_by (day_in n generator) generator place row column (column_at (table_at generator.tables place).columns column).kind) null)

pub number-null : (generator : Generator) (place column : ℕ) (row : Row) → is_null (column_at (table_at generator.tables place).columns column).null (draws_of generator place row column) ≡ true →
    (n : ℕ) → None ≡ number_in n generator place row column
unfolding number_in
number-null generator place column row null zero = refl
number-null generator place column row null (suc n) =
    sym (ap (λ (b : Bool). if b then None else number_by (number_in n generator) generator place row column (column_at (table_at generator.tables place).columns column).kind) null)

-- any other field shows what it is made of
pub day-drawn : (generator : Generator) (place column : ℕ) (row : Row) (kind : KindLayout) (day : Option ℤ) → (column_at (table_at generator.tables place).columns column).kind ≡ kind →
    is_null (column_at (table_at generator.tables place).columns column).null (draws_of generator place row column) ≡ false →
    ((m : ℕ) → columns_before place column ≤ m → day ≡ day_by (day_in m generator) generator place row column kind) →
    (n : ℕ) → columns_before place column < n → day ≡ day_in n generator place row column
unfolding day_in
day-drawn generator place column row kind day is drawn made zero enough = absurd (omega (arith, enough))
day-drawn generator place column row kind day is drawn made (suc n) enough =
    made n (omega (arith, enough))
    ∙ ap (day_by (day_in n generator) generator place row column) (sym is)
    ∙ sym (ap (λ (b : Bool). if b then None else day_by (day_in n generator) generator place row column (column_at (table_at generator.tables place).columns column).kind) drawn)

pub number-drawn : (generator : Generator) (place column : ℕ) (row : Row) (kind : KindLayout) (number : Option Number) → (column_at (table_at generator.tables place).columns column).kind ≡ kind →
    is_null (column_at (table_at generator.tables place).columns column).null (draws_of generator place row column) ≡ false →
    ((m : ℕ) → columns_before place column ≤ m → number ≡ number_by (number_in m generator) generator place row column kind) →
    (n : ℕ) → columns_before place column < n → number ≡ number_in n generator place row column
unfolding number_in
number-drawn generator place column row kind number is drawn made zero enough = absurd (omega (arith, enough))
number-drawn generator place column row kind number is drawn made (suc n) enough =
    made n (omega (arith, enough))
    ∙ ap (number_by (number_in n generator) generator place row column) (sym is)
    ∙ sym (ap (λ (b : Bool). if b then None else number_by (number_in n generator) generator place row column (column_at (table_at generator.tables place).columns column).kind) drawn)

-- ---- what is drawn for the row itself

pub day_by-own : (delimiter : ℕ) (day : ℕ → Row → ℕ → Option ℤ) (generator : Generator) (place column : ℕ) (row : Row) (held : KindLayout) →
    ((after : ReadyAfter) → ready_kind delimiter held ≡ kind.After after → ⊥) → ((lookup : ReadyLookup) → ready_kind delimiter held ≡ kind.Lookup lookup → ⊥) →
    day_by day generator place row column held ≡ own_day (at_row row) (draws_of generator place row column) held
day_by-own delimiter day generator place column row key_kind no_after no_lookup = refl
day_by-own delimiter day generator place column row born_kind no_after no_lookup = refl
day_by-own delimiter day generator place column row changed_kind no_after no_lookup = refl
day_by-own delimiter day generator place column row (leaf_kind leaf) no_after no_lookup = refl
day_by-own delimiter day generator place column row (template_kind parts) no_after no_lookup = refl
day_by-own delimiter day generator place column row (case_kind on branches) no_after no_lookup = refl
day_by-own delimiter day generator place column row (reference_kind parent window spread nulls drawn) no_after no_lookup = refl
day_by-own delimiter day generator place column row (lookup_kind via parent name) no_after no_lookup = absurd (no_lookup _ refl)
day_by-own delimiter day generator place column row (list_kind words) no_after no_lookup = refl
day_by-own delimiter day generator place column row (unit_date_kind changed start step) no_after no_lookup = refl
day_by-own delimiter day generator place column row (after_kind of lo hi) no_after no_lookup = absurd (no_after _ refl)
day_by-own delimiter day generator place column row (sum_kind of) no_after no_lookup = refl
day_by-own delimiter day generator place column row (product_kind of) no_after no_lookup = refl

pub number_by-own : (delimiter : ℕ) (number : ℕ → Row → ℕ → Option Number) (generator : Generator) (place column : ℕ) (row : Row) (held : KindLayout) →
    ((of : List ℕ) → ready_kind delimiter held ≡ kind.Sum of → ⊥) → ((of : List ℕ) → ready_kind delimiter held ≡ kind.Product of → ⊥) → ((lookup : ReadyLookup) → ready_kind delimiter held ≡ kind.Lookup lookup → ⊥) →
    number_by number generator place row column held ≡ own_number (draws_of generator place row column) held
number_by-own delimiter number generator place column row key_kind no_sum no_product no_lookup = refl
number_by-own delimiter number generator place column row born_kind no_sum no_product no_lookup = refl
number_by-own delimiter number generator place column row changed_kind no_sum no_product no_lookup = refl
number_by-own delimiter number generator place column row (leaf_kind leaf) no_sum no_product no_lookup = refl
number_by-own delimiter number generator place column row (template_kind parts) no_sum no_product no_lookup = refl
number_by-own delimiter number generator place column row (case_kind on branches) no_sum no_product no_lookup = refl
number_by-own delimiter number generator place column row (reference_kind parent window spread nulls drawn) no_sum no_product no_lookup = refl
number_by-own delimiter number generator place column row (lookup_kind via parent name) no_sum no_product no_lookup = absurd (no_lookup _ refl)
number_by-own delimiter number generator place column row (list_kind words) no_sum no_product no_lookup = refl
number_by-own delimiter number generator place column row (unit_date_kind changed start step) no_sum no_product no_lookup = refl
number_by-own delimiter number generator place column row (after_kind of lo hi) no_sum no_product no_lookup = refl
number_by-own delimiter number generator place column row (sum_kind of) no_sum no_product no_lookup = absurd (no_sum _ refl)
number_by-own delimiter number generator place column row (product_kind of) no_sum no_product no_lookup = absurd (no_product _ refl)

-- as the values of the cohort have it
pub draws-values : (lines : LinesOf) (values : ValuesOf) (column index changed ordinal : ℕ) → values ≡ values_at lines changed → ordinal ≡ ordinal_of lines index → lines.born ≤ lines.unit →
    index < cohort_size (layout_for lines).births lines.born →
    draws_of (generator_of lines.plan) lines.table (row_changed lines index changed) column ≡ draws_at (layout_of values.plan) values.table (row_for values ordinal) column
draws-values lines values column index changed ordinal values_are ordinal_is within below =
    of_units lines index changed (λ (born at : ℕ). draws_at (layout_of lines.plan) lines.table (record { ordinal = ordinal_of lines index; born = born; changed = at }) column) within below
    ∙ ap (λ (j : ℕ). draws_at (layout_of lines.plan) lines.table (record { ordinal = j; born = lines.born; changed = changed }) column) (sym ordinal_is)
    ∙ ap (λ (of : ValuesOf). draws_at (layout_of of.plan) of.table (row_for of ordinal) column) (sym values_are)

pub own_day-values : (lines : LinesOf) (values : ValuesOf) (column index changed ordinal : ℕ) → values ≡ values_at lines changed → ordinal ≡ ordinal_of lines index → lines.born ≤ lines.unit →
    index < cohort_size (layout_for lines).births lines.born →
    own_day (at_row (row_changed lines index changed)) (draws_of (generator_of lines.plan) lines.table (row_changed lines index changed) column) (column_at (layout_for lines).columns column).kind
    ≡ own_day_for values column ordinal
own_day-values lines values column index changed ordinal values_are ordinal_is within below =
    of_units lines index changed (λ (born at : ℕ). own_day_for (record { plan = lines.plan; table = lines.table; born = born; changed = at }) column (ordinal_of lines index)) within below
    ∙ ap (own_day_for (values_at lines changed) column) (sym ordinal_is)
    ∙ ap (λ (of : ValuesOf). own_day_for of column ordinal) (sym values_are)

pub own_number-values : (lines : LinesOf) (values : ValuesOf) (column index changed ordinal : ℕ) → values ≡ values_at lines changed → ordinal ≡ ordinal_of lines index → lines.born ≤ lines.unit →
    index < cohort_size (layout_for lines).births lines.born →
    own_number (draws_of (generator_of lines.plan) lines.table (row_changed lines index changed) column) (column_at (layout_for lines).columns column).kind
    ≡ own_number_for values column ordinal
own_number-values lines values column index changed ordinal values_are ordinal_is within below =
    of_units lines index changed (λ (born at : ℕ). own_number_for (record { plan = lines.plan; table = lines.table; born = born; changed = at }) column (ordinal_of lines index)) within below
    ∙ ap (own_number_for (values_at lines changed) column) (sym ordinal_is)
    ∙ ap (λ (of : ValuesOf). own_number_for of column ordinal) (sym values_are)

-- ---- a date after a date

-- what the schema says of it
pub record IsAfterHere (lines : LinesOf) (column before : ℕ) (lo hi : ℤ) : Type 0 where
  pub of : IsColumnOf (layout_of lines.plan) lines.table column (after_kind before lo hi)
  pub later : IsLaterDate (layout_of lines.plan) lines.table column before
  pub range : IsAfterRange lo hi

pub after_here : (lines : LinesOf) → IsInLimits lines.plan → lines.table < length lines.plan.schema.tables → IsTableInLimits (last_unit lines.plan) (layout_for lines) → (column before : ℕ) (lo hi : ℤ) →
    column < length (layout_for lines).columns → (column_at (layout_for lines).columns column).kind ≡ after_kind before lo hi → IsAfterHere lines column before lo hi
after_here lines sound table limits column before lo hi within is = record {
  of = record { below = omega (arith, table, length-tables lines.plan); within = omega (arith, within, limits.column_limit); kind_is = is };
  later = subst (IsOfOthersInLimits (layout_of lines.plan) lines.table column) is (sound.of_others lines.table column table within);
  range = subst (IsKindInLimits (layout_for lines).columns column) is (limits.kinds column within);
}

-- as a column is ready
pub after_ready : (lines : LinesOf) (columns : List ReadyColumn) (first : ℕ) → AreFieldsOf lines columns first → (column : ℕ) (found : ReadyColumn) (after : ReadyAfter) → column < length (layout_for lines).columns →
    found ≡ get_or columns column found → found.kind ≡ kind.After after → IsAfterHere lines column after.of after.lo after.hi × (after.choices ≡ choices after.lo after.hi 1)
after_ready lines columns first known column found after within at held =
    let parts = after_from_ready (layout_of lines.plan).delimiter (column_at (layout_for lines).columns column).kind after
    (ap (λ (ready : ReadyColumn). ready.kind) (ready_at lines columns known.columns_are column found within at) ∙ held) in
    (after_here lines known.sound known.table known.limits column after.of after.lo after.hi within parts.0, parts.1)

-- its day is one of those that its facts tell
pub after-within : (found later : Option Days) (lo hi day by : ℤ) → later ≡ option_and_then (days_after lo hi) found → is_some later ≡ true → IsDayOf found day → IsBetween lo hi by →
    IsDayOf later (day +ℤ by) × IsInCalendar (day +ℤ by)
after-within None later lo hi day by is some shown between = absurd shown
after-within (Some days) None lo hi day by is some shown between = absurd (cc)
after-within (Some days) (Some later) lo hi day by is some shown between = later-within days later lo hi (sym is) day by shown between

pub day-within : (lines : LinesOf) (column before : ℕ) (lo hi day by : ℤ) → IsAfterHere lines column before lo hi → IsDayOf (field_facts (layout_of lines.plan) lines.table before).days day → IsBetween lo hi by →
    IsDayOf (field_facts (layout_of lines.plan) lines.table column).days (day +ℤ by) × IsInCalendar (day +ℤ by)
day-within lines column before lo hi day by here shown between =
    after-within (field_facts (layout_of lines.plan) lines.table before).days (field_facts (layout_of lines.plan) lines.table column).days lo hi day by
    (days-after (layout_of lines.plan) lines.table column before lo hi here.of here.later.earlier) here.later.dated shown between

-- so it and what it is made of are passed on as they are
pub fits_day : (lo hi earlier by : ℤ) → IsAfterRange lo hi → IsBetween lo hi by → IsInCalendar (earlier +ℤ by) →
    (to_z w64 (of_z w64 earlier) ≡ earlier) × (to_z w64 (of_z w64 by) ≡ by) × (to_z w64 (of_z w64 (earlier +ℤ by)) ≡ earlier +ℤ by) × FitsSigned w64 (earlier +ℤ by)
fits_day lo hi earlier by range between calendar = (
  back earlier (omega (arith, ints, range.least, range.most, between.from, between.to, calendar.from, calendar.to)),
  back by (omega (arith, ints, range.least, range.most, between.from, between.to)),
  back (earlier +ℤ by) (omega (arith, ints, calendar.from, calendar.to)),
  fits_signed_from_abs w64 (earlier +ℤ by) (omega (arith, ints, calendar.from, calendar.to)),
)

pub fits_calendar : (day : ℤ) → IsInCalendar day → to_z w64 (of_z w64 day) ≡ day
fits_calendar day calendar = back day (omega (arith, ints, calendar.from, calendar.to))

-- which are in the calendar
pub in_calendar : (found later : Option Days) (lo hi day : ℤ) → later ≡ option_and_then (days_after lo hi) found → IsDayOf later day → IsInCalendar day
in_calendar found None lo hi day is shown = absurd shown
in_calendar None (Some later) lo hi day is shown = absurd (cc)
in_calendar (Some days) (Some later) lo hi day is shown =
    let parts = days_between-parts (days.least +ℤ lo) (days.greatest +ℤ hi) later (sym is) in
    within (days.least +ℤ lo) (days.greatest +ℤ hi) later.least later.greatest parts.0 parts.1 parts.2 parts.3 shown
  where
    within : (a b least greatest : ℤ) → least ≡ a → greatest ≡ b → IsInCalendar a → IsInCalendar b → IsBetween least greatest day → IsInCalendar day
    within a b least greatest p q low high h = record { from = omega (arith, ints, p, low.from, h.from); to = omega (arith, ints, q, high.to, h.to) }

pub day-calendar : (lines : LinesOf) (column before : ℕ) (lo hi day : ℤ) → IsAfterHere lines column before lo hi → IsDayOf (field_facts (layout_of lines.plan) lines.table column).days day → IsInCalendar day
day-calendar lines column before lo hi day here shown =
    in_calendar (field_facts (layout_of lines.plan) lines.table before).days (field_facts (layout_of lines.plan) lines.table column).days lo hi day
    (days-after (layout_of lines.plan) lines.table column before lo hi here.of here.later.earlier) shown

-- ---- a sum or a product

pub fold-few : (way : Join) (of : List (Option Numbers)) (start total : Numbers) → start.decimals ≤ 9 → fold (with_facts (join_of_facts way)) (Some start) of ≡ Some total → total.decimals ≤ 9
fold-few way [] start total few h = omega (arith, few, ap (λ (o : Option Numbers). (unwrap_or o start).decimals) h)
fold-few way (None ∷ of) start total few h = absurd (none (sym (gone of) ∙ h))
  where
    gone : (rest : List (Option Numbers)) → fold (with_facts (join_of_facts way)) None rest ≡ None
    gone [] = refl
    gone (first ∷ rest) = gone rest

    none : None ≡ Some total → ⊥
    none p = cc
fold-few way (Some operand ∷ of) start total few h = of_next (λ next small. fold-few way of next total small) (join_of_facts way start operand) refl h
  where
    gone : (rest : List (Option Numbers)) → fold (with_facts (join_of_facts way)) None rest ≡ None
    gone [] = refl
    gone (first ∷ rest) = gone rest

    none : None ≡ Some total → ⊥
    none p = cc

    of_next : ((next : Numbers) → next.decimals ≤ 9 → fold (with_facts (join_of_facts way)) (Some next) of ≡ Some total → total.decimals ≤ 9) → (next : Option Numbers) → join_of_facts way start operand ≡ next →
        fold (with_facts (join_of_facts way)) next of ≡ Some total → total.decimals ≤ 9
    of_next rest None is h = absurd (none (sym (gone of) ∙ h))
    of_next rest (Some next) is h = rest next (joins-few way start operand next is) h

pub sum-few : (of : List (Option Numbers)) (total : Numbers) → facts_sum of ≡ Some total → total.decimals ≤ 9
sum-few of total h = by_test (nat_le (most_decimals of) 9) refl h
  where
    whole : Option Numbers
    whole = fold (with_facts (join_of_facts join.Sum)) (Some (start_from (most_decimals of) (pos 0))) of

    by_test : (test : Bool) → nat_le (most_decimals of) 9 ≡ test → cond test whole None ≡ Some total → total.decimals ≤ 9
    by_test true few h = fold-few join.Sum of (start_from (most_decimals of) (pos 0)) total (leb-true (most_decimals of) 9 few) h
    by_test false few h = absurd (cc)

pub some_of : {A : Type 0} (o : Option A) → is_some o ≡ true → (x : A) × (o ≡ Some x)
some_of None h = absurd (cc)
some_of (Some x) h = (x, refl)

pub sum_here : (lines : LinesOf) → IsInLimits lines.plan → lines.table < length lines.plan.schema.tables → IsTableInLimits (last_unit lines.plan) (layout_for lines) → (column : ℕ) (of : List ℕ) →
    column < length (layout_for lines).columns → (column_at (layout_for lines).columns column).kind ≡ sum_kind of → IsTotalOf lines column of join.Sum × (field_cost (layout_of lines.plan) lines.table column ≡ sum_by (field_cost (layout_of lines.plan) lines.table) of)
sum_here lines sound table limits column of within is =
    let here : IsColumnOf (layout_of lines.plan) lines.table column (sum_kind of) = record { below = omega (arith, table, length-tables lines.plan); within = omega (arith, within, limits.column_limit); kind_is = is } in
    let total : IsTotal (layout_of lines.plan) lines.table column of = subst (IsOfOthersInLimits (layout_of lines.plan) lines.table column) is (sound.of_others lines.table column table within) in
    let found = some_of (numbers_at lines column) total.numeric in
    let told : facts_sum (facts_for lines of) ≡ Some found.0 = sym (numbers-sum (layout_of lines.plan) lines.table column of here total.earlier) ∙ found.1 in (
      record {
        within = within;
        earlier = total.earlier;
        numbers = found.0;
        joined = sum_of-joined (facts_for lines of) found.0 told;
        facts_are = found.1;
        few = sum-few (facts_for lines of) found.0 told;
      },
      cost-sum (layout_of lines.plan) lines.table column of here total.earlier,
    )

pub product_here : (lines : LinesOf) → IsInLimits lines.plan → lines.table < length lines.plan.schema.tables → IsTableInLimits (last_unit lines.plan) (layout_for lines) → (column : ℕ) (of : List ℕ) →
    column < length (layout_for lines).columns → (column_at (layout_for lines).columns column).kind ≡ product_kind of → IsTotalOf lines column of join.Product × (field_cost (layout_of lines.plan) lines.table column ≡ sum_by (field_cost (layout_of lines.plan) lines.table) of)
product_here lines sound table limits column of within is =
    let here : IsColumnOf (layout_of lines.plan) lines.table column (product_kind of) = record { below = omega (arith, table, length-tables lines.plan); within = omega (arith, within, limits.column_limit); kind_is = is } in
    let total : IsTotal (layout_of lines.plan) lines.table column of = subst (IsOfOthersInLimits (layout_of lines.plan) lines.table column) is (sound.of_others lines.table column table within) in
    let found = some_of (numbers_at lines column) total.numeric in
    let told : facts_product (facts_for lines of) ≡ Some found.0 = sym (numbers-product (layout_of lines.plan) lines.table column of here total.earlier) ∙ found.1 in (
      record {
        within = within;
        earlier = total.earlier;
        numbers = found.0;
        joined = told;
        facts_are = found.1;
        few = fold-few join.Product (facts_for lines of) (start_from 0 (pos 1)) found.0 (omega arith) told;
      },
      cost-product (layout_of lines.plan) lines.table column of here total.earlier,
    )

total-few : (lines : LinesOf) (column : ℕ) (of : List ℕ) (way : Join) (number : Number) → IsTotalOf lines column of way → IsNumberOf (numbers_at lines column) number → number.decimals ≤ 9
total-few lines column of way number is held =
    let told : IsNumberOf (Some is.numbers) number = subst (λ (numbers : Option Numbers). IsNumberOf numbers number) is.facts_are held in
    omega (arith, told.0, is.few)

-- so a number of one has at most 9 digits after the point
pub number-few : (lines : LinesOf) → IsInLimits lines.plan → lines.table < length lines.plan.schema.tables → IsTableInLimits (last_unit lines.plan) (layout_for lines) → (column : ℕ) (number : Number) →
    column < length (layout_for lines).columns → is_total (column_at (layout_for lines).columns column).kind ≡ true → IsNumberOf (numbers_at lines column) number → number.decimals ≤ 9
number-few lines sound table limits column number within total held = of_kind (column_at (layout_for lines).columns column).kind refl total
  where
    of_kind : (held_kind : KindLayout) → (column_at (layout_for lines).columns column).kind ≡ held_kind → is_total held_kind ≡ true → number.decimals ≤ 9
    of_kind (sum_kind of) is total = total-few lines column of join.Sum number (sum_here lines sound table limits column of within is).0 held
    of_kind (product_kind of) is total = total-few lines column of join.Product number (product_here lines sound table limits column of within is).0 held
    of_kind _ is total = absurd (cc)

-- a kind of dates after dates is one
pub record IsAfterKind (held : KindLayout) : Type 0 where
  pub before : ℕ
  pub lo : ℤ
  pub hi : ℤ
  pub is : held ≡ after_kind before lo hi

pub after_kind-dated : (held : KindLayout) → IsDated held → IsAfterKind held
after_kind-dated (after_kind before lo hi) dated = record { before = before; lo = lo; hi = hi; is = refl }
after_kind-dated _ dated = absurd dated

-- what a total takes
pub size-total : (delimiter : ℕ) (held : KindLayout) → is_total held ≡ true → size_alone delimiter held ≡ 21
size-total delimiter (sum_kind of) total = refl
size-total delimiter (product_kind of) total = refl
size-total delimiter _ total = absurd (cc)

-- ---- fields

unless_null-map : {A B : Type 0} (f : A → B) (null : ℕ) (draw : Draws) (held : Option A) → unless_null null draw (option_map f held) ≡ option_map f (unless_null null draw held)
unless_null-map f null draw held = by_test (is_null null draw)
  where
    by_test : (test : Bool) → (if test then None else option_map f held) ≡ option_map f (if test then None else held)
    by_test true = refl
    by_test false = refl

-- the field of a date after a date is the date of its day
pub cited-day : (lines : LinesOf) (index changed column before : ℕ) (lo hi : ℤ) → (column_at (layout_for lines).columns column).kind ≡ after_kind before lo hi →
    cited_for lines index changed column ≡ option_map date_text (day_for lines index changed (suc (columns_before lines.table column)) column)
unfolding day_in
cited-day lines index changed column before lo hi is =
    let generator : Generator = generator_of lines.plan in
    let row : Row = row_changed lines index changed in
    let null : ℕ = (column_at (layout_for lines).columns column).null in
    let draws : Draws = draws_of generator lines.table row column in
    let n : ℕ = columns_before lines.table column in
    ap (λ (held : KindLayout). unless_null null draws (value_alone generator lines.table row column held)) is
    ∙ unless_null-map date_text null draws (day_by (day_in n generator) generator lines.table row column (after_kind before lo hi))
    ∙ ap (λ (held : KindLayout). option_map date_text (unless_null null draws (day_by (day_in n generator) generator lines.table row column held))) (sym is)

-- that of a sum or a product its number, as it is spelled
pub cited-number : (lines : LinesOf) (index changed column : ℕ) → is_total (column_at (layout_for lines).columns column).kind ≡ true →
    cited_for lines index changed column ≡ option_map number_text (number_for lines index changed (suc (columns_before lines.table column)) column)
unfolding number_in
cited-number lines index changed column total = of_kind (column_at (layout_for lines).columns column).kind refl total
  where
    generator : Generator
    generator = generator_of lines.plan

    row : Row
    row = row_changed lines index changed

    null : ℕ
    null = (column_at (layout_for lines).columns column).null

    draws : Draws
    draws = draws_of generator lines.table row column

    n : ℕ
    n = columns_before lines.table column

    by_value : (held : KindLayout) → (column_at (layout_for lines).columns column).kind ≡ held → value_alone generator lines.table row column held ≡ option_map number_text (number_of_kind generator lines.table row column held) →
        cited_for lines index changed column ≡ option_map number_text (number_for lines index changed (suc n) column)
    by_value held is value_is =
        ap (λ (k : KindLayout). unless_null null draws (value_alone generator lines.table row column k)) is
        ∙ ap (unless_null null draws) value_is
        ∙ unless_null-map number_text null draws (number_by (number_in n generator) generator lines.table row column held)
        ∙ ap (λ (k : KindLayout). option_map number_text (unless_null null draws (number_by (number_in n generator) generator lines.table row column k))) (sym is)

    of_kind : (held : KindLayout) → (column_at (layout_for lines).columns column).kind ≡ held → is_total held ≡ true → cited_for lines index changed column ≡ option_map number_text (number_for lines index changed (suc n) column)
    of_kind (sum_kind of) is total = by_value (sum_kind of) is refl
    of_kind (product_kind of) is total = by_value (product_kind of) is refl
    of_kind _ is total = absurd (cc)

-- ---- the parent of a lookup

module _ (lines : LinesOf) (sound : IsInLimits lines.plan) (table : lines.table < length lines.plan.schema.tables) (early : lines.born ≤ lines.unit) (within : lines.unit ≤ last_unit lines.plan)
    (column index changed : ℕ) (inside : index < cohort_size (layout_for lines).births lines.born) (lookup : ReadyLookup) (looks : IsLookupOf lines column lookup) (parent : ParentRow) (of : IsParentOf lines index lookup parent) where
  abbrev generator : Generator
  generator = generator_of lines.plan

  abbrev refers : (ready : ReadyReference) × (ready_kind (layout_of lines.plan).delimiter (column_at (layout_for lines).columns lookup.via).kind ≡ kind.Reference ready)
  refers = reference_ready (layout_of lines.plan).delimiter lookup.parent (column_at (layout_for lines).columns lookup.via).kind (is_lookup lines sound table column lookup looks).reference

  abbrev reference : ReadyReference
  reference = refers.0

  reference_is : IsReferenceOf lines.plan lines.table lookup.via reference
  reference_is = record { within = omega (arith, (is_lookup lines sound table column lookup looks).earlier, looks.within); is = refers.1 }

  to : reference.parent ≡ lookup.parent
  to = reference_to (layout_of lines.plan).delimiter lookup.parent (column_at (layout_for lines).columns lookup.via).kind reference (is_lookup lines sound table column lookup looks).reference refers.1

  cascades : reference.nulls ≡ false
  cascades = reference_cascades (layout_of lines.plan).delimiter lookup.parent (column_at (layout_for lines).columns lookup.via).kind reference (is_lookup lines sound table column lookup looks).reference refers.1

  -- the parent's ordinal
  abbrev chosen_parent : ℕ
  chosen_parent = parent_for lines index (reference_by lookup.via reference)

  parent_table : parent.fields.table ≡ lookup.parent
  parent_table = ap (λ (f : LinesOf). f.table) of.fields

  parent_born : chosen_parent < born_count (table_of lines.plan lookup.parent).births lines.born
  parent_born =
      subst (λ (place : ℕ). chosen_parent < born_count (table_of lines.plan place).births lines.born) to
      (parent_in-born lines.plan sound lines.table lookup.via lines.born index reference table reference_is (omega (arith, early, within)) inside)

  parent_is : parent_of_row (layout_for lines) (row_changed lines index changed) lookup.via ≡ Some chosen_parent
  parent_is =
      parent_of_row-by (layout_for lines) (row_changed lines index changed) (held_parent generator lines.table lines.unit (ordinal_of lines index)) lookup.via (reference_by lookup.via reference)
      (parents-held_parent generator lines.table lines.unit (ordinal_of lines index)) (reference_here lines lookup.via reference reference_is)
      ∙ held_parent-cascades generator lines.table lines.unit (ordinal_of lines index) (reference_by lookup.via reference) cascades
      ∙ ap (λ (p : ℕ). Some p) (parent_of-for lines index (reference_by lookup.via reference) early inside)

  -- the row of the parent as the row's birth has it, and as it was born
  abbrev known : Row
  known = row_at generator lookup.parent lines.born chosen_parent

  abbrev shown : Row
  shown = record (row_at generator lookup.parent lines.unit chosen_parent) { changed = parent.fields.born }

  parent_limits : IsTableInLimits (last_unit lines.plan) (table_of lines.plan lookup.parent)
  parent_limits = sound.tables lookup.parent no_table (omega (arith, looks_up_earlier lines sound table column lookup looks, table, length-tables lines.plan))

  same_born : shown.born ≡ known.born
  same_born = birth-later (table_of lines.plan lookup.parent).births lines.born lines.unit chosen_parent parent_born early

  same_parents : (at : ℕ) (by : Reference) → reference_at (table_of lines.plan lookup.parent) at ≡ Some by → by.nulls ≡ false → parent_of_row (table_of lines.plan lookup.parent) shown at ≡ parent_of_row (table_of lines.plan lookup.parent) known at
  same_parents at by is cascading =
      parent_of_row-by (table_of lines.plan lookup.parent) shown (held_parent generator lookup.parent lines.unit chosen_parent) at by (parents-held_parent generator lookup.parent lines.unit chosen_parent) is
      ∙ held_parent-cascades generator lookup.parent lines.unit chosen_parent by cascading
      ∙ ap (λ (p : ℕ). Some p) (parent_of-by generator lookup.parent lines.unit lines.born chosen_parent by early parent_born)
      ∙ sym (held_parent-cascades generator lookup.parent lines.born chosen_parent by cascading)
      ∙ sym (parent_of_row-by (table_of lines.plan lookup.parent) known (held_parent generator lookup.parent lines.born chosen_parent) at by (parents-held_parent generator lookup.parent lines.born chosen_parent) is)

  -- what is shown is what the parent's own fields have
  in_parent-is : {A : Type 0} (held : ℕ → Row → ℕ → Option A) → held lookup.parent shown lookup.column ≡ held lookup.parent known lookup.column →
      in_parent held generator lines.table (row_changed lines index changed) lookup.via lookup.parent lookup.column
      ≡ held parent.fields.table (row_changed parent.fields parent.index parent.fields.born) lookup.column
  in_parent-is held same =
      ap (λ (found : Option ℕ). option_and_then (λ (ordinal : ℕ). held lookup.parent (row_at generator lookup.parent (row_changed lines index changed).born ordinal) lookup.column) found) parent_is
      ∙ ap (λ (born : ℕ). held lookup.parent (row_at generator lookup.parent born chosen_parent) lookup.column) (born_of_index lines index early inside)
      ∙ sym same
      ∙ ap (λ (ordinal : ℕ). held lookup.parent (record (row_at generator lookup.parent lines.unit ordinal) { changed = parent.fields.born }) lookup.column) (sym (of.ordinal reference reference_is))
      ∙ of_fields parent.fields of.fields
    where
      of_fields : (fields : LinesOf) → fields ≡ record { plan = lines.plan; table = lookup.parent; born = parent.fields.born; unit = lines.unit } →
          held lookup.parent (record (row_at generator lookup.parent lines.unit (ordinal_of fields parent.index)) { changed = parent.fields.born }) lookup.column
          ≡ held fields.table (row_changed fields parent.index parent.fields.born) lookup.column
      of_fields fields is =
          sym (ap (λ (f : LinesOf). held f.table (record (row_at (generator_of f.plan) f.table f.unit (ordinal_of fields parent.index)) { changed = parent.fields.born }) lookup.column) is)

  pub parent-day : (m : ℕ) → in_parent (day_in m generator) generator lines.table (row_changed lines index changed) lookup.via lookup.parent lookup.column ≡ day_for parent.fields parent.index parent.fields.born m lookup.column
  parent-day m =
      in_parent-is (day_in m generator)
      (still_day generator lookup.parent known shown (last_unit lines.plan) parent_limits (λ at inside. sound.lookups lookup.parent at (omega (arith, looks_up_earlier lines sound table column lookup looks, table)) inside) refl same_born same_parents m lookup.column
      (looks_up_still lines sound table column lookup looks).still)
      ∙ ap (λ (plan : Project). day_in m (generator_of plan) parent.fields.table (row_changed parent.fields parent.index parent.fields.born) lookup.column) (sym (ap (λ (f : LinesOf). f.plan) of.fields))

  pub parent-number : (m : ℕ) → in_parent (number_in m generator) generator lines.table (row_changed lines index changed) lookup.via lookup.parent lookup.column ≡ number_for parent.fields parent.index parent.fields.born m lookup.column
  parent-number m =
      in_parent-is (number_in m generator)
      (still_number generator lookup.parent known shown (last_unit lines.plan) parent_limits (λ at inside. sound.lookups lookup.parent at (omega (arith, looks_up_earlier lines sound table column lookup looks, table)) inside) refl same_born same_parents m lookup.column
      (looks_up_still lines sound table column lookup looks).still)
      ∙ ap (λ (plan : Project). number_in m (generator_of plan) parent.fields.table (row_changed parent.fields parent.index parent.fields.born) lookup.column) (sym (ap (λ (f : LinesOf). f.plan) of.fields))

-- the column that is shown stands before, in an earlier table
pub shown_within : (lines : LinesOf) → IsInLimits lines.plan → lines.table < length lines.plan.schema.tables → (column : ℕ) (lookup : ReadyLookup) → IsLookupOf lines column lookup → lookup.column < 64
shown_within lines sound table column lookup looks =
    omega (
      arith,
      (looks_up_still lines sound table column lookup looks).within,
      (sound.tables lookup.parent no_table (omega (arith, looks_up_earlier lines sound table column lookup looks, table, length-tables lines.plan))).column_limit,
    )

pub parent_before : (lines : LinesOf) (parent : ParentRow) (lookup : ReadyLookup) (column m : ℕ) {index : ℕ} → IsParentOf lines index lookup parent → lookup.parent < lines.table → lookup.column < 64 → columns_before lines.table column ≤ m →
    columns_before parent.fields.table lookup.column < m
parent_before lines parent lookup column m of earlier few past = omega (arith, ap (λ (f : LinesOf). f.table) of.fields, earlier, few, past)

-- ---- a date after a date, as it is written

-- it may be cited, and is no lookup
dated-cited : (held : KindLayout) → IsDated held → (is_cited held ≡ true) × (is_lookup_kind held ≡ false)
dated-cited (after_kind before lo hi) dated = (refl, refl)
dated-cited _ dated = absurd dated

pub text-day : (lines : LinesOf) (index column : ℕ) (day : Option ℤ) → lines.table < length lines.plan.schema.tables → column < length (layout_for lines).columns → IsDated (column_at (layout_for lines).columns column).kind →
    ((n : ℕ) → columns_before lines.table column < n → day ≡ day_for lines index (change_for lines index) n column) →
    text_in_cohort lines index column ≡ field_text (layout_of lines.plan).delimiter (option_map date_text day)
text-day lines index column day table within dated found =
    let cited = dated-cited (column_at (layout_for lines).columns column).kind dated in
    let after = after_kind-dated (column_at (layout_for lines).columns column).kind dated in
    sym (text-in_table lines index column table cited.1)
    ∙ ap (field_text (layout_of lines.plan).delimiter)
    (sym (cited_for-held lines index (change_for lines index) column (record { within = within; cited = cited.0 }))
    ∙ cited-day lines index (change_for lines index) column after.before after.lo after.hi after.is
    ∙ sym (ap (option_map date_text) (found (suc (columns_before lines.table column)) (omega arith))))

-- what it takes, and how many permutations it asks
pub size-day : (lines : LinesOf) (column : ℕ) → IsDated (column_at (layout_for lines).columns column).kind → size_for lines column ≡ 10
size-day lines column dated =
    ap (size_of (layout_of lines.plan).delimiter (layout_of lines.plan).tables (layout_for lines).columns) (after_kind-dated (column_at (layout_for lines).columns column).kind dated).is

pub asked-day : (lines : LinesOf) (column : ℕ) → IsDated (column_at (layout_for lines).columns column).kind → asked_for true lines column ≡ field_cost (layout_of lines.plan) lines.table column
asked-day lines column dated =
    let is = (after_kind-dated (column_at (layout_for lines).columns column).kind dated).is in
    ap (asked_by true (layout_of lines.plan) lines.table column) is
    ∙ ap (λ (held : KindLayout). unless_known held true (null_cost_of (lineages (layout_of lines.plan).tables) held + field_cost (layout_of lines.plan) lines.table column)) is
    ∙ zero-add (field_cost (layout_of lines.plan) lines.table column)
