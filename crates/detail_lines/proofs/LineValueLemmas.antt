-- What a line holds in a column, by the kind that is kept ready of it.
use Rattle.std.proofs.Common.{◌≡◌, ◌∙◌, ℕ, ℤ, pos, ◌<◌, ◌≤◌, ◌+ℤ◌, All, true, List, get_or, length, Option, Some, None, is_some, refl, sym, ap, subst, arith}
use Rattle.std.specs.Prelude.{IfSome}
use Rattle.std.specs.List.{fold}
use Rattle.std.specs.Option.{option_map}
use Rattle.std.proofs.lemmas.Int.{ints}
use Rattle.philox_seeds.specs.SeedTree.{column_seed, draw, row_seed, unit_seed}
use Rattle.row_text.specs.Fields.{field_text}
use Rattle.schema_facts.specs.declared.column_facts.ColumnFacts.{ColumnFacts}
use Rattle.schema_facts.specs.declared.days.Days.{Days}
use Rattle.schema_facts.specs.declared.numbers.Numbers.{Numbers}
use Rattle.schema_plan.specs.declared.ready.ReadyAfter.{ReadyAfter}
use Rattle.schema_plan.specs.declared.ready.ReadyKind.TheVariants as kind
use Rattle.schema_plan.specs.declared.ready.ReadyLeaf.{ReadyLeaf}
use Rattle.schema_plan.specs.declared.ready.ReadyLookup.{ReadyLookup}
use Rattle.schema_facts.specs.ColumnFacts.{field_facts}
use Rattle.schema_facts.specs.Dictionaries.{Project}
use Rattle.schema_facts.specs.Ends.{IsBetween, IsInCalendar as IsBetweenCalendar}
use Rattle.schema_facts.specs.FactsBefore.{facts_among}
use Rattle.schema_facts.specs.FieldSizes.{greatest_by, size_at, size_of}
use Rattle.schema_facts.specs.Layout.{ColumnLayout, KindLayout, LeafLayout, after_kind, layout_of, leaf_kind, lookup_kind, no_table, product_kind, sum_kind, table_at, table_layouts}
use Rattle.schema_plan.specs.Limits.{IsInLimits as IsPlanInLimits}
use Rattle.schema_facts.specs.Numbers as numbers
use Rattle.schema_plan.specs.Ready.{ready_kind, ready_leaf}
use Rattle.schema_facts.proofs.NumberLemmas.{added-digits, sum_of-joined}
use Rattle.draw_values.specs.declared.leaf_numbers.Number.{Number}
use Rattle.draw_values.specs.CohortValues.{IsDayOf, IsNumberOf}
use Rattle.draw_values.specs.Dates.{date_text}
use Rattle.draw_values.specs.ReadyValues.{IsReady, ready_leaf_day, ready_leaf_number, ready_size, ready_text}
use Rattle.draw_values.specs.Values.{Draws, chosen, draw_unit, leaf_day, leaf_number, number_text}
use Rattle.draw_values.proofs.OwnEndLemmas.{leaf_day-within, leaf_number-within}
use Rattle.draw_values.proofs.ReadyLemmas.{leaf_day-ready, leaf_is_ready, leaf_number-ready, leaf_size-ready}
use Rattle.life_intervals.specs.Generator.{last_unit, table_of}
use Rattle.life_intervals.proofs.AcceptedLemmas.{place-below}
use Rattle.row_lines.specs.declared.derived.Join.{Join}
use Rattle.row_lines.specs.declared.derived.Join.TheVariants as join
use Rattle.row_lines.specs.Derived.{decimals_of, with_operand}
use Rattle.row_lines.specs.Lookups.{StillRowOf, day_held, number_held, text_held}
use Rattle.row_lines.specs.RowViews.{at_row}
use Rattle.row_lines.specs.Totals.{join_of, start_of, total_text}
use Rattle.row_lines.proofs.DerivedLemmas.{after-within, after_from_ready, fold-few, in_calendar, product_from_ready, some_of, sum-few, sum_from_ready}
use Rattle.row_lines.proofs.OperandLemmas.{AreJoined, IsNextJoined, joined-lost, joined-more, sum-is}
use Rattle.detail_plan.specs.declared.detail.Detail.{Detail}
use Rattle.detail_plan.specs.Kept.{KeepsRules}
use Rattle.detail_plan.specs.Limits.{IsInLimits}
use Rattle.detail_lines.specs.declared.shown.Shown.{Shown}
use Rattle.detail_lines.specs.Lines.{Line, column_of, draws_of_line, line_day_by, line_day_in, line_number_by, line_number_in, line_value}
use Rattle.detail_lines.specs.Made.{IsLineOver, LineOver, delimiter_over, detail_seed, line_over, own_over, place_over, size_over}
use Rattle.detail_lines.specs.Shown.{AreShown, IsAfterAt, IsDayAt, IsInCalendar, IsLineTotal, IsNumberAt, day_text, digits_for, facts_for, operands_of, value_text}
use Rattle.detail_lines.proofs.ColumnLemmas.{IsKnown, IsKnownLeaf, IsKnownShown, known}
use Rattle.detail_lines.proofs.ValueLemmas.{date-written, drawn-written, leaf_from_ready, lookup_from_ready, total-written}
use Rattle.detail_lines.proofs.WordListLemmas.{table_first}

-- ---- seeds

-- the seed of a column and the ordinal of the line give the draws of its field
pub seed-draws : (line : LineOver) (row : StillRowOf) (byte : ℕ) (seeds : List ℕ) (drawn : ℕ) → IsLineOver line row byte seeds drawn → (column : ℕ) → column < own_over line.over →
    draw (row_seed (get_or seeds column 0) drawn) ≡ draws_of_line (line_over line) column
seed-draws line row byte seeds drawn own column within =
    ap (λ (seed : ℕ). draw (row_seed seed drawn)) (own.seeds_are.each column within)
    ∙ ap (λ (ordinal : ℕ). draw (row_seed (unit_seed (column_seed (detail_seed line.over.kept) column) (draw_unit (column_of (line_over line) column) (at_row (line_over line).row))) ordinal)) own.drawn_is

module _ (line : LineOver) (keeps : KeepsRules line.over.plan line.over.kept) (limits : IsInLimits line.over.kept.lists line.over.kept.detail) (column : ℕ) (within : column < own_over line.over) where
  abbrev plan : Project
  plan = line.over.plan

  abbrev detail : Detail
  detail = line.over.kept.detail

  abbrev facts : List ColumnFacts
  facts = line.over.kept.facts

  abbrev told : ColumnFacts
  told = facts_among facts column

  abbrev d : ℕ
  d = delimiter_over line.over

  abbrev place : ℕ
  place = place_over line.over

  abbrev here : Line
  here = line_over line

  abbrev held : KindLayout
  held = (column_of here column).kind

  abbrev draws : Draws
  draws = draws_of_line here column

  known_as : (of : KindLayout) → held ≡ of → IsKnown plan detail facts column of
  known_as of is = subst (IsKnown plan detail facts column) is (known plan line.over.kept keeps limits column within)

  -- ---- drawn values

  pub record IsDrawnAs (drawn : ReadyLeaf) : Type 0 where
    pub layout : LeafLayout
    pub is : held ≡ leaf_kind layout
    pub ready : drawn ≡ ready_leaf d layout
    pub knows : IsKnownLeaf told layout

  pub drawn_as : (drawn : ReadyLeaf) → ready_kind d held ≡ kind.Drawn drawn → IsDrawnAs drawn
  drawn_as drawn is =
      let found = leaf_from_ready d held drawn is in
      record { layout = found.0; is = found.1; ready = found.2; knows = known_as (leaf_kind found.0) found.1 }

  pub drawn_ready : (drawn : ReadyLeaf) → ready_kind d held ≡ kind.Drawn drawn → IsReady drawn
  drawn_ready drawn is =
      let found = drawn_as drawn is in
      subst IsReady (sym found.ready) (leaf_is_ready d found.layout found.knows.limits)

  pub day-drawn : (drawn : ReadyLeaf) → ready_kind d held ≡ kind.Drawn drawn → (draw : Draws) → draw ≡ draws → (day : Option ℤ) → day ≡ ready_leaf_day drawn draw → IsDayAt line column day
  day-drawn drawn is draw draw_is day day_is =
      let found = drawn_as drawn is in
      let shown : day ≡ leaf_day found.layout draws =
      day_is ∙ ap (ready_leaf_day drawn) draw_is ∙ ap (λ (leaf : ReadyLeaf). ready_leaf_day leaf draws) found.ready ∙ leaf_day-ready d found.layout draws in (
        (λ n past. shown ∙ ap (line_day_by (line_day_in n here) here column) (sym found.is)),
        subst (λ (o : Option ℤ). IfSome o (IsDayOf told.days)) (sym shown) (leaf_day-within found.layout draws told.days found.knows.days found.knows.limits),
      )

  pub number-drawn : (drawn : ReadyLeaf) → ready_kind d held ≡ kind.Drawn drawn → (draw : Draws) → draw ≡ draws → (number : Option Number) → number ≡ ready_leaf_number drawn draw → IsNumberAt line column number
  number-drawn drawn is draw draw_is number number_is =
      let found = drawn_as drawn is in
      let shown : number ≡ leaf_number found.layout draws =
      number_is ∙ ap (ready_leaf_number drawn) draw_is ∙ ap (λ (leaf : ReadyLeaf). ready_leaf_number leaf draws) found.ready ∙ leaf_number-ready d found.layout draws in (
        (λ n past. shown ∙ ap (line_number_by (line_number_in n here) here column) (sym found.is)),
        subst (λ (o : Option Number). IfSome o (IsNumberOf told.numbers)) (sym shown) (leaf_number-within found.layout draws told.numbers found.knows.numbers found.knows.limits),
      )

  -- what is written for one, and for its day and its number
  pub text-drawn : (drawn : ReadyLeaf) → ready_kind d held ≡ kind.Drawn drawn → ready_text drawn draws ≡ value_text line column
  text-drawn drawn is =
      let found = drawn_as drawn is in
      ap (λ (leaf : ReadyLeaf). ready_text leaf draws) found.ready
      ∙ sym (drawn-written d found.layout draws found.knows.limits)
      ∙ ap (λ (of : KindLayout). field_text d (line_value here column of)) (sym found.is)

  pub day-of_drawn : (drawn : ReadyLeaf) → ready_kind d held ≡ kind.Drawn drawn → (day : Option ℤ) → IsDayAt line column day → day ≡ ready_leaf_day drawn draws
  day-of_drawn drawn is day shown =
      let found = drawn_as drawn is in
      shown.0 column (omega arith)
      ∙ ap (line_day_by (line_day_in column here) here column) found.is
      ∙ sym (leaf_day-ready d found.layout draws)
      ∙ ap (λ (leaf : ReadyLeaf). ready_leaf_day leaf draws) (sym found.ready)

  pub number-of_drawn : (drawn : ReadyLeaf) → ready_kind d held ≡ kind.Drawn drawn → (number : Option Number) → IsNumberAt line column number → number ≡ ready_leaf_number drawn draws
  number-of_drawn drawn is number shown =
      let found = drawn_as drawn is in
      shown.0 column (omega arith)
      ∙ ap (line_number_by (line_number_in column here) here column) found.is
      ∙ sym (leaf_number-ready d found.layout draws)
      ∙ ap (λ (leaf : ReadyLeaf). ready_leaf_number leaf draws) (sym found.ready)

  pub size-drawn : (drawn : ReadyLeaf) → ready_kind d held ≡ kind.Drawn drawn → ready_size drawn ≤ size_over line.over column
  size-drawn drawn is =
      let found = drawn_as drawn is in
      omega (
        arith,
        ap ready_size found.ready,
        leaf_size-ready d found.layout found.knows.limits,
        ap (size_of d (table_layouts line.over.kept.lists plan.schema.tables) here.detail.columns) found.is,
      )

  -- ---- columns of the parent

  pub record IsShownAs (lookup : ReadyLookup) : Type 0 where
    pub is : held ≡ lookup_kind lookup.via lookup.parent lookup.column
    pub knows : IsKnownShown plan detail told lookup.parent lookup.column

  pub shown_as : (lookup : ReadyLookup) → ready_kind d held ≡ kind.Lookup lookup → IsShownAs lookup
  shown_as lookup is =
      let found = lookup_from_ready d held lookup is in
      record { is = found; knows = known_as (lookup_kind lookup.via lookup.parent lookup.column) found }

  pub day-shown : (lookup : ReadyLookup) → ready_kind d held ≡ kind.Lookup lookup → (day : Option ℤ) → day ≡ day_held plan place line.unit line.ordinal lookup.column →
      IfSome day (IsDayOf (field_facts (layout_of plan) place lookup.column).days) → IsDayAt line column day
  day-shown lookup is day day_is inside =
      let found = shown_as lookup is in (
        (λ n past.
            day_is
            ∙ ap (λ (parent : ℕ). line_day_by (line_day_in n here) here column (lookup_kind lookup.via parent lookup.column)) (sym found.knows.parent_is)
            ∙ ap (line_day_by (line_day_in n here) here column) (sym found.is)),
        subst (λ (days : Option Days). IfSome day (IsDayOf days)) (sym found.knows.days) inside,
      )

  pub number-shown : (lookup : ReadyLookup) → ready_kind d held ≡ kind.Lookup lookup → (number : Option Number) → number ≡ number_held plan place line.unit line.ordinal lookup.column →
      IfSome number (IsNumberOf (field_facts (layout_of plan) place lookup.column).numbers) → IsNumberAt line column number
  number-shown lookup is number number_is inside =
      let found = shown_as lookup is in (
        (λ n past.
            number_is
            ∙ ap (λ (parent : ℕ). line_number_by (line_number_in n here) here column (lookup_kind lookup.via parent lookup.column)) (sym found.knows.parent_is)
            ∙ ap (line_number_by (line_number_in n here) here column) (sym found.is)),
        subst (λ (of : Option Numbers). IfSome number (IsNumberOf of)) (sym found.knows.numbers) inside,
      )

  pub text-shown : (lookup : ReadyLookup) → ready_kind d held ≡ kind.Lookup lookup → text_held plan place line.unit line.ordinal lookup.column ≡ value_text line column
  text-shown lookup is =
      let found = shown_as lookup is in
      ap (λ (parent : ℕ). field_text d (line_value here column (lookup_kind lookup.via parent lookup.column))) (sym found.knows.parent_is)
      ∙ ap (λ (of : KindLayout). field_text d (line_value here column of)) (sym found.is)

  pub size-shown : IsPlanInLimits plan → place < length plan.schema.tables → (lookup : ReadyLookup) → ready_kind d held ≡ kind.Lookup lookup →
      size_at d (table_of plan place).columns lookup.column ≡ size_over line.over column
  size-shown sound below lookup is =
      let found = shown_as lookup is in
      let layouts = table_layouts line.over.kept.lists plan.schema.tables in
      let same : (table_at layouts place).columns ≡ (table_of plan place).columns =
      subst (λ lists. (table_at (table_layouts lists plan.schema.tables) place).columns ≡ (table_of plan place).columns) (sym keeps.lists)
      (table_first (last_unit plan) plan.dictionaries keeps.others plan.schema.tables place below (sound.tables place no_table (place-below plan place below))) in
      ap (λ (columns : List ColumnLayout). size_at d columns lookup.column) (sym same)
      ∙ ap (λ (parent : ℕ). size_at d (table_at layouts parent).columns lookup.column) (sym found.knows.parent_is)
      ∙ ap (size_of d layouts here.detail.columns) (sym found.is)

  -- ---- dates after dates

  pub after_as : (after : ReadyAfter) → ready_kind d held ≡ kind.After after → IsAfterAt line column after
  after_as after is =
      let found = after_from_ready d held after is in
      let knows = known_as (after_kind after.of after.lo after.hi) found.0 in
      record { kind = found.0; earlier = knows.earlier; range = knows.range; choices_are = found.1 }

  -- the day that comes of an earlier one
  pub record IsLater (earlier by : ℤ) : Type 0 where
    pub shown : IsDayAt line column (Some (earlier +ℤ by))
    pub calendar : IsBetweenCalendar (earlier +ℤ by)

  pub day-from : (after : ReadyAfter) → IsAfterAt line column after → (earlier by : ℤ) → ((n : ℕ) → after.of < n → Some earlier ≡ line_day_in n here after.of) → IsDayOf (facts_among facts after.of).days earlier →
      by ≡ chosen after.lo after.hi 1 (draws 1) → IsBetween after.lo after.hi by → IsLater earlier by
  day-from after is earlier by found before by_is between =
      let knows = known_as (after_kind after.of after.lo after.hi) is.kind in
      let made = after-within (facts_among facts after.of).days told.days after.lo after.hi earlier by knows.days knows.dated before between in
      record {
        shown = (
          (λ n past.
              ap (λ (b : ℤ). Some (earlier +ℤ b)) by_is
              ∙ ap (option_map (λ (e : ℤ). e +ℤ chosen after.lo after.hi 1 (draws 1))) (found n (omega (arith, past, is.earlier)))
              ∙ ap (line_day_by (line_day_in n here) here column) (sym is.kind)),
          made.0,
        );
        calendar = made.1;
      }

  pub day-later : (shown : Shown) → AreShown line column shown → (after : ReadyAfter) → IsAfterAt line column after → (earlier by : ℤ) → get_or shown.days after.of None ≡ Some earlier →
      by ≡ chosen after.lo after.hi 1 (draws 1) → IsBetween after.lo after.hi by → IsLater earlier by
  day-later shown are after is earlier by found by_is between =
      day-from after is earlier by (λ n past. sym found ∙ are.each_day after.of n is.earlier past)
      (subst (λ (o : Option ℤ). IfSome o (IsDayOf (facts_among facts after.of).days)) found (are.days_within after.of is.earlier)) by_is between

  -- it is in the calendar
  pub after-calendar : (after : ReadyAfter) → ready_kind d held ≡ kind.After after → (day : Option ℤ) → IsDayAt line column day → IfSome day IsInCalendar
  after-calendar after is None shown = tt
  after-calendar after is (Some day) shown =
      let found = after_from_ready d held after is in
      let knows = known_as (after_kind after.of after.lo after.hi) found.0 in
      let inside = in_calendar (facts_among facts after.of).days told.days after.lo after.hi day knows.days shown.1 in
      record { first_day = omega (arith, ints, inside.from); last_day = omega (arith, ints, inside.to) }

  -- ---- neither

  -- what no date is shows no day, and what no number is holds none
  pub no_day : ((drawn : ReadyLeaf) → ready_kind d held ≡ kind.Drawn drawn → ⊥) → ((lookup : ReadyLookup) → ready_kind d held ≡ kind.Lookup lookup → ⊥) → ((after : ReadyAfter) → ready_kind d held ≡ kind.After after → ⊥) → IsDayAt line column None
  no_day no_drawn no_lookup no_after = ((λ n past. of_kind n held (known plan line.over.kept keeps limits column within) no_drawn no_lookup no_after), tt)
    where
      of_kind : (n : ℕ) (of : KindLayout) → IsKnown plan detail facts column of → ((drawn : ReadyLeaf) → ready_kind d of ≡ kind.Drawn drawn → ⊥) → ((lookup : ReadyLookup) → ready_kind d of ≡ kind.Lookup lookup → ⊥) → ((after : ReadyAfter) → ready_kind d of ≡ kind.After after → ⊥) →
          None ≡ line_day_by (line_day_in n here) here column of
      of_kind n (leaf_kind leaf) knows no_drawn no_lookup no_after = absurd (no_drawn _ refl)
      of_kind n (lookup_kind via parent name) knows no_drawn no_lookup no_after = absurd (no_lookup _ refl)
      of_kind n (after_kind of lo hi) knows no_drawn no_lookup no_after = absurd (no_after _ refl)
      of_kind n (sum_kind of) knows no_drawn no_lookup no_after = refl
      of_kind n (product_kind of) knows no_drawn no_lookup no_after = refl
      of_kind n _ knows no_drawn no_lookup no_after = absurd knows

  pub no_number : ((drawn : ReadyLeaf) → ready_kind d held ≡ kind.Drawn drawn → ⊥) → ((lookup : ReadyLookup) → ready_kind d held ≡ kind.Lookup lookup → ⊥) → ((of : List ℕ) → ready_kind d held ≡ kind.Sum of → ⊥) → ((of : List ℕ) → ready_kind d held ≡ kind.Product of → ⊥) →
      IsNumberAt line column None
  no_number no_drawn no_lookup no_sum no_product = ((λ n past. of_kind n held (known plan line.over.kept keeps limits column within) no_drawn no_lookup no_sum no_product), tt)
    where
      of_kind : (n : ℕ) (of : KindLayout) → IsKnown plan detail facts column of → ((drawn : ReadyLeaf) → ready_kind d of ≡ kind.Drawn drawn → ⊥) → ((lookup : ReadyLookup) → ready_kind d of ≡ kind.Lookup lookup → ⊥) → ((places : List ℕ) → ready_kind d of ≡ kind.Sum places → ⊥) → ((places : List ℕ) → ready_kind d of ≡ kind.Product places → ⊥) →
          None ≡ line_number_by (line_number_in n here) here column of
      of_kind n (leaf_kind leaf) knows no_drawn no_lookup no_sum no_product = absurd (no_drawn _ refl)
      of_kind n (lookup_kind via parent name) knows no_drawn no_lookup no_sum no_product = absurd (no_lookup _ refl)
      of_kind n (after_kind of lo hi) knows no_drawn no_lookup no_sum no_product = refl
      of_kind n (sum_kind of) knows no_drawn no_lookup no_sum no_product = absurd (no_sum _ refl)
      of_kind n (product_kind of) knows no_drawn no_lookup no_sum no_product = absurd (no_product _ refl)
      of_kind n _ knows no_drawn no_lookup no_sum no_product = absurd knows

  -- ---- totals

  places : (of : List ℕ) → All (λ operand. operand < column) of → (i : ℕ) → i < length of → get_or of i 0 < column
  places of earlier i inside = earlier i 0 inside

  pub sum_as : (of : List ℕ) → ready_kind d held ≡ kind.Sum of → IsLineTotal line column of join.Sum
  sum_as of is =
      let knows = known_as (sum_kind of) (sum_from_ready d held of is) in
      let found = some_of told.numbers knows.numeric in
      let all : numbers.sum_of (facts_for facts of) ≡ Some found.0 = sym knows.told ∙ found.1 in
      record {
        earlier = places of knows.earlier;
        numbers = found.0;
        joined = sum_of-joined (facts_for facts of) found.0 all;
        few = sum-few (facts_for facts of) found.0 all;
        facts_are = found.1;
      }

  pub product_as : (of : List ℕ) → ready_kind d held ≡ kind.Product of → IsLineTotal line column of join.Product
  product_as of is =
      let knows = known_as (product_kind of) (product_from_ready d held of is) in
      let found = some_of told.numbers knows.numeric in
      let all : numbers.product_of (facts_for facts of) ≡ Some found.0 = sym knows.told ∙ found.1 in
      record {
        earlier = places of knows.earlier;
        numbers = found.0;
        joined = all;
        few = fold-few join.Product (facts_for facts of) (numbers.start_from 0 (pos 1)) found.0 (omega arith) all;
        facts_are = found.1;
      }

  pub number-sum : (of : List ℕ) → ready_kind d held ≡ kind.Sum of → (number : Option Number) →
      ((n : ℕ) → column ≤ n → number ≡ fold (with_operand (join_of join.Sum)) (Some (start_of join.Sum (digits_for facts of))) (operands_of line n of)) →
      (is_some number ≡ true → (n : ℕ) → column ≤ n → greatest_by decimals_of (operands_of line n of) ≡ digits_for facts of) →
      IfSome number (IsNumberOf told.numbers) → IsNumberAt line column number
  number-sum of is number joined digits inside = (
    (λ n past.
        sum-is (operands_of line n of) (digits_for facts of) number (joined n past) (λ some. digits some n past)
        ∙ ap (line_number_by (line_number_in n here) here column) (sym (sum_from_ready d held of is))),
    inside,
  )

  pub number-product : (of : List ℕ) → ready_kind d held ≡ kind.Product of → (number : Option Number) →
      ((n : ℕ) → column ≤ n → number ≡ fold (with_operand (join_of join.Product)) (Some (start_of join.Product (digits_for facts of))) (operands_of line n of)) →
      IfSome number (IsNumberOf told.numbers) → IsNumberAt line column number
  number-product of is number joined inside = (
    (λ n past. joined n past ∙ ap (line_number_by (line_number_in n here) here column) (sym (product_from_ready d held of is))),
    inside,
  )

  -- ---- operands, one by one

  -- what facts tell of the numbers of a column, and the number that the line holds there, looked for through so many columns
  abbrev pub known_numbers : ℕ → Option Numbers
  known_numbers operand = (facts_among facts operand).numbers

  abbrev pub held_numbers : ℕ → ℕ → Option Number
  held_numbers n operand = line_number_in n here operand

  -- from what they are joined
  pub start_is : (of : List ℕ) (way : Join) → IsLineTotal line column of way → (digits : ℕ) → IfSome told.numbers (λ (found : Numbers). digits ≡ found.decimals) → start_of way digits ≡ start_of way (digits_for facts of)
  start_is of join.Sum is digits digits_are =
      ap (start_of join.Sum)
      (subst (λ (found : Option Numbers). IfSome found (λ (one : Numbers). digits ≡ one.decimals)) is.facts_are digits_are
      ∙ added-digits (facts_for facts of) (numbers.start_from (digits_for facts of) (pos 0)) is.numbers is.joined)
  start_is of join.Product is digits digits_are = refl

  pub next_operand : (shown : Shown) → AreShown line column shown → (of : List ℕ) (way : Join) → IsLineTotal line column of way → (i : ℕ) (total operand : Number) → i < length of →
      AreJoined known_numbers held_numbers column of way i total → get_or shown.numbers (get_or of i 0) None ≡ Some operand → IsNextJoined known_numbers held_numbers column of way i total operand
  next_operand shown are of way is i total operand within so_far found =
      joined-more known_numbers held_numbers column of way is.numbers i total operand is.joined within so_far
      (λ n past. sym found ∙ are.each_number (get_or of i 0) n (is.earlier i within) (omega (arith, past, is.earlier i within)))
      (subst (λ (o : Option Number). IfSome o (IsNumberOf (known_numbers (get_or of i 0)))) found (are.numbers_within (get_or of i 0) (is.earlier i within)))

  pub lost_operand : (shown : Shown) → AreShown line column shown → (of : List ℕ) (way : Join) → IsLineTotal line column of way → (i : ℕ) → i < length of → get_or shown.numbers (get_or of i 0) None ≡ None → (n : ℕ) → column ≤ n →
      None ≡ fold (with_operand (join_of way)) (Some (start_of way (digits_for facts of))) (operands_of line n of)
  lost_operand shown are of way is i within lost n past =
      joined-lost held_numbers n of way i (Some (start_of way (digits_for facts of))) within
      (sym lost ∙ are.each_number (get_or of i 0) n (is.earlier i within) (omega (arith, past, is.earlier i within)))

  -- ---- what is written by a day and by a number

  pub text-after : (after : ReadyAfter) → ready_kind d held ≡ kind.After after → (day : Option ℤ) → IsDayAt line column day → day_text day ≡ value_text line column
  text-after after is day shown =
      let found = after_from_ready d held after is in
      written day
      ∙ ap (λ (o : Option ℤ). field_text d (option_map date_text o)) (shown.0 column (omega arith) ∙ ap (line_day_by (line_day_in column here) here column) found.0)
      ∙ ap (λ (of : KindLayout). field_text d (line_value here column of)) (sym found.0)
    where
      written : (o : Option ℤ) → day_text o ≡ field_text d (option_map date_text o)
      written None = refl
      written (Some day) = sym (date-written d day)

  number_written : (o : Option Number) → total_text o ≡ field_text d (option_map number_text o)
  number_written None = refl
  number_written (Some number) = sym (total-written d number)

  pub text-total : ((drawn : ReadyLeaf) → ready_kind d held ≡ kind.Drawn drawn → ⊥) → ((lookup : ReadyLookup) → ready_kind d held ≡ kind.Lookup lookup → ⊥) → ((after : ReadyAfter) → ready_kind d held ≡ kind.After after → ⊥) → (number : Option Number) → IsNumberAt line column number →
      total_text number ≡ value_text line column
  text-total no_drawn no_lookup no_after number shown =
      number_written number ∙ ap (λ (o : Option Number). field_text d (option_map number_text o)) (shown.0 column (omega arith)) ∙ of_kind held (known plan line.over.kept keeps limits column within) no_drawn no_lookup no_after
    where
      of_kind : (of : KindLayout) → IsKnown plan detail facts column of → ((drawn : ReadyLeaf) → ready_kind d of ≡ kind.Drawn drawn → ⊥) → ((lookup : ReadyLookup) → ready_kind d of ≡ kind.Lookup lookup → ⊥) → ((after : ReadyAfter) → ready_kind d of ≡ kind.After after → ⊥) →
          field_text d (option_map number_text (line_number_by (line_number_in column here) here column of)) ≡ field_text d (line_value here column of)
      of_kind (leaf_kind leaf) knows no_drawn no_lookup no_after = absurd (no_drawn _ refl)
      of_kind (lookup_kind via parent name) knows no_drawn no_lookup no_after = absurd (no_lookup _ refl)
      of_kind (after_kind of lo hi) knows no_drawn no_lookup no_after = absurd (no_after _ refl)
      of_kind (sum_kind of) knows no_drawn no_lookup no_after = refl
      of_kind (product_kind of) knows no_drawn no_lookup no_after = refl
      of_kind _ knows no_drawn no_lookup no_after = absurd knows

  pub size-total : ((drawn : ReadyLeaf) → ready_kind d held ≡ kind.Drawn drawn → ⊥) → ((lookup : ReadyLookup) → ready_kind d held ≡ kind.Lookup lookup → ⊥) → ((after : ReadyAfter) → ready_kind d held ≡ kind.After after → ⊥) → size_over line.over column ≡ 21
  size-total no_drawn no_lookup no_after = of_kind held (known plan line.over.kept keeps limits column within) no_drawn no_lookup no_after
    where
      of_kind : (of : KindLayout) → IsKnown plan detail facts column of → ((drawn : ReadyLeaf) → ready_kind d of ≡ kind.Drawn drawn → ⊥) → ((lookup : ReadyLookup) → ready_kind d of ≡ kind.Lookup lookup → ⊥) → ((after : ReadyAfter) → ready_kind d of ≡ kind.After after → ⊥) →
          size_of d (table_layouts line.over.kept.lists plan.schema.tables) here.detail.columns of ≡ 21
      of_kind (leaf_kind leaf) knows no_drawn no_lookup no_after = absurd (no_drawn _ refl)
      of_kind (lookup_kind via parent name) knows no_drawn no_lookup no_after = absurd (no_lookup _ refl)
      of_kind (after_kind of lo hi) knows no_drawn no_lookup no_after = absurd (no_after _ refl)
      of_kind (sum_kind of) knows no_drawn no_lookup no_after = refl
      of_kind (product_kind of) knows no_drawn no_lookup no_after = refl
      of_kind _ knows no_drawn no_lookup no_after = absurd knows

  -- a total has at most 9 digits after the point
  pub total-few : ((drawn : ReadyLeaf) → ready_kind d held ≡ kind.Drawn drawn → ⊥) → ((lookup : ReadyLookup) → ready_kind d held ≡ kind.Lookup lookup → ⊥) → ((after : ReadyAfter) → ready_kind d held ≡ kind.After after → ⊥) → (number : Option Number) → IsNumberAt line column number →
      IfSome number (λ (one : Number). one.decimals ≤ 9)
  total-few no_drawn no_lookup no_after None shown = tt
  total-few no_drawn no_lookup no_after (Some number) shown = of_kind held refl (known plan line.over.kept keeps limits column within)
    where
      few : (of : List ℕ) (way : Join) → IsLineTotal line column of way → number.decimals ≤ 9
      few of way is =
          let inside : IsNumberOf (Some is.numbers) number = subst (λ (found : Option Numbers). IsNumberOf found number) is.facts_are shown.1 in
          omega (arith, inside.0, is.few)

      of_kind : (of : KindLayout) → held ≡ of → IsKnown plan detail facts column of → number.decimals ≤ 9
      of_kind (leaf_kind leaf) is knows = absurd (no_drawn _ (ap (ready_kind d) is))
      of_kind (lookup_kind via parent name) is knows = absurd (no_lookup _ (ap (ready_kind d) is))
      of_kind (after_kind of lo hi) is knows = absurd (no_after _ (ap (ready_kind d) is))
      of_kind (sum_kind of) is knows = few of join.Sum (sum_as of (ap (ready_kind d) is))
      of_kind (product_kind of) is knows = few of join.Product (product_as of (ap (ready_kind d) is))
      of_kind _ is knows = absurd knows

  pub size-after : (after : ReadyAfter) → ready_kind d held ≡ kind.After after → size_over line.over column ≡ 10
  size-after after is = ap (size_of d (table_layouts line.over.kept.lists plan.schema.tables) here.detail.columns) (after_from_ready d held after is).0
