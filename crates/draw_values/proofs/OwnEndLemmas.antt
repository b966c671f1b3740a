-- Days and numbers that are drawn lie between the ends that the facts of their columns tell.
use Rattle.std.proofs.Common.{◌≡◌, ◌<◌, ◌≤◌, ◌≤ℤ◌, ◌+ℤ◌, ◌-ℤ◌, ℕ, ℤ, pos, negsuc, neg_ℤ, T, ◌+◌, ◌*◌, ◌/◌, ◌-◌, ◌%◌, ◌^◌, Bool, true, false, cond, List, [], ◌∷◌, All, length, int_le, Option, Some, None, refl, sym, ap, subst, ◌∙◌, arith}
use Rattle.std.specs.Prelude.{IfSome, sum}
use Rattle.std.proofs.lemmas.Int.{ints}
use Rattle.std.proofs.lemmas.List.{length-map}
use Rattle.std.proofs.lemmas.Nat.{mod_below}
use Rattle.std.proofs.Math.Nat.{mul-div-le, mul-le-mul_left}
use Rattle.weight_tables.specs.Harmonic.{harmonic_weights}
use Rattle.weight_tables.proofs.HarmonicLemmas.{All-harmonic_weights, length-harmonic_weights}
use Rattle.weight_tables.proofs.PrefixSumLemmas.{sum-cons}
use Rattle.schema_facts.specs.declared.column_facts.ColumnFacts.{ColumnFacts}
use Rattle.schema_facts.specs.declared.days.Days.{Days}
use Rattle.schema_facts.specs.declared.numbers.Numbers.{Numbers}
use Rattle.schema_facts.specs.Choices.{choices}
use Rattle.schema_facts.specs.ColumnFacts.{field_facts}
use Rattle.schema_facts.specs.Counts.{count}
use Rattle.schema_facts.specs.Days.{days_between, days_in, days_of_leaf, in_calendar}
use Rattle.schema_facts.specs.Ends.{IsBetween}
use Rattle.schema_facts.specs.Layout.{Layout, KindLayout, LeafLayout, born_kind, case_kind, changed_kind, chars_leaf, column_at, date_leaf, dict_leaf, fixed_leaf, int_leaf, key_kind, leaf_kind, list_kind, layout_of, lookup_kind, after_kind, pick_leaf, product_kind, reference_kind, skew_leaf, sum_kind, table_at, table_layout, template_kind, unit_date_kind, uuid_leaf, words_leaf}
use Rattle.schema_plan.specs.Limits.{IsDateRange, IsKindInLimits, IsLeafInLimits, IsTableInLimits, IsUnitDateInLimits}
use Rattle.schema_facts.specs.Numbers.{drawn_numbers, numbers_of_leaf}
use Rattle.schema_facts.proofs.FieldFactsLemmas.{IsColumnOf, field_facts-kind}
use Rattle.draw_values.proofs.GroupLemmas.{group_within}
use Rattle.draw_values.specs.declared.values.RowAt.{RowAt}
use Rattle.draw_values.specs.CohortValues.{IsDayOf, IsNumberOf, ValuesOf}
use Rattle.draw_values.specs.Values.{Draws, chosen, chosen_group, leaf_day, leaf_number, own_day, own_number}

-- a number that a draw chooses
pub chosen-between : (lo hi : ℤ) (step draw : ℕ) → lo ≤ℤ hi → IsBetween lo hi (chosen lo hi step draw)
chosen-between lo hi step draw ordered =
    let n : ℕ = count (hi -ℤ lo) in
    let at : ℕ = draw % choices lo hi step in
    let below : at < n / step + 1 = mod_below draw (n / step + 1) (omega arith) in
    let far : step * at ≤ n = omega (arith, mul-le-mul_left step (within_of at (n / step) below), mul-div-le n step) in
    let whole : pos n ≡ hi -ℤ lo = count_is (hi -ℤ lo) (omega (arith, ints, ordered)) in
    record { from = omega (arith, ints); to = omega (arith, ints, far, whole) }
  where
    within_of : (a b : ℕ) → a < b + 1 → a ≤ b
    within_of a b h = omega (arith, h)

    count_is : (z : ℤ) → pos 0 ≤ℤ z → pos (count z) ≡ z
    count_is (pos n) h = refl
    count_is (negsuc n) h = absurd h.le

true_of : (b : Bool) → T b → b ≡ true
true_of true h = refl
true_of false h = absurd h

le_is : {a b : ℤ} → a ≤ℤ b → int_le a b ≡ true
le_is {a} {b} h = true_of (int_le a b) h.le

-- the table at a place of a schema has a layout
pub table_here : (values : ValuesOf) → values.table < length values.plan.schema.tables → values.table < length (layout_of values.plan).tables
table_here values within = omega (arith, within, length-map values.plan.schema.tables (table_layout values.plan.dictionaries values.plan.schema.tables))

-- ---- days

-- the days of a range are there
days_between-range : (lo hi : ℤ) → IsDateRange lo hi → days_between lo hi ≡ Some (record { least = lo; greatest = hi })
days_between-range lo hi range =
    let low : in_calendar lo ≡ Some lo = rw (le_is range.first_day) rw (le_is (up_to lo hi range.ordered range.last_day)) refl in
    let high : in_calendar hi ≡ Some hi = rw (le_is (from_first lo hi range.first_day range.ordered)) rw (le_is range.last_day) refl in
    ap (λ (least : Option ℤ). days_in least (in_calendar hi)) low
    ∙ ap (days_in (Some lo)) high
    ∙ ap (λ (b : Bool). cond b (Some (record { least = lo; greatest = hi })) None) (le_is range.ordered)
  where
    up_to : (a b : ℤ) → a ≤ℤ b → b ≤ℤ pos 2932896 → a ≤ℤ pos 2932896
    up_to a b p q = omega (arith, ints, p, q)

    from_first : (a b : ℤ) → neg_ℤ (pos 719162) ≤ℤ a → a ≤ℤ b → neg_ℤ (pos 719162) ≤ℤ b
    from_first a b p q = omega (arith, ints, p, q)

-- of a drawn value
pub leaf_day-within : (leaf : LeafLayout) (draw : Draws) (days : Option Days) → days ≡ days_of_leaf leaf → IsLeafInLimits leaf → IfSome (leaf_day leaf draw) (IsDayOf days)
leaf_day-within (date_leaf lo hi) draw days is range =
    subst (λ (d : Option Days). IsDayOf d (chosen lo hi 1 (draw 1))) (sym (is ∙ days_between-range lo hi range)) (chosen-between lo hi 1 (draw 1) range.ordered)
leaf_day-within (int_leaf lo hi step) draw days is range = tt
leaf_day-within (fixed_leaf lo hi decimals) draw days is range = tt
leaf_day-within (pick_leaf entries weights) draw days is range = tt
leaf_day-within (skew_leaf lo size power) draw days is range = tt
leaf_day-within (dict_leaf words) draw days is range = tt
leaf_day-within (words_leaf words lo hi) draw days is range = tt
leaf_day-within (chars_leaf alphabet lo hi) draw days is range = tt
leaf_day-within uuid_leaf draw days is range = tt

-- of a unit
unit_day-within : (start : ℤ) (step units unit : ℕ) (days : Option Days) → days ≡ days_between start (start +ℤ pos (step * units)) → IsDateRange start (start +ℤ pos (step * units)) → unit ≤ units →
    IsDayOf days (start +ℤ pos (step * unit))
unit_day-within start step units unit days is range early =
    let fewer : step * unit ≤ step * units = mul-le-mul_left step early in
    subst (λ (d : Option Days). IsDayOf d (start +ℤ pos (step * unit))) (sym (is ∙ days_between-range start (start +ℤ pos (step * units)) range))
    (record { from = omega (arith, ints); to = omega (arith, ints, fewer) })

own_day-by : (layout : Layout) (table column : ℕ) (at : RowAt) (draw : Draws) (kind : KindLayout) → IsColumnOf layout table column kind → IsTableInLimits layout.units (table_at layout.tables table) →
    IsKindInLimits (table_at layout.tables table).columns column kind → IsUnitDateInLimits layout.units kind → at.born ≤ layout.units → at.changed ≤ layout.units →
    IfSome (own_day at draw kind) (IsDayOf (field_facts layout table column).days)
own_day-by layout table column at draw (leaf_kind leaf) is limits kind units born changed =
    leaf_day-within leaf draw (field_facts layout table column).days (ap (λ (facts : ColumnFacts). facts.days) (field_facts-kind layout table column (leaf_kind leaf) is)) kind
own_day-by layout table column at draw (unit_date_kind true start step) is limits kind units born changed =
    unit_day-within start step layout.units at.changed (field_facts layout table column).days (ap (λ (facts : ColumnFacts). facts.days) (field_facts-kind layout table column (unit_date_kind true start step) is)) units changed
own_day-by layout table column at draw (unit_date_kind false start step) is limits kind units born changed =
    unit_day-within start step layout.units at.born (field_facts layout table column).days (ap (λ (facts : ColumnFacts). facts.days) (field_facts-kind layout table column (unit_date_kind false start step) is)) units born
own_day-by layout table column at draw key_kind is limits kind units born changed = tt
own_day-by layout table column at draw born_kind is limits kind units born changed = tt
own_day-by layout table column at draw changed_kind is limits kind units born changed = tt
own_day-by layout table column at draw (template_kind parts) is limits kind units born changed = tt
own_day-by layout table column at draw (case_kind on branches) is limits kind units born changed = tt
own_day-by layout table column at draw (reference_kind parent window spread nulls drawn) is limits kind units born changed = tt
own_day-by layout table column at draw (lookup_kind via parent name) is limits kind units born changed = tt
own_day-by layout table column at draw (list_kind words) is limits kind units born changed = tt
own_day-by layout table column at draw (after_kind before lo hi) is limits kind units born changed = tt
own_day-by layout table column at draw (sum_kind operands) is limits kind units born changed = tt
own_day-by layout table column at draw (product_kind operands) is limits kind units born changed = tt

-- the column at a place of a table within its limits
column_of : (layout : Layout) (table column : ℕ) → table < length layout.tables → IsTableInLimits layout.units (table_at layout.tables table) → column < length (table_at layout.tables table).columns →
    IsColumnOf layout table column (column_at (table_at layout.tables table).columns column).kind
column_of layout table column below limits within = record { below = below; within = omega (arith, within, limits.column_limit); kind_is = refl }

pub own_day-within : (layout : Layout) (table column : ℕ) (at : RowAt) (draw : Draws) → table < length layout.tables → IsTableInLimits layout.units (table_at layout.tables table) → column < length (table_at layout.tables table).columns →
    at.born ≤ layout.units → at.changed ≤ layout.units → IfSome (own_day at draw (column_at (table_at layout.tables table).columns column).kind) (IsDayOf (field_facts layout table column).days)
own_day-within layout table column at draw below limits within born changed =
    own_day-by layout table column at draw (column_at (table_at layout.tables table).columns column).kind (column_of layout table column below limits within) limits
    (limits.kinds column within) (limits.unit_dates column within) born changed

-- ---- numbers

held : (numbers : Option Numbers) (decimals : ℕ) (least greatest n : ℤ) → numbers ≡ Some (drawn_numbers decimals least greatest) → IsBetween least greatest n → IsNumberOf numbers (record { value = n; decimals = decimals })
held numbers decimals least greatest n is between =
    subst (λ (found : Option Numbers). IsNumberOf found (record { value = n; decimals = decimals })) (sym is) (refl, between)

positive : (weights : List ℕ) → All (λ weight. 1 ≤ weight) weights → 1 ≤ length weights → 1 ≤ sum weights
positive [] each some = absurd (omega (arith, some))
positive (weight ∷ others) each some = omega (arith, sum-cons weight others, each 0 0 (omega arith))

pub leaf_number-within : (leaf : LeafLayout) (draw : Draws) (numbers : Option Numbers) → numbers ≡ numbers_of_leaf leaf → IsLeafInLimits leaf → IfSome (leaf_number leaf draw) (IsNumberOf numbers)
leaf_number-within (int_leaf lo hi step) draw numbers is range = held numbers 0 lo hi (chosen lo hi step (draw 1)) is (chosen-between lo hi step (draw 1) range.0.ordered)
leaf_number-within (fixed_leaf lo hi decimals) draw numbers is range = held numbers decimals lo hi (chosen lo hi 1 (draw 1)) is (chosen-between lo hi 1 (draw 1) range.0.ordered)
leaf_number-within (skew_leaf lo size power) draw numbers is skew =
    let group : ℕ = chosen_group (harmonic_weights size power) (draw 1) in
    let last : (lo +ℤ pos (size - 1)) ≤ℤ pos (2 ^ 63 - 1) = omega (arith, ints, skew.last_number) in
    let below : group < size = omega (
      arith,
      group_within (harmonic_weights size power) (draw 1) (positive (harmonic_weights size power) (All-harmonic_weights size power) (omega (arith, length-harmonic_weights size power, skew.some_number))),
      length-harmonic_weights size power,
    ) in
    held numbers 0 lo (lo +ℤ pos (size - 1)) (lo +ℤ pos group) (is ∙ ap (λ (b : Bool). cond b (Some (drawn_numbers 0 lo (lo +ℤ pos (size - 1)))) None) (le_is last))
    (record { from = omega (arith, ints); to = omega (arith, ints, below, skew.some_number) })
leaf_number-within (date_leaf lo hi) draw numbers is range = tt
leaf_number-within (pick_leaf entries weights) draw numbers is range = tt
leaf_number-within (dict_leaf words) draw numbers is range = tt
leaf_number-within (words_leaf words lo hi) draw numbers is range = tt
leaf_number-within (chars_leaf alphabet lo hi) draw numbers is range = tt
leaf_number-within uuid_leaf draw numbers is range = tt

own_number-by : (layout : Layout) (table column : ℕ) (draw : Draws) (kind : KindLayout) → IsColumnOf layout table column kind → IsKindInLimits (table_at layout.tables table).columns column kind →
    IfSome (own_number draw kind) (IsNumberOf (field_facts layout table column).numbers)
own_number-by layout table column draw (leaf_kind leaf) is kind =
    leaf_number-within leaf draw (field_facts layout table column).numbers (ap (λ (facts : ColumnFacts). facts.numbers) (field_facts-kind layout table column (leaf_kind leaf) is)) kind
own_number-by layout table column draw key_kind is kind = tt
own_number-by layout table column draw born_kind is kind = tt
own_number-by layout table column draw changed_kind is kind = tt
own_number-by layout table column draw (template_kind parts) is kind = tt
own_number-by layout table column draw (case_kind on branches) is kind = tt
own_number-by layout table column draw (reference_kind parent window spread nulls drawn) is kind = tt
own_number-by layout table column draw (lookup_kind via parent name) is kind = tt
own_number-by layout table column draw (list_kind words) is kind = tt
own_number-by layout table column draw (unit_date_kind changed start step) is kind = tt
own_number-by layout table column draw (after_kind before lo hi) is kind = tt
own_number-by layout table column draw (sum_kind operands) is kind = tt
own_number-by layout table column draw (product_kind operands) is kind = tt

pub own_number-within : (layout : Layout) (table column : ℕ) (draw : Draws) → table < length layout.tables → IsTableInLimits layout.units (table_at layout.tables table) → column < length (table_at layout.tables table).columns →
    IfSome (own_number draw (column_at (table_at layout.tables table).columns column).kind) (IsNumberOf (field_facts layout table column).numbers)
own_number-within layout table column draw below limits within =
    own_number-by layout table column draw (column_at (table_at layout.tables table).columns column).kind (column_of layout table column below limits within) (limits.kinds column within)
