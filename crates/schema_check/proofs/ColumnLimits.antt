-- Columns that pass the tests of the rules are within their limits.
use Rattle.std.proofs.Common.{◌≡◌, ◌∙◌, ℕ, ℤ, pos, neg_ℤ, ◌*◌, ◌+ℤ◌, ◌<◌, ◌≤◌, ◌&&◌, ◌||◌, not, zero, suc, ◌∷◌, All, Bool, true, false, List, [], length, map, get_or, nat_le, nat_lt, int_le, Option, Some, is_some, refl, sym, ap, subst, arith}
use Rattle.std.specs.List.{list_all}
use Rattle.std.specs.Ordering.{int_eq}
use Rattle.std.proofs.lemmas.Bool.{and_parts, eqb-true, leb-true, ltb-true}
use Rattle.std.proofs.lemmas.Bool.Decides.{Decides-int_eq}
use Rattle.std.proofs.lemmas.Int.{ints}
use Rattle.std.proofs.lemmas.List.{get_or-map, length-map}
use Rattle.schema_model.specs.declared.table.Table.{Table}
use Rattle.schema_model.specs.declared.column.Column.{Column}
use Rattle.schema_model.specs.declared.column.Kind.{Kind}
use Rattle.schema_model.specs.declared.column.Kind.TheVariants as kind
use Rattle.schema_model.specs.declared.column.Leaf.{Leaf}
use Rattle.schema_model.specs.declared.column.Leaf.TheVariants as drawn
use Rattle.schema_model.specs.declared.column.Part.{Part}
use Rattle.schema_model.specs.declared.column.Part.TheVariants as part
use Rattle.schema_facts.specs.declared.days.Days.{Days}
use Rattle.schema_facts.specs.declared.numbers.Numbers.{Numbers}
use Rattle.schema_plan.specs.Citations.{cited_names, leaves_of}
use Rattle.schema_facts.specs.Counts.{count}
use Rattle.schema_facts.specs.Dictionaries.{AreWordLists, Dictionary, Project}
use Rattle.schema_facts.specs.Layout.{ColumnLayout, column_at, column_layout, kind_layout, leaf_layout, no_column, part_layout, place_of_column}
use Rattle.schema_plan.specs.Limits.{AreFilledParts, AreParts, CitesStill, IsAfterRange, IsCase, IsDateRange, IsKindInLimits, IsUnitDateInLimits, IsFilledPart, IsLeafInLimits, IsPart, IsPickOf, IsStillPart, IsStillPlace, can_change, is_cited, is_moving_kind as is_moving_layout, is_whole_kind as is_whole_layout, is_whole_leaf as is_whole_leaf_layout, moves}
use Rattle.schema_facts.specs.References.{Reference, reference_of}
use Rattle.schema_plan.specs.Rules.{are_paddings, are_still_names, are_supplied, are_unit_days, is_after_range, is_later_date, is_total, joins, is_supplied_kind, is_unit_date, is_redrawn_at, cites_still, is_between, is_case, is_change, is_citable, is_date_range, is_key_in_range, is_length_range, is_moving_kind, is_null_share, is_number_range, is_padding, is_part, is_pick_of, is_skew_range, is_spread, is_still_kind, is_still_part, is_template, is_weighted, is_whole_kind, is_whole_leaf, kind_at, may_be_redrawn, moves_at, null_at}
use Rattle.schema_check.proofs.FromTests.{le_from_test, limit_from_test, passes_each}
use Rattle.schema_check.proofs.LeafLimits.{leaf_in_limits, leaves_in_limits, words_supplied}
use Rattle.schema_check.proofs.ReferenceLimits.{asked_units, spread_from_test}

-- ---- the layout of a column

a_column : Column
a_column = record { name = []; kind = kind.Born; changes = false; null = pos 0 }

-- the columns of a table as its layout has them
abbrev pub columns_layout : List Dictionary → List Table → List Column → List ColumnLayout
columns_layout dictionaries tables columns = map (column_layout dictionaries tables columns) columns

pub kind_at-layout : (dictionaries : List Dictionary) (tables : List Table) (columns : List Column) (j : ℕ) → j < length columns → (column_at (columns_layout dictionaries tables columns) j).kind ≡ kind_layout dictionaries tables columns (kind_at columns j)
kind_at-layout dictionaries tables columns j h =
    ap (λ (c : ColumnLayout). c.kind) (get_or-map (column_layout dictionaries tables columns) columns j a_column no_column h)
    ∙ ap (kind_layout dictionaries tables columns) (sym (get_or-map (λ (c : Column). c.kind) columns j a_column kind.Born h))

pub null_at-layout : (dictionaries : List Dictionary) (tables : List Table) (columns : List Column) (j : ℕ) → j < length columns → (column_at (columns_layout dictionaries tables columns) j).null ≡ count (null_at columns j)
null_at-layout dictionaries tables columns j h =
    ap (λ (c : ColumnLayout). c.null) (get_or-map (column_layout dictionaries tables columns) columns j a_column no_column h)
    ∙ ap count (sym (get_or-map (λ (c : Column). c.null) columns j a_column (pos 0) h))

-- ---- templates

is_cited-layout : (dictionaries : List Dictionary) (tables : List Table) (columns : List Column) (kind : Kind) → is_cited (kind_layout dictionaries tables columns kind) ≡ is_citable kind
is_cited-layout dictionaries tables columns (kind.Template parts) = refl
is_cited-layout dictionaries tables columns (kind.Case on branches) = refl
is_cited-layout dictionaries tables columns (kind.Lookup via column) = refl
is_cited-layout dictionaries tables columns _ = refl

cited_from_test : (dictionaries : List Dictionary) (tables : List Table) (columns : List Column) (place : ℕ) → place ≤ length columns → (name : List ℕ) →
    (nat_lt (place_of_column columns name) place && is_citable (kind_at columns (place_of_column columns name))) ≡ true →
    (place_of_column columns name < place) × (is_cited (column_at (columns_layout dictionaries tables columns) (place_of_column columns name)).kind ≡ true)
cited_from_test dictionaries tables columns place within name h =
    let cited = place_of_column columns name in
    let parts = and_parts (nat_lt cited place) (is_citable (kind_at columns cited)) h in
    let earlier : cited < place = ltb-true cited place parts.0 in
    (earlier, ap is_cited (kind_at-layout dictionaries tables columns cited (omega arith)) ∙ is_cited-layout dictionaries tables columns (kind_at columns cited) ∙ parts.1)

part_from_test : (dictionaries : List Dictionary) (tables : List Table) (columns : List Column) (place : ℕ) → place ≤ length columns → (of : Part) → is_part columns place of ≡ true → IsPart (columns_layout dictionaries tables columns) place (part_layout columns of)
part_from_test dictionaries tables columns place within (part.Literal text) h = tt
part_from_test dictionaries tables columns place within (part.Cited name) h = cited_from_test dictionaries tables columns place within name h
part_from_test dictionaries tables columns place within (part.Padded name width) h = cited_from_test dictionaries tables columns place within name h

template_from_test : (dictionaries : List Dictionary) (tables : List Table) (columns : List Column) (place : ℕ) → place ≤ length columns → (parts : List Part) → is_template columns place (kind.Template parts) ≡ true → AreParts (columns_layout dictionaries tables columns) place (map (part_layout columns) parts)
template_from_test dictionaries tables columns place within parts h =
    let v = and_parts (nat_le 1 (length parts) && nat_le (length parts) 32) (list_all (is_part columns place) parts) h in
    let w = and_parts (nat_le 1 (length parts)) (nat_le (length parts) 32) v.0 in
    let same : length (map (part_layout columns) parts) ≡ length parts = length-map parts (part_layout columns) in
    record {
      some_part = omega (arith, same, leb-true 1 (length parts) w.0);
      part_limit = omega (arith, same, leb-true (length parts) 32 w.1);
      each = λ i d lt.
          let at : i < length parts = omega (arith, lt, same) in
          subst (IsPart (columns_layout dictionaries tables columns) place) (sym (get_or-map (part_layout columns) parts i (part.Literal []) d at))
          (part_from_test dictionaries tables columns place within (get_or parts i (part.Literal [])) (passes_each (is_part columns place) parts i (part.Literal []) at v.1));
    }

-- ---- padded parts

is_whole_leaf-layout : (dictionaries : List Dictionary) (leaf : Leaf) → is_whole_leaf_layout (leaf_layout dictionaries leaf) ≡ is_whole_leaf leaf
is_whole_leaf-layout dictionaries (drawn.Int lo hi step) = refl
is_whole_leaf-layout dictionaries (drawn.Skew lo size power) = refl
is_whole_leaf-layout dictionaries _ = refl

is_whole_kind-layout : (dictionaries : List Dictionary) (tables : List Table) (columns : List Column) (kind : Kind) → is_whole_layout (kind_layout dictionaries tables columns kind) ≡ is_whole_kind kind
is_whole_kind-layout dictionaries tables columns (kind.Leaf leaf) = is_whole_leaf-layout dictionaries leaf
is_whole_kind-layout dictionaries tables columns _ = refl

filled_part : (dictionaries : List Dictionary) (tables : List Table) (columns : List Column) (place : ℕ) → place ≤ length columns → (of : Part) → is_part columns place of ≡ true → is_padding columns of ≡ true →
    IsFilledPart (columns_layout dictionaries tables columns) (part_layout columns of)
filled_part dictionaries tables columns place within (part.Literal text) is h = tt
filled_part dictionaries tables columns place within (part.Cited name) is h = λ some. absurd (omega arith)
filled_part dictionaries tables columns place within (part.Padded name width) is h = λ some.
    let cited = place_of_column columns name in
    let earlier = (cited_from_test dictionaries tables columns place within name is).0 in
    let parts = and_parts (is_between 1 64 width) (is_whole_kind (kind_at columns cited)) h in
    let ends = and_parts (int_le (pos 1) width) (int_le width (pos 64)) parts.0 in
    record {
      whole = ap is_whole_layout (kind_at-layout dictionaries tables columns cited (omega arith)) ∙ is_whole_kind-layout dictionaries tables columns (kind_at columns cited) ∙ parts.1;
      few = limit_from_test width 64 ends.1;
    }

-- the parts of a template, and those of any other kind
filled_parts : (dictionaries : List Dictionary) (tables : List Table) (columns : List Column) (place : ℕ) → place ≤ length columns → (kind : Kind) → is_template columns place kind ≡ true → are_paddings columns kind ≡ true →
    AreFilledParts (columns_layout dictionaries tables columns) (kind_layout dictionaries tables columns kind)
filled_parts dictionaries tables columns place within (kind.Template parts) are h = λ i d lt.
    let at : i < length parts = omega (arith, lt, length-map parts (part_layout columns)) in
    let each = (and_parts (nat_le 1 (length parts) && nat_le (length parts) 32) (list_all (is_part columns place) parts) are).1 in
    subst (IsFilledPart (columns_layout dictionaries tables columns)) (sym (get_or-map (part_layout columns) parts i (part.Literal []) d at))
    (filled_part dictionaries tables columns place within (get_or parts i (part.Literal [])) (passes_each (is_part columns place) parts i (part.Literal []) at each)
    (passes_each (is_padding columns) parts i (part.Literal []) at h))
filled_parts dictionaries tables columns place within _ are h = tt

pub filled_from_test : (dictionaries : List Dictionary) (tables : List Table) (columns : List Column) (place : ℕ) → place < length columns → is_template columns place (kind_at columns place) ≡ true →
    are_paddings columns (kind_at columns place) ≡ true → AreFilledParts (columns_layout dictionaries tables columns) (column_at (columns_layout dictionaries tables columns) place).kind
filled_from_test dictionaries tables columns place within are h =
    subst (AreFilledParts (columns_layout dictionaries tables columns)) (sym (kind_at-layout dictionaries tables columns place within))
    (filled_parts dictionaries tables columns place (omega arith) (kind_at columns place) are h)

-- ---- cases

pick_from_test : (dictionaries : List Dictionary) (tables : List Table) (columns : List Column) (n : ℕ) (kind : Kind) → is_pick_of n kind ≡ true → IsPickOf n (kind_layout dictionaries tables columns kind)
pick_from_test dictionaries tables columns n (kind.Leaf (drawn.Pick entries weights)) h = eqb-true (length entries) n h
pick_from_test dictionaries tables columns n _ h = cc

case_from_test : (dictionaries : List Dictionary) (tables : List Table) (columns : List Column) (place : ℕ) → place ≤ length columns → (on : List ℕ) (branches : List Leaf) → is_case columns place (kind.Case on branches) ≡ true → All IsLeafInLimits (map (leaf_layout dictionaries) branches) → IsCase (columns_layout dictionaries tables columns) place (place_of_column columns on) (map (leaf_layout dictionaries) branches)
case_from_test dictionaries tables columns place within on branches h each =
    let pick = place_of_column columns on in
    let parts = and_parts (nat_lt pick place) (is_pick_of (length branches) (kind_at columns pick)) h in
    let earlier : pick < place = ltb-true pick place parts.0 in
    let as_many = length-map branches (leaf_layout dictionaries) in
    let is_pick = pick_from_test dictionaries tables columns (length branches) (kind_at columns pick) parts.1 in
    record {
      earlier = earlier;
      pick = subst (λ n. IsPickOf n (column_at (columns_layout dictionaries tables columns) pick).kind) (sym as_many)
          (subst (IsPickOf (length branches)) (sym (kind_at-layout dictionaries tables columns pick (omega arith))) is_pick);
      each = each;
    }

-- ---- a column by its kind

pub after_range_from_test : (lo hi : ℤ) → is_after_range lo hi ≡ true → IsAfterRange lo hi
after_range_from_test lo hi h =
    let v = and_parts (int_le (neg_ℤ (pos 36525)) lo && int_le lo hi) (int_le hi (pos 36525)) h in
    let w = and_parts (int_le (neg_ℤ (pos 36525)) lo) (int_le lo hi) v.0 in
    record { least = le_from_test (neg_ℤ (pos 36525)) lo w.0; ordered = le_from_test lo hi w.1; most = le_from_test hi (pos 36525) v.1 }

pub kind_in_limits : (project : Project) → AreWordLists project.dictionaries → (tables : List Table) (columns : List Column) (place : ℕ) → place ≤ length columns → (kind : Kind) → is_supplied_kind project kind ≡ true → list_all is_number_range (leaves_of kind) ≡ true → list_all is_date_range (leaves_of kind) ≡ true → list_all is_weighted (leaves_of kind) ≡ true → list_all is_skew_range (leaves_of kind) ≡ true → list_all is_length_range (leaves_of kind) ≡ true → is_template columns place kind ≡ true → is_case columns place kind ≡ true → is_spread kind ≡ true → (days : Option Days) → is_later_date days columns place kind ≡ true → IsKindInLimits (columns_layout project.dictionaries tables columns) place (kind_layout project.dictionaries tables columns kind)
kind_in_limits project lists tables columns place within (kind.Leaf leaf) supplied numbers dates picks skews lengths parts case spread days later =
    leaf_in_limits (cited_names project.schema.tables) project.dictionaries lists leaf
    ((and_parts (are_supplied project leaf) true supplied).0)
    ((and_parts (is_number_range leaf) true numbers).0)
    ((and_parts (is_date_range leaf) true dates).0)
    ((and_parts (is_weighted leaf) true picks).0)
    ((and_parts (is_skew_range leaf) true skews).0)
    ((and_parts (is_length_range leaf) true lengths).0)
kind_in_limits project lists tables columns place within (kind.Template of) supplied numbers dates picks skews lengths parts case spread days later =
    template_from_test project.dictionaries tables columns place within of parts
kind_in_limits project lists tables columns place within (kind.Case on branches) supplied numbers dates picks skews lengths parts case spread days later =
    case_from_test project.dictionaries tables columns place within on branches case (leaves_in_limits (cited_names project.schema.tables) project.dictionaries lists branches supplied numbers dates picks skews lengths)
kind_in_limits project lists tables columns place within (kind.Ref table window weights on_delete deal) supplied numbers dates picks skews lengths parts case spread days later = spread_from_test weights spread
kind_in_limits project lists tables columns place within (kind.List file) supplied numbers dates picks skews lengths parts case spread days later = words_supplied (cited_names project.schema.tables) project.dictionaries lists file supplied
kind_in_limits project lists tables columns place within (kind.After of lo hi) supplied numbers dates picks skews lengths parts case spread days later =
    let v = and_parts (is_after_range lo hi && is_some days) (is_redrawn_at columns place || not (moves_at columns (place_of_column columns of))) later in
    after_range_from_test lo hi (and_parts (is_after_range lo hi) (is_some days) v.0).0
kind_in_limits project lists tables columns place within _ supplied numbers dates picks skews lengths parts case spread days later = tt

-- ---- the dates of units

days_from_test : (units start step : ℤ) → count units ≤ 10000 → are_unit_days units start step ≡ true → IsDateRange start (start +ℤ pos (count step * count units))
days_from_test units start step few h =
    let last = int_le (start +ℤ pos (count step * count units)) (pos 2932896) in
    let v = and_parts (int_le (neg_ℤ (pos 719162)) start && is_between 0 3660 step) (nat_lt 10000 (count units) || last) h in
    let w = and_parts (int_le (neg_ℤ (pos 719162)) start) (is_between 0 3660 step) v.0 in
    record {
      first_day = le_from_test (neg_ℤ (pos 719162)) start w.0;
      ordered = omega (arith, ints);
      last_day = le_from_test (start +ℤ pos (count step * count units)) (pos 2932896) (asked_units (count units) last few v.1);
    }

pub unit_date_from_test : (dictionaries : List Dictionary) (tables : List Table) (columns : List Column) (units : ℤ) → count units ≤ 10000 → (kind : Kind) → is_unit_date units kind ≡ true →
    IsUnitDateInLimits (count units) (kind_layout dictionaries tables columns kind)
unit_date_from_test dictionaries tables columns units few (kind.BornDate start step) h = days_from_test units start step few h
unit_date_from_test dictionaries tables columns units few (kind.ChangedDate start step) h = days_from_test units start step few h
unit_date_from_test dictionaries tables columns units few _ h = tt

-- ---- columns that change

pub is_redrawn_at-layout : (dictionaries : List Dictionary) (tables : List Table) (columns : List Column) (j : ℕ) → j < length columns → (column_at (columns_layout dictionaries tables columns) j).changes ≡ is_redrawn_at columns j
is_redrawn_at-layout dictionaries tables columns j h =
    ap (λ (c : ColumnLayout). c.changes) (get_or-map (column_layout dictionaries tables columns) columns j a_column no_column h)
    ∙ sym (get_or-map (λ (c : Column). c.changes) columns j a_column false h)

can_change-layout : (dictionaries : List Dictionary) (tables : List Table) (columns : List Column) (kind : Kind) → can_change (kind_layout dictionaries tables columns kind) ≡ may_be_redrawn kind
can_change-layout dictionaries tables columns (kind.Leaf leaf) = refl
can_change-layout dictionaries tables columns (kind.Template parts) = refl
can_change-layout dictionaries tables columns (kind.Case on branches) = refl
can_change-layout dictionaries tables columns (kind.After of lo hi) = refl
can_change-layout dictionaries tables columns (kind.Sum of) = refl
can_change-layout dictionaries tables columns (kind.Product of) = refl
can_change-layout dictionaries tables columns _ = refl

is_moving_kind-layout : (dictionaries : List Dictionary) (tables : List Table) (columns : List Column) (kind : Kind) → is_moving_layout (kind_layout dictionaries tables columns kind) ≡ is_moving_kind kind
is_moving_kind-layout dictionaries tables columns kind.Changed = refl
is_moving_kind-layout dictionaries tables columns (kind.ChangedDate start step) = refl
is_moving_kind-layout dictionaries tables columns (kind.Ref table window spread on_delete deal) = refl
is_moving_kind-layout dictionaries tables columns _ = refl

-- a column that changes is of a kind that may
unchanged_from_test : (changes may : Bool) → (not changes || may) ≡ true → may ≡ false → changes ≡ false
unchanged_from_test true may h none = cc
unchanged_from_test false may h none = refl

pub unchanged : (dictionaries : List Dictionary) (tables : List Table) (columns : List Column) (place : ℕ) → place < length columns → is_change (kind_at columns place) (is_redrawn_at columns place) ≡ true →
    can_change (column_at (columns_layout dictionaries tables columns) place).kind ≡ false → (column_at (columns_layout dictionaries tables columns) place).changes ≡ false
unchanged dictionaries tables columns place within h none =
    is_redrawn_at-layout dictionaries tables columns place within
    ∙ unchanged_from_test (is_redrawn_at columns place) (may_be_redrawn (kind_at columns place)) h
    (sym (ap can_change (kind_at-layout dictionaries tables columns place within) ∙ can_change-layout dictionaries tables columns (kind_at columns place)) ∙ none)

-- past the last column none moves
moves_in : (dictionaries : List Dictionary) (tables : List Table) (all columns : List Column) (j : ℕ) → moves (column_at (map (column_layout dictionaries tables all) columns) j) ≡ moves_at columns j
moves_in dictionaries tables all [] j = refl
moves_in dictionaries tables all (column ∷ columns) zero = ap (λ moving. column.changes || moving) (is_moving_kind-layout dictionaries tables all column.kind)
moves_in dictionaries tables all (column ∷ columns) (suc j) = moves_in dictionaries tables all columns j

pub still_from_test : (dictionaries : List Dictionary) (tables : List Table) (columns : List Column) (j : ℕ) → not (moves_at columns j) ≡ true → moves (column_at (columns_layout dictionaries tables columns) j) ≡ false
still_from_test dictionaries tables columns j h = moves_in dictionaries tables columns columns j ∙ of_test (moves_at columns j) h
  where
    of_test : (test : Bool) → not test ≡ true → test ≡ false
    of_test true h = cc
    of_test false h = refl

still_part : (dictionaries : List Dictionary) (tables : List Table) (columns : List Column) (of : Part) → is_still_part columns of ≡ true → IsStillPart (columns_layout dictionaries tables columns) (part_layout columns of)
still_part dictionaries tables columns (part.Literal text) h = tt
still_part dictionaries tables columns (part.Cited name) h = still_from_test dictionaries tables columns (place_of_column columns name) h
still_part dictionaries tables columns (part.Padded name width) h = still_from_test dictionaries tables columns (place_of_column columns name) h

still_unless : (changes still : Bool) → changes ≡ false → (changes || still) ≡ true → still ≡ true
still_unless true still none h = cc
still_unless false still none h = h

-- the operands of a column that doesn't change
still_names : (dictionaries : List Dictionary) (tables : List Table) (columns : List Column) (place : ℕ) (numbers : Option Numbers) (of : List (List ℕ)) → is_redrawn_at columns place ≡ false → joins numbers columns place of ≡ true →
    All (IsStillPlace (columns_layout dictionaries tables columns)) (map (place_of_column columns) of)
still_names dictionaries tables columns place numbers of unchanged h = λ i d lt.
    let at : i < length of = omega (arith, lt, length-map of (place_of_column columns)) in
    let each = still_unless (is_redrawn_at columns place) (are_still_names columns of) unchanged (and_parts (is_some numbers) (is_redrawn_at columns place || are_still_names columns of) h).1 in
    subst (IsStillPlace (columns_layout dictionaries tables columns)) (sym (get_or-map (place_of_column columns) of i [] d at))
    (still_from_test dictionaries tables columns (place_of_column columns (get_or of i [])) (passes_each (λ name. not (moves_at columns (place_of_column columns name))) of i [] at each))

-- of a column that doesn't change, by what rules ask of its kind
still_kind : (dictionaries : List Dictionary) (tables : List Table) (columns : List Column) (place : ℕ) (days : Option Days) (numbers : Option Numbers) (kind : Kind) → is_redrawn_at columns place ≡ false →
    is_still_kind columns kind ≡ true → is_later_date days columns place kind ≡ true → is_total numbers columns place kind ≡ true → CitesStill (columns_layout dictionaries tables columns) (kind_layout dictionaries tables columns kind)
still_kind dictionaries tables columns place days numbers (kind.Template parts) unchanged h later total = λ i d lt.
    let at : i < length parts = omega (arith, lt, length-map parts (part_layout columns)) in
    subst (IsStillPart (columns_layout dictionaries tables columns)) (sym (get_or-map (part_layout columns) parts i (part.Literal []) d at))
    (still_part dictionaries tables columns (get_or parts i (part.Literal [])) (passes_each (is_still_part columns) parts i (part.Literal []) at h))
still_kind dictionaries tables columns place days numbers (kind.Case on branches) unchanged h later total = still_from_test dictionaries tables columns (place_of_column columns on) h
still_kind dictionaries tables columns place days numbers (kind.After of lo hi) unchanged h later total =
    let still = not (moves_at columns (place_of_column columns of)) in
    still_from_test dictionaries tables columns (place_of_column columns of)
    (still_unless (is_redrawn_at columns place) still unchanged (and_parts (is_after_range lo hi && is_some days) (is_redrawn_at columns place || still) later).1)
still_kind dictionaries tables columns place days numbers (kind.Sum of) unchanged h later total =
    still_names dictionaries tables columns place numbers of unchanged (and_parts (nat_le 1 (length of) && nat_le (length of) 8) (joins numbers columns place of) total).1
still_kind dictionaries tables columns place days numbers (kind.Product of) unchanged h later total =
    still_names dictionaries tables columns place numbers of unchanged (and_parts (nat_le 2 (length of) && nat_le (length of) 4) (joins numbers columns place of) total).1
still_kind dictionaries tables columns place days numbers _ unchanged h later total = tt

-- a column that doesn't change cites none that moves
pub cites_still_columns : (dictionaries : List Dictionary) (tables : List Table) (columns : List Column) (place : ℕ) (days : Option Days) (numbers : Option Numbers) → place < length columns → cites_still columns place ≡ true →
    is_later_date days columns place (kind_at columns place) ≡ true → is_total numbers columns place (kind_at columns place) ≡ true →
    (column_at (columns_layout dictionaries tables columns) place).changes ≡ false → CitesStill (columns_layout dictionaries tables columns) (column_at (columns_layout dictionaries tables columns) place).kind
cites_still_columns dictionaries tables columns place days numbers within h later total none =
    let unchanged = sym (is_redrawn_at-layout dictionaries tables columns place within) ∙ none in
    subst (CitesStill (columns_layout dictionaries tables columns)) (sym (kind_at-layout dictionaries tables columns place within))
    (still_kind dictionaries tables columns place days numbers (kind_at columns place) unchanged
    (still_unless (is_redrawn_at columns place) (is_still_kind columns (kind_at columns place)) unchanged h) later total)

-- ---- nulls

never_null : (null : ℤ) → int_eq null (pos 0) ≡ true → count null ≡ 0
never_null null h = ap count ((Decides-int_eq null (pos 0)).0 h)

pub key_never_null : (kind : Kind) (null : ℤ) → is_key_in_range kind ≡ true → is_null_share kind null ≡ true → count null ≡ 0
key_never_null (kind.Key base scramble) null is_key h = never_null null h
key_never_null _ null is_key h = cc

-- nor is a reference
pub reference_never_null : (dictionaries : List Dictionary) (tables : List Table) (columns : List Column) (place : ℕ) (kind : Kind) (null : ℤ) (reference : Reference) →
    reference_of place (kind_layout dictionaries tables columns kind) ≡ Some reference → is_null_share kind null ≡ true → count null ≡ 0
reference_never_null dictionaries tables columns place (kind.Ref table window spread on_delete deal) null reference is h = never_null null h
reference_never_null dictionaries tables columns place _ null reference is h = absurd (cc)

share_from_test : (null : ℤ) → is_between 0 999 null ≡ true → count null ≤ 999
share_from_test null h = limit_from_test null 999 ((and_parts (int_le (pos 0) null) (int_le null (pos 999)) h).1)

pub null_limit : (kind : Kind) (null : ℤ) → is_null_share kind null ≡ true → count null ≤ 999
null_limit (kind.Key base scramble) null h = omega (arith, never_null null h)
null_limit (kind.Ref table window spread on_delete deal) null h = omega (arith, never_null null h)
null_limit kind.Born null h = share_from_test null h
null_limit kind.Changed null h = share_from_test null h
null_limit (kind.Leaf leaf) null h = share_from_test null h
null_limit (kind.Template parts) null h = share_from_test null h
null_limit (kind.Case on branches) null h = share_from_test null h
null_limit (kind.Lookup via column) null h = share_from_test null h
null_limit (kind.List file) null h = share_from_test null h
null_limit (kind.BornDate start step) null h = share_from_test null h
null_limit (kind.ChangedDate start step) null h = share_from_test null h
null_limit (kind.After of lo hi) null h = share_from_test null h
null_limit (kind.Sum of) null h = share_from_test null h
null_limit (kind.Product of) null h = share_from_test null h
