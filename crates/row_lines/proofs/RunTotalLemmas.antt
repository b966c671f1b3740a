-- The totals of the rows of a run, and the fields that are made of them.
use Rattle.std.proofs.Common.{◌≡◌, ◌<◌, ◌≤◌, ◌^◌, ◌+◌, ◌-◌, ◌*◌, FitsSigned, w64, to_z, of_z, ℕ, ℤ, pos, negsuc, suc, Bool, true, false, List, [], ◌∷◌, ◌++◌, Option, Some, None, is_some, inl, inr, slice_set, length, get_or, get_or-set_other, get_or-set_same, map, codes, if◌then◌else◌, refl, ap, subst, sym, zero-add, ◌∙◌, arith}
use Rattle.std.specs.Prelude.{IfSome, unsigned_abs}
use Rattle.std.specs.List.{fold}
use Rattle.std.specs.Option.{option_map}
use Rattle.std.proofs.lemmas.Bool.{and_parts, cases_lt}
use Rattle.std.proofs.lemmas.Int.{fits_signed_from_abs, ints, to_z-of_z, unsigned_abs-mul}
use Rattle.std.proofs.Math.Nat.{mul-le-mul_left, one-le-pow}
use Rattle.line_pages.specs.declared.piece.Piece.{Piece}
use Rattle.line_pages.specs.Pieces.{piece_text}
use Rattle.line_pages.specs.Rows.{piece_text_at}
use Rattle.row_text.specs.Fields.{field_text}
use Rattle.cohort_sizes.specs.Births.{first_ordinal}
use Rattle.schema_facts.specs.declared.numbers.Numbers.{Numbers}
use Rattle.schema_facts.specs.ColumnFacts.{field_cost, field_facts}
use Rattle.schema_facts.specs.Ends.{IsInRange}
use Rattle.schema_facts.specs.FieldSizes.{greatest_by}
use Rattle.schema_facts.specs.Layout.{KindLayout, column_at, layout_of, leaf_kind, product_kind, sum_kind}
use Rattle.schema_plan.specs.Limits.{IsInLimits, IsTableInLimits, is_cited, is_lookup_kind}
use Rattle.schema_facts.specs.Lineage.{lineages, null_cost_of}
use Rattle.schema_facts.specs.Numbers.{decimals_of, scaled, start_from}
use Rattle.schema_facts.proofs.NumberLemmas.{added-digits}
use Rattle.draw_values.specs.declared.leaf_numbers.Number.{Number}
use Rattle.draw_values.specs.declared.runs.RunRows.{RunRows}
use Rattle.draw_values.specs.declared.values.RowAt.{RowAt}
use Rattle.draw_values.specs.CohortValues.{IsNumberOf}
use Rattle.draw_values.specs.Digits.{signed_pointed}
use Rattle.draw_values.specs.Runs.{RunColumnOf, is_short_number, number_in as drawn_number_in, run_row}
use Rattle.draw_values.specs.Values.{draws_at, is_null, number_text, own_number, unless_null}
use Rattle.draw_values.proofs.DigitLemmas.{length-pointed}
use Rattle.draw_values.proofs.PlainLemmas.{escaped_text-plain, plain-signed_pointed}
use Rattle.draw_values.proofs.ShortNumberLemmas.{short_between}
use Rattle.life_intervals.specs.Generator.{Generator, generator_of, last_unit}
use Rattle.life_intervals.specs.Intervals.{row_at}
use Rattle.life_intervals.specs.Keys.{key_of}
use Rattle.life_intervals.specs.Rows.{Row}
use Rattle.life_intervals.proofs.AcceptedLemmas.{place-below, row_at-changed}
use Rattle.row_lines.specs.declared.derived.Join.{Join}
use Rattle.row_lines.specs.declared.derived.Join.TheVariants as join
use Rattle.row_lines.specs.CohortLines.{LinesOf, asked_by, asked_for, change_for, layout_for as layout_here, row_changed, size_for as size_here, text_in_cohort, unless_known}
use Rattle.row_lines.specs.Derived.{columns_before, decimals_of as digits_of, number_by, number_in, product_of, sum_of, with_operand}
use Rattle.row_lines.specs.Lines.{value_in_table}
use Rattle.row_lines.specs.RowViews.{draws_of}
use Rattle.row_lines.specs.RunFields.{AreMade, AreRowsOf}
use Rattle.row_lines.specs.RunValues.{AreTold, AreTotals, digits_in, held_number, number_of, row_of, value_of}
use Rattle.row_lines.specs.Runs.{RunLinesOf, layout_for, text_at}
use Rattle.row_lines.specs.TableLines.{are_small, behind_of, column_of}
use Rattle.row_lines.specs.Totals.{IsTotalOf, digits_for, facts_for, is_total, join_of, joined_by, number_for, operand_by, operands_for, start_of, total_kind, total_text}
use Rattle.row_lines.proofs.DerivedLemmas.{cited-number, number-drawn, product_here, size-total, sum_here}
use Rattle.row_lines.proofs.FieldLemmas.{field-in_table}
use Rattle.row_lines.proofs.LookupLemmas.{text-in_table}
use Rattle.row_lines.proofs.PartLemmas.{cited_for-held, size_for-cited}
use Rattle.row_lines.proofs.RowOfRunLemmas.{IsRowOf, of_unit, row_of_run}
use Rattle.row_lines.proofs.RunFieldLemmas.{lines_of}
use Rattle.row_lines.proofs.RunValueLemmas.{never_null, row-seen}
use Rattle.row_lines.proofs.OperandLemmas.{sum-is}
use Rattle.row_lines.proofs.TotalLemmas.{IsSoFar, numbers_at, so_far-all, so_far-more, so_far-none}

-- ---- numbers of 64 bits

-- one in range passes as it is
pub fits_range : (z : ℤ) → IsInRange z → FitsSigned w64 z
fits_range z range = fits_signed_from_abs w64 z (omega (arith, ints, range.from, range.to))

pub back_range : (z : ℤ) → IsInRange z → to_z w64 (of_z w64 z) ≡ z
back_range z range = to_z-of_z w64 z (fits_range z range)

-- so does an operand whose digits keep it in range
scaled-range : (more : ℕ) (z : ℤ) → IsInRange (scaled more z) → IsInRange z
scaled-range more z range =
    let some : 1 ≤ 10 ^ more = one-le-pow more 10 (omega arith) in
    let less : unsigned_abs z * 1 ≤ unsigned_abs z * 10 ^ more = mul-le-mul_left (unsigned_abs z) some in
    let whole = unsigned_abs-mul z (pos (10 ^ more)) in
    let small : unsigned_abs (scaled more z) < 2 ^ 63 = omega (arith, ints, range.from, range.to) in
    let own : unsigned_abs z < 2 ^ 63 = omega (arith, less, whole, small) in
    record { from = omega (arith, ints, own); to = omega (arith, ints, own) }

-- lists of which one more place is set
pub set-more : (f : ℕ → ℤ) (xs : List ℤ) (i : ℕ) (v : ℤ) → i < length xs → v ≡ f i → ((k : ℕ) → k < i → get_or xs k (pos 0) ≡ f k) → (k : ℕ) → k < i + 1 → get_or (slice_set xs i v) k (pos 0) ≡ f k
set-more f xs i v inside is before k below = elim (cases_lt k i) [
  | inl earlier ↦ get_or-set_other xs i k v (pos 0) (λ same. omega (arith, same, earlier)) ∙ before k earlier
  | inr here ↦
      let same : k ≡ i = omega (arith, below, here) in
      subst (λ (j : ℕ). get_or (slice_set xs i v) j (pos 0) ≡ f j) (sym same) (get_or-set_same xs i v (pos 0) inside ∙ is)
]

pub set-behind : (g : ℕ → ℤ) (xs : List ℤ) (i : ℕ) (v : ℤ) → ((k : ℕ) → i ≤ k → get_or xs k (pos 0) ≡ g k) → (k : ℕ) → i + 1 ≤ k → get_or (slice_set xs i v) k (pos 0) ≡ g k
set-behind g xs i v behind k past = get_or-set_other xs i k v (pos 0) (λ same. omega (arith, same, past)) ∙ behind k (omega (arith, past))

-- ---- numbers

-- one of a column whose numbers are small
pub small-number : (numbers : Option Numbers) (number : Number) → are_small numbers ≡ true → IsNumberOf numbers number → unsigned_abs number.value < 10 ^ 13
small-number None number small held = absurd held
small-number (Some numbers) number small held =
    let ends = and_parts (is_short_number numbers.least) (is_short_number numbers.greatest) small in
    short_between numbers.least numbers.greatest number.value ends.0 ends.1 held.1.from held.1.to

-- has the digits of the column
pub number-digits : (lines : RunLinesOf) (column : ℕ) (number : Number) → IsNumberOf (field_facts (layout_of lines.plan) lines.table column).numbers number → number ≡ number_of lines column number.value
number-digits lines column number held = of_facts (field_facts (layout_of lines.plan) lines.table column).numbers held
  where
    of_facts : (numbers : Option Numbers) → IsNumberOf numbers number → number ≡ record { value = number.value; decimals = decimals_of numbers }
    of_facts None held = absurd held
    of_facts (Some numbers) held = ap (λ (d : ℕ). record { value = number.value; decimals = d }) held.0

-- what it takes
pub length-number : (number : Number) → number.decimals ≤ 9 → unsigned_abs number.value < 10 ^ 13 → length (number_text number) ≤ 21
length-number number few small = of_value number.value small
  where
    of_value : (z : ℤ) → unsigned_abs z < 10 ^ 13 → length (signed_pointed number.decimals z) ≤ 21
    of_value (pos n) small = omega (arith, length-pointed number.decimals n few (omega (arith, small)))
    of_value (negsuc n) small = omega (arith, length-pointed number.decimals (suc n) few (omega (arith, small)))

-- ---- a total, as it is written

pub total-cited : (held : KindLayout) → is_total held ≡ true → (is_cited held ≡ true) × (is_lookup_kind held ≡ false)
total-cited (sum_kind of) total = (refl, refl)
total-cited (product_kind of) total = (refl, refl)
total-cited _ total = absurd (cc)

pub total_kind-total : (way : Join) (of : List ℕ) → is_total (total_kind way of) ≡ true
total_kind-total join.Sum of = refl
total_kind-total join.Product of = refl

pub text-total : (lines : LinesOf) (index column : ℕ) (number : Option Number) → lines.table < length lines.plan.schema.tables → column < length (layout_here lines).columns →
    is_total (column_at (layout_here lines).columns column).kind ≡ true →
    ((n : ℕ) → columns_before lines.table column < n → number ≡ number_for lines index (change_for lines index) n column) →
    text_in_cohort lines index column ≡ total_text number
text-total lines index column number table within total found =
    let cited = total-cited (column_at (layout_here lines).columns column).kind total in
    sym (text-in_table lines index column table cited.1)
    ∙ ap (field_text d)
    (sym (cited_for-held lines index (change_for lines index) column (record { within = within; cited = cited.0 }))
    ∙ cited-number lines index (change_for lines index) column total
    ∙ sym (ap (option_map number_text) (found (suc (columns_before lines.table column)) (omega arith))))
    ∙ of_number number
  where
    d : ℕ
    d = (layout_of lines.plan).delimiter

    of_number : (found : Option Number) → field_text d (option_map number_text found) ≡ total_text found
    of_number None = refl
    of_number (Some found) = escaped_text-plain d (number_text found) (plain-signed_pointed found.decimals found.value)

-- what it takes, and how many permutations it asks
pub size-total_for : (lines : LinesOf) (column : ℕ) → column < length (layout_here lines).columns → is_total (column_at (layout_here lines).columns column).kind ≡ true → size_here lines column ≡ 21
size-total_for lines column within total =
    let held = (column_at (layout_here lines).columns column).kind in
    size_for-cited lines column (record { within = within; cited = (total-cited held total).0 }) ∙ size-total (layout_of lines.plan).delimiter held total

pub asked-total : (lines : LinesOf) (column : ℕ) → is_total (column_at (layout_here lines).columns column).kind ≡ true → asked_for true lines column ≡ field_cost (layout_of lines.plan) lines.table column
asked-total lines column total = of_kind (column_at (layout_here lines).columns column).kind refl total
  where
    by_kind : (held : KindLayout) → (column_at (layout_here lines).columns column).kind ≡ held →
        asked_by true (layout_of lines.plan) lines.table column held ≡ unless_known (column_at (layout_here lines).columns column).kind true (null_cost_of (lineages (layout_of lines.plan).tables) (column_at (layout_here lines).columns column).kind + field_cost (layout_of lines.plan) lines.table column) →
        unless_known held true (null_cost_of (lineages (layout_of lines.plan).tables) held + field_cost (layout_of lines.plan) lines.table column) ≡ 0 + field_cost (layout_of lines.plan) lines.table column →
        asked_for true lines column ≡ field_cost (layout_of lines.plan) lines.table column
    by_kind held is alone none =
        ap (asked_by true (layout_of lines.plan) lines.table column) is
        ∙ alone
        ∙ ap (λ (k : KindLayout). unless_known k true (null_cost_of (lineages (layout_of lines.plan).tables) k + field_cost (layout_of lines.plan) lines.table column)) is
        ∙ none
        ∙ zero-add (field_cost (layout_of lines.plan) lines.table column)

    of_kind : (held : KindLayout) → (column_at (layout_here lines).columns column).kind ≡ held → is_total held ≡ true → asked_for true lines column ≡ field_cost (layout_of lines.plan) lines.table column
    of_kind (sum_kind of) is total = by_kind (sum_kind of) is refl refl
    of_kind (product_kind of) is total = by_kind (product_kind of) is refl refl
    of_kind _ is total = absurd (cc)

-- what the schema says of it
pub total-here : (lines : LinesOf) → IsInLimits lines.plan → lines.table < length lines.plan.schema.tables → IsTableInLimits (last_unit lines.plan) (layout_here lines) → (column : ℕ) (of : List ℕ) (way : Join) →
    column < length (layout_here lines).columns → (column_at (layout_here lines).columns column).kind ≡ total_kind way of → IsTotalOf lines column of way
total-here lines sound table limits column of join.Sum within is = (sum_here lines sound table limits column of within is).0
total-here lines sound table limits column of join.Product within is = (product_here lines sound table limits column of within is).0

-- it has at most 9 digits after the point
pub digits-few : (lines : LinesOf) → IsInLimits lines.plan → lines.table < length lines.plan.schema.tables → IsTableInLimits (last_unit lines.plan) (layout_here lines) → (column : ℕ) (numbers : Numbers) →
    column < length (layout_here lines).columns → is_total (column_at (layout_here lines).columns column).kind ≡ true → numbers_at lines column ≡ Some numbers → numbers.decimals ≤ 9
digits-few lines sound table limits column numbers within total is = of_kind (column_at (layout_here lines).columns column).kind refl total
  where
    of_total : (of : List ℕ) (way : Join) → IsTotalOf lines column of way → numbers.decimals ≤ 9
    of_total of way here = omega (arith, here.few, ap decimals_of (sym is ∙ here.facts_are))

    of_kind : (held : KindLayout) → (column_at (layout_here lines).columns column).kind ≡ held → is_total held ≡ true → numbers.decimals ≤ 9
    of_kind (sum_kind of) kind_is total = of_total of join.Sum (sum_here lines sound table limits column of within kind_is).0
    of_kind (product_kind of) kind_is total = of_total of join.Product (product_here lines sound table limits column of within kind_is).0
    of_kind _ kind_is total = absurd (cc)

-- ---- totals that are found row by row

-- what is told of one more row
text_held : (lines : RunLinesOf) (column : ℕ) (text : List ℕ) (number : Option Number) (held : Bool) (value : ℤ) → held ≡ is_some number → value ≡ value_of number → text ≡ total_text number →
    IfSome number (IsNumberOf (field_facts (layout_of lines.plan) lines.table column).numbers) → text ≡ total_text (held_number held (number_of lines column value))
text_held lines column text None held value held_is value_is is within = is ∙ sym (ap (λ (h : Bool). total_text (held_number h (number_of lines column value))) held_is)
text_held lines column text (Some number) held value held_is value_is is within =
    is ∙ ap number_text (number-digits lines column number within)
    ∙ ap (λ (v : ℤ). number_text (number_of lines column v)) (sym value_is)
    ∙ sym (ap (λ (h : Bool). total_text (held_number h (number_of lines column value))) held_is)

value_small : (numbers : Option Numbers) (number : Option Number) (value : ℤ) → are_small numbers ≡ true → value ≡ value_of number → IfSome number (IsNumberOf numbers) → unsigned_abs value < 10 ^ 13
value_small numbers None value small is within = subst (λ (v : ℤ). unsigned_abs v < 10 ^ 13) (sym is) (omega arith)
value_small numbers (Some number) value small is within = subst (λ (v : ℤ). unsigned_abs v < 10 ^ 13) (sym is) (small-number numbers number small within)

pub value-back : (numbers : Option Numbers) (number : Option Number) (value : ℤ) → are_small numbers ≡ true → value ≡ value_of number → IfSome number (IsNumberOf numbers) → to_z w64 (of_z w64 value) ≡ value_of number
value-back numbers number value small is within =
    to_z-of_z w64 value (fits_signed_from_abs w64 value (omega (arith, value_small numbers number value small is within))) ∙ is

pub record AreToldTo (lines : RunLinesOf) (ordinals : List ℕ) (live : List Bool) (totals : List ℤ) (column row : ℕ) : Type 0 where
  pub text : (k : ℕ) → k < row → text_at lines (get_or ordinals k 0) column ≡ total_text (held_number (get_or live k false) (number_of lines column (get_or totals k (pos 0))))
  pub small : (k : ℕ) → k < row → unsigned_abs (get_or totals k (pos 0)) < 10 ^ 13

pub told-more : (lines : RunLinesOf) (ordinals : List ℕ) (live : List Bool) (totals : List ℤ) (column row : ℕ) (number : Option Number) (held : Bool) (value : ℤ) → row < length live → row < length totals →
    are_small (field_facts (layout_of lines.plan) lines.table column).numbers ≡ true → held ≡ is_some number → value ≡ value_of number → text_at lines (get_or ordinals row 0) column ≡ total_text number →
    IfSome number (IsNumberOf (field_facts (layout_of lines.plan) lines.table column).numbers) → AreToldTo lines ordinals live totals column row →
    AreToldTo lines ordinals (slice_set live row held) (slice_set totals row value) column (row + 1)
told-more lines ordinals live totals column row number held value in_live in_totals small held_is value_is is within before = record {
  text = λ k below. elim (cases_lt k row) [
    | inl earlier ↦
        let apart : k ≡ row → ⊥ = λ same. omega (arith, same, earlier) in
        before.text k earlier
        ∙ sym (ap (λ (h : Bool). total_text (held_number h (number_of lines column (get_or totals k (pos 0))))) (get_or-set_other live row k held false apart))
        ∙ sym (ap (λ (v : ℤ). total_text (held_number (get_or (slice_set live row held) k false) (number_of lines column v))) (get_or-set_other totals row k value (pos 0) apart))
    | inr here ↦
        let same : k ≡ row = omega (arith, below, here) in
        subst (λ (j : ℕ). text_at lines (get_or ordinals j 0) column ≡ total_text (held_number (get_or (slice_set live row held) j false) (number_of lines column (get_or (slice_set totals row value) j (pos 0))))) (sym same)
        (text_held lines column (text_at lines (get_or ordinals row 0) column) number held value held_is value_is is within
        ∙ sym (ap (λ (h : Bool). total_text (held_number h (number_of lines column value))) (get_or-set_same live row held false in_live))
        ∙ sym (ap (λ (v : ℤ). total_text (held_number (get_or (slice_set live row held) row false) (number_of lines column v))) (get_or-set_same totals row value (pos 0) in_totals)))
  ];
  small = λ k below. elim (cases_lt k row) [
    | inl earlier ↦ subst (λ (v : ℤ). unsigned_abs v < 10 ^ 13) (sym (get_or-set_other totals row k value (pos 0) (λ same. omega (arith, same, earlier)))) (before.small k earlier)
    | inr here ↦
        let same : k ≡ row = omega (arith, below, here) in
        subst (λ (j : ℕ). unsigned_abs (get_or (slice_set totals row value) j (pos 0)) < 10 ^ 13) (sym same)
        (subst (λ (v : ℤ). unsigned_abs v < 10 ^ 13) (sym (get_or-set_same totals row value (pos 0) in_totals))
        (value_small (field_facts (layout_of lines.plan) lines.table column).numbers number value small value_is within))
  ];
}

-- the fields of a column, where nulls are put for the rows that hold no number
pub made-told : (lines : RunLinesOf) (ordinals : List ℕ) (live : List Bool) (totals : List ℤ) (column byte : ℕ) (filled pieces : List Piece) (null : Piece) → column < length (layout_for lines).columns →
    is_total (column_at (layout_for lines).columns column).kind ≡ true → digits_in lines column ≤ 9 → byte ≡ behind_of lines.plan lines.table column → AreTold lines ordinals live totals column →
    ((i : ℕ) → i < length ordinals → piece_text_at filled i ≡ number_text (number_of lines column (get_or totals i (pos 0))) ++ byte ∷ []) → piece_text null ≡ codes "\\N" ++ byte ∷ [] →
    ((i : ℕ) → i < length ordinals → piece_text_at pieces i ≡ (if get_or live i false then piece_text_at filled i else piece_text null)) →
    AreMade lines ordinals pieces 0 column
made-told lines ordinals live totals column byte filled pieces null within total few byte_is told fill null_is put = record {
  text = λ i inside.
      let begun : 0 + i ≡ i = omega arith in
      ap (piece_text_at pieces) begun ∙ put i inside ∙ by_held (get_or live i false) i inside
      ∙ ap (λ (t : List ℕ). t ++ byte ∷ []) (sym (told.text i inside))
      ∙ ap (λ (b : ℕ). text_at lines (get_or ordinals i 0) column ++ b ∷ []) byte_is;
  size = λ i inside.
      omega (
        arith,
        ap (λ (t : List ℕ). length t) (told.text i inside),
        length_held (get_or live i false) i inside,
        size-total_for (lines_of lines) column within total,
      );
}
  where
    by_held : (held : Bool) (i : ℕ) → i < length ordinals → (if held then piece_text_at filled i else piece_text null) ≡ total_text (held_number held (number_of lines column (get_or totals i (pos 0)))) ++ byte ∷ []
    by_held true i inside = fill i inside
    by_held false i inside = null_is

    length_held : (held : Bool) (i : ℕ) → i < length ordinals → length (total_text (held_number held (number_of lines column (get_or totals i (pos 0))))) ≤ 21
    length_held true i inside = length-number (number_of lines column (get_or totals i (pos 0))) few (told.small i inside)
    length_held false i inside = omega arith

-- ---- a row of a run

-- its index in its cohort
abbrev pub index_in : RunLinesOf → RunRows → ℕ → ℕ
index_in lines rows r = get_or rows.ordinals.now r 0 - first_ordinal (layout_for lines).births (get_or rows.births.now r 0)

pub row-in_cohort : (lines : RunLinesOf) (rows : RunRows) (r : ℕ) → lines.unit ≤ last_unit lines.plan → AreRowsOf lines rows → r < length rows.ordinals.now →
    IsRowOf (of_unit lines (get_or rows.births.now r 0)) (index_in lines rows r) (get_or rows.ordinals.now r 0) (key_of (generator_of lines.plan) lines.table (last_unit lines.plan) (get_or rows.ordinals.now r 0)) (get_or rows.changes.now r 0)
row-in_cohort lines rows r within are inside =
    row_of_run lines rows.ordinals.now rows.births.now r (first_ordinal (layout_for lines).births (get_or rows.births.now r 0)) (key_of (generator_of lines.plan) lines.table (last_unit lines.plan) (get_or rows.ordinals.now r 0))
    (get_or rows.changes.now r 0) are.living within inside refl refl (are.changes.each r inside)

-- the row that its cohort has
pub row-known : (lines : RunLinesOf) (rows : RunRows) (r : ℕ) → lines.table < length lines.plan.schema.tables → lines.unit ≤ last_unit lines.plan → AreRowsOf lines rows → r < length rows.ordinals.now →
    row_changed (of_unit lines (get_or rows.births.now r 0)) (index_in lines rows r) (get_or rows.changes.now r 0) ≡ row_of lines (get_or rows.ordinals.now r 0)
row-known lines rows r below within are inside =
    let ordinal : ℕ = get_or rows.ordinals.now r 0 in
    ap (λ (o : ℕ). record (row_at (generator_of lines.plan) lines.table lines.unit o) { changed = get_or rows.changes.now r 0 }) (row-in_cohort lines rows r within are inside).ordinal_is
    ∙ ap (λ (changed : ℕ). record (row_at (generator_of lines.plan) lines.table lines.unit ordinal) { changed = changed })
    (are.changes.each r inside ∙ sym (row_at-changed (generator_of lines.plan) lines.table lines.unit ordinal (place-below lines.plan lines.table below)))

-- ---- operands that are drawn

-- the number that a row holds by its own draws
own-held : (number : ℕ → Row → ℕ → Option Number) (generator : Generator) (place column : ℕ) (row : Row) (held : KindLayout) (found : Number) → own_number (draws_of generator place row column) held ≡ Some found →
    Some found ≡ number_by number generator place row column held
own-held number generator place column row (leaf_kind leaf) found is = sym is
own-held number generator place column row _ found is = absurd (cc)

pub drawn-operand : (lines : RunLinesOf) (rows : RunRows) (r column : ℕ) (own : RunColumnOf) (found : Number) → lines.table < length lines.plan.schema.tables → AreRowsOf lines rows → r < length rows.ordinals.now →
    own ≡ column_of lines.plan lines.table column → (column_at (layout_for lines).columns column).null ≡ 0 → drawn_number_in lines.plan own (run_row rows r) ≡ Some found →
    (n : ℕ) → columns_before lines.table column < n → Some found ≡ number_in n (generator_of lines.plan) lines.table (row_of lines (get_or rows.ordinals.now r 0)) column
drawn-operand lines rows r column own found below are inside own_is never is =
    let generator : Generator = generator_of lines.plan in
    let row : Row = row_of lines (get_or rows.ordinals.now r 0) in
    let held : KindLayout = (column_at (layout_for lines).columns column).kind in
    number-drawn generator lines.table column row held (Some found) refl
    (never_null (column_at (layout_for lines).columns column).null (draws_of generator lines.table row column) never)
    (λ m past. own-held (number_in m generator) generator lines.table column row held found
    (ap (λ (at : RowAt). own_number (draws_at (layout_of lines.plan) lines.table at column) held) (row-seen lines rows r below are inside)
    ∙ sym (ap (λ (run : RunColumnOf). drawn_number_in lines.plan run (run_row rows r)) own_is) ∙ is))

-- ---- totals that are found for all rows at once

-- the total of a row with the first operands
pub record IsRowSoFar (lines : RunLinesOf) (rows : RunRows) (column : ℕ) (of : List ℕ) (way : Join) (k r : ℕ) (total : ℤ) : Type 0 where
  pub decimals : ℕ
  pub so_far : IsSoFar (of_unit lines (get_or rows.births.now r 0)) (index_in lines rows r) (get_or rows.changes.now r 0) column of way k (record { value = total; decimals = decimals })
  pub digits : way ≡ join.Sum → decimals ≡ digits_for (lines_of lines) of
  pub in_range : IsInRange total

-- with none
pub start_range : (way : Join) (digits : ℕ) → IsInRange (start_of way digits).value
start_range join.Sum digits = record { from = omega (arith, ints); to = omega (arith, ints) }
start_range join.Product digits = record { from = omega (arith, ints); to = omega (arith, ints) }

pub row-none : (lines : RunLinesOf) (rows : RunRows) (column : ℕ) (of : List ℕ) (way : Join) (r : ℕ) → IsRowSoFar lines rows column of way 0 r (start_of way (digits_for (lines_of lines) of)).value
row-none lines rows column of way r = record {
  decimals = (start_of way (digits_for (lines_of lines) of)).decimals;
  so_far = so_far-none (of_unit lines (get_or rows.births.now r 0)) (index_in lines rows r) (get_or rows.changes.now r 0) column of way;
  digits = λ is. ap (λ (w : Join). (start_of w (digits_for (lines_of lines) of)).decimals) is;
  in_range = start_range way (digits_for (lines_of lines) of);
}

-- a sum has at most 9 digits from the start
pub start-few : (lines : LinesOf) (column : ℕ) (of : List ℕ) (way : Join) → IsTotalOf lines column of way → (start_of way (digits_for lines of)).decimals ≤ 9
start-few lines column of join.Sum is =
    omega (arith, is.few, added-digits (facts_for lines of) (start_from (digits_for lines of) (pos 0)) is.numbers is.joined)
start-few lines column of join.Product is = omega arith

-- the same total of the lines of any cohort
pub total-in : (lines : RunLinesOf) (born column : ℕ) (of : List ℕ) (way : Join) → IsTotalOf (lines_of lines) column of way → IsTotalOf (of_unit lines born) column of way
total-in lines born column of way is = record { within = is.within; earlier = is.earlier; numbers = is.numbers; joined = is.joined; few = is.few; facts_are = is.facts_are }

-- with one more
pub record IsRowNext (lines : RunLinesOf) (rows : RunRows) (column : ℕ) (of : List ℕ) (way : Join) (k r more : ℕ) (total operand : ℤ) : Type 0 where
  pub own_in : IsInRange operand
  pub operand_in : IsInRange (operand_by way more operand)
  pub total_in : IsInRange (joined_by way more total operand)
  pub so_far : IsRowSoFar lines rows column of way (k + 1) r (joined_by way more total operand)

pub row-more : (lines : RunLinesOf) (rows : RunRows) (column : ℕ) (of : List ℕ) (way : Join) (k r more digits : ℕ) (total operand : ℤ) → IsTotalOf (lines_of lines) column of way → k < length of →
    lines.table < length lines.plan.schema.tables → lines.unit ≤ last_unit lines.plan → AreRowsOf lines rows → r < length rows.ordinals.now → IsRowSoFar lines rows column of way k r total →
    ((n : ℕ) → columns_before lines.table (get_or of k 0) < n → Some (record { value = operand; decimals = digits }) ≡ number_in n (generator_of lines.plan) lines.table (row_of lines (get_or rows.ordinals.now r 0)) (get_or of k 0)) →
    IsNumberOf (numbers_at (lines_of lines) (get_or of k 0)) (record { value = operand; decimals = digits }) → more ≡ (start_of way (digits_for (lines_of lines) of)).decimals - digits →
    IsRowNext lines rows column of way k r more total operand
row-more lines rows column of way k r more digits total operand is inside below within are row so_far found held more_is = of_way way is so_far more_is
  where
    here : LinesOf
    here = of_unit lines (get_or rows.births.now r 0)

    y : Number
    y = record { value = operand; decimals = digits }

    before : (way : Join) → IsTotalOf (lines_of lines) column of way → (n : ℕ) → columns_before lines.table column ≤ n → Some y ≡ number_for here (index_in lines rows r) (get_or rows.changes.now r 0) n (get_or of k 0)
    before way is n past =
        found n (omega (arith, past, is.earlier k 0 inside))
        ∙ sym (ap (λ (seen : Row). number_in n (generator_of lines.plan) lines.table seen (get_or of k 0)) (row-known lines rows r below within are row))

    of_way : (way : Join) → IsTotalOf (lines_of lines) column of way → IsRowSoFar lines rows column of way k r total → more ≡ (start_of way (digits_for (lines_of lines) of)).decimals - digits →
        IsRowNext lines rows column of way k r more total operand
    of_way join.Sum is so_far more_is =
        let next = so_far-more here (index_in lines rows r) (get_or rows.changes.now r 0) column of join.Sum k (record { value = total; decimals = so_far.decimals }) y (total-in lines _ column of join.Sum is) inside so_far.so_far (before join.Sum is) held in
        let same : so_far.decimals - digits ≡ more = ap (λ (d : ℕ). d - digits) (so_far.digits refl) ∙ sym more_is in
        record {
          own_in = scaled-range (so_far.decimals - digits) operand next.joins.operand_in;
          operand_in = subst (λ (m : ℕ). IsInRange (operand_by join.Sum m operand)) same next.joins.operand_in;
          total_in = subst (λ (m : ℕ). IsInRange (joined_by join.Sum m total operand)) same next.joins.value_in;
          so_far = record {
            decimals = so_far.decimals;
            so_far = subst (λ (m : ℕ). IsSoFar here (index_in lines rows r) (get_or rows.changes.now r 0) column of join.Sum (k + 1) (record { value = joined_by join.Sum m total operand; decimals = so_far.decimals })) same next.so_far;
            digits = so_far.digits;
            in_range = subst (λ (m : ℕ). IsInRange (joined_by join.Sum m total operand)) same next.joins.value_in;
          };
        }
    of_way join.Product is so_far more_is =
        let next = so_far-more here (index_in lines rows r) (get_or rows.changes.now r 0) column of join.Product k (record { value = total; decimals = so_far.decimals }) y (total-in lines _ column of join.Product is) inside so_far.so_far (before join.Product is) held in
        record {
          own_in = next.joins.operand_in;
          operand_in = next.joins.operand_in;
          total_in = next.joins.value_in;
          so_far = record { decimals = so_far.decimals + digits; so_far = next.so_far; digits = λ same. absurd (cc); in_range = next.joins.value_in };
        }

-- of all rows
pub rows-more : (lines : RunLinesOf) (rows : RunRows) (column : ℕ) (of : List ℕ) (way : Join) (k more digits : ℕ) (totals operands : List ℤ) (own : RunColumnOf) → IsTotalOf (lines_of lines) column of way → k < length of →
    lines.table < length lines.plan.schema.tables → lines.unit ≤ last_unit lines.plan → AreRowsOf lines rows →
    ((r : ℕ) → r < length rows.ordinals.now → IsRowSoFar lines rows column of way k r (get_or totals r (pos 0))) →
    own ≡ column_of lines.plan lines.table (get_or of k 0) → (column_at (layout_for lines).columns (get_or of k 0)).null ≡ 0 →
    ((r : ℕ) → r < length rows.ordinals.now → drawn_number_in lines.plan own (run_row rows r) ≡ Some (record { value = get_or operands r (pos 0); decimals = digits })) →
    ((r : ℕ) → r < length rows.ordinals.now → IsNumberOf (field_facts (layout_of lines.plan) own.table own.column).numbers (record { value = get_or operands r (pos 0); decimals = digits })) →
    more ≡ (start_of way (digits_for (lines_of lines) of)).decimals - digits →
    (r : ℕ) → r < length rows.ordinals.now → IsRowNext lines rows column of way k r more (get_or totals r (pos 0)) (get_or operands r (pos 0))
rows-more lines rows column of way k more digits totals operands own is inside below within are so_far own_is never found held more_is r row =
    let operand : Number = record { value = get_or operands r (pos 0); decimals = digits } in
    row-more lines rows column of way k r more digits (get_or totals r (pos 0)) (get_or operands r (pos 0)) is inside below within are row (so_far r row)
    (drawn-operand lines rows r (get_or of k 0) own operand below are row own_is never (found r row))
    (subst (λ (run : RunColumnOf). IsNumberOf (field_facts (layout_of lines.plan) run.table run.column).numbers operand) own_is (held r row)) more_is

-- what operands come to, in either way
abbrev total_of : Join → List (Option Number) → Option Number
total_of join.Sum operands = sum_of operands
total_of join.Product operands = product_of operands

joined-all : (way : Join) (total : Number) (operands : List (Option Number)) (digits : ℕ) → Some total ≡ fold (with_operand (join_of way)) (Some (start_of way digits)) operands → greatest_by digits_of operands ≡ digits → Some total ≡ total_of way operands
joined-all join.Sum total operands digits folded most = sum-is operands digits (Some total) folded (λ some. most)
joined-all join.Product total operands digits folded most = folded

total_of-kind : (way : Join) (number : ℕ → Row → ℕ → Option Number) (generator : Generator) (place column : ℕ) (row : Row) (of : List ℕ) → total_of way (map (number place row) of) ≡ number_by number generator place row column (total_kind way of)
total_of-kind join.Sum number generator place column row of = refl
total_of-kind join.Product number generator place column row of = refl

-- with all of them
record IsRowTotal (lines : RunLinesOf) (rows : RunRows) (column r : ℕ) (total : ℤ) : Type 0 where
  pub number : (n : ℕ) → columns_before lines.table column ≤ n →
      Some (number_of lines column total)
      ≡ number_by (number_in n (generator_of lines.plan)) (generator_of lines.plan) lines.table (row_of lines (get_or rows.ordinals.now r 0)) column (column_at (layout_for lines).columns column).kind
  pub within : IsNumberOf (field_facts (layout_of lines.plan) lines.table column).numbers (number_of lines column total)

row-total : (lines : RunLinesOf) (rows : RunRows) (column : ℕ) (of : List ℕ) (way : Join) (k r : ℕ) (total : ℤ) → IsTotalOf (lines_of lines) column of way →
    (column_at (layout_for lines).columns column).kind ≡ total_kind way of → length of ≤ k → lines.table < length lines.plan.schema.tables → lines.unit ≤ last_unit lines.plan → AreRowsOf lines rows →
    r < length rows.ordinals.now → IsRowSoFar lines rows column of way k r total → IsRowTotal lines rows column r total
row-total lines rows column of way k r total is kind_is past below within are inside so_far =
    let generator : Generator = generator_of lines.plan in
    let born : ℕ = get_or rows.births.now r 0 in
    let index : ℕ = index_in lines rows r in
    let changed : ℕ = get_or rows.changes.now r 0 in
    let row : Row = row_of lines (get_or rows.ordinals.now r 0) in
    let made : Number = record { value = total; decimals = so_far.decimals } in
    let all = so_far-all (of_unit lines born) index changed column of way k made (total-in lines born column of way is) past so_far.so_far in
    let same : made ≡ number_of lines column total = number-digits lines column made all.2 in
    record {
      number = λ n enough.
          sym (ap (λ (number : Number). Some number) same)
          ∙ joined-all way made (operands_for (of_unit lines born) index changed n of) (digits_for (lines_of lines) of) (all.0 n enough) (all.1 n enough)
          ∙ ap (λ (seen : Row). total_of way (map (number_in n generator lines.table seen) of)) (row-known lines rows r below within are inside)
          ∙ total_of-kind way (number_in n generator) generator lines.table column row of
          ∙ sym (ap (number_by (number_in n generator) generator lines.table row column) kind_is);
      within = subst (IsNumberOf (numbers_at (lines_of lines) column)) same all.2;
    }

pub rows-totals : (lines : RunLinesOf) (rows : RunRows) (column : ℕ) (of : List ℕ) (way : Join) (k : ℕ) (totals : List ℤ) → IsTotalOf (lines_of lines) column of way →
    (column_at (layout_for lines).columns column).kind ≡ total_kind way of → length of ≤ k → lines.table < length lines.plan.schema.tables → lines.unit ≤ last_unit lines.plan → AreRowsOf lines rows →
    ((r : ℕ) → r < length rows.ordinals.now → IsRowSoFar lines rows column of way k r (get_or totals r (pos 0))) → AreTotals lines rows.ordinals.now totals column
rows-totals lines rows column of way k totals is kind_is past below within are so_far = record {
  each = λ r inside n enough. (row-total lines rows column of way k r (get_or totals r (pos 0)) is kind_is past below within are inside (so_far r inside)).number n enough;
  within = λ r inside. (row-total lines rows column of way k r (get_or totals r (pos 0)) is kind_is past below within are inside (so_far r inside)).within;
}

-- what is written for a total, where its own field may be null
pub text-totalled : (lines : RunLinesOf) (ordinals : List ℕ) (totals : List ℤ) (column i : ℕ) → is_total (column_at (layout_for lines).columns column).kind ≡ true → AreTotals lines ordinals totals column → i < length ordinals →
    text_at lines (get_or ordinals i 0) column
    ≡ (if is_null (column_at (layout_for lines).columns column).null (draws_of (generator_of lines.plan) lines.table (row_of lines (get_or ordinals i 0)) column) then codes "\\N"
    else number_text (number_of lines column (get_or totals i (pos 0))))
text-totalled lines ordinals totals column i total are inside =
    ap (field_text d) (field-in_table generator lines.unit lines.table column row (total-cited (column_at (layout_for lines).columns column).kind total).1)
    ∙ of_kind (column_at (layout_for lines).columns column).kind total (are.each i inside (columns_before lines.table column) (omega arith))
  where
    d : ℕ
    d = (layout_of lines.plan).delimiter

    generator : Generator
    generator = generator_of lines.plan

    row : Row
    row = row_of lines (get_or ordinals i 0)

    number : Number
    number = number_of lines column (get_or totals i (pos 0))

    null : ℕ
    null = (column_at (layout_for lines).columns column).null

    by_null : (test : Bool) → field_text d (if test then None else Some (number_text number)) ≡ (if test then codes "\\N" else number_text number)
    by_null true = refl
    by_null false = escaped_text-plain d (number_text number) (plain-signed_pointed number.decimals number.value)

    of_number : (found : Option Number) → Some number ≡ found →
        field_text d (unless_null null (draws_of generator lines.table row column) (option_map number_text found)) ≡ (if is_null null (draws_of generator lines.table row column) then codes "\\N" else number_text number)
    of_number found is =
        ap (λ (shown : Option Number). field_text d (unless_null null (draws_of generator lines.table row column) (option_map number_text shown))) (sym is)
        ∙ by_null (is_null null (draws_of generator lines.table row column))

    of_kind : (held : KindLayout) → is_total held ≡ true → Some number ≡ number_by (number_in (columns_before lines.table column) generator) generator lines.table row column held →
        field_text d (unless_null null (draws_of generator lines.table row column) (value_in_table generator lines.table row column held))
        ≡ (if is_null null (draws_of generator lines.table row column) then codes "\\N" else number_text number)
    of_kind (sum_kind of) total found = of_number (sum_of (map (number_in (columns_before lines.table column) generator lines.table row) of)) found
    of_kind (product_kind of) total found = of_number (product_of (map (number_in (columns_before lines.table column) generator lines.table row) of)) found
    of_kind _ total found = absurd (cc)
