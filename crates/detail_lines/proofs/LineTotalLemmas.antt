-- The totals of lines side by side, and the fields that are made of them.
use Rattle.std.proofs.Common.{◌≡◌, ◌<◌, ◌≤◌, ◌^◌, ◌+◌, ◌-◌, ◌*◌, FitsSigned, w64, to_z, of_z, ℕ, ℤ, pos, negsuc, suc, true, List, Option, Some, None, length, get_or, if◌then◌else◌, refl, ap, subst, sym, ◌∙◌, arith}
use Rattle.std.specs.Prelude.{unsigned_abs}
use Rattle.std.proofs.lemmas.Bool.{and_parts}
use Rattle.std.proofs.lemmas.Int.{fits_signed_from_abs, ints, to_z-of_z, unsigned_abs-mul}
use Rattle.std.proofs.Math.Nat.{mul-le-mul_left, one-le-pow}
use Rattle.philox_seeds.specs.SeedTree.{column_seed, draw}
use Rattle.line_pages.specs.declared.piece.Piece.{Piece}
use Rattle.line_pages.specs.Rows.{piece_text_at}
use Rattle.schema_facts.specs.declared.numbers.Numbers.{Numbers}
use Rattle.schema_plan.specs.declared.ready.ReadyAfter.{ReadyAfter}
use Rattle.schema_plan.specs.declared.ready.ReadyKind.{ReadyKind}
use Rattle.schema_plan.specs.declared.ready.ReadyKind.TheVariants as kind
use Rattle.schema_plan.specs.declared.ready.ReadyLeaf.{ReadyLeaf}
use Rattle.schema_plan.specs.declared.ready.ReadyLookup.{ReadyLookup}
use Rattle.schema_facts.specs.Ends.{IsInRange}
use Rattle.schema_facts.specs.FactsBefore.{facts_among}
use Rattle.schema_facts.specs.Numbers.{decimals_of, scaled, start_from}
use Rattle.schema_facts.proofs.NumberLemmas.{added-digits}
use Rattle.draw_values.specs.declared.leaf_numbers.Number.{Number}
use Rattle.draw_values.specs.declared.runs.RunRows.{RunRows}
use Rattle.draw_values.specs.CohortValues.{IsNumberOf}
use Rattle.draw_values.specs.Digits.{signed_pointed}
use Rattle.draw_values.specs.ReadyValues.{ready_leaf_number, ready_own_number}
use Rattle.draw_values.specs.Runs.{is_short_number, null_behind, run_row, run_seed, with_behind}
use Rattle.draw_values.specs.Values.{Draws, is_null, number_text}
use Rattle.draw_values.proofs.DigitLemmas.{length-pointed}
use Rattle.draw_values.proofs.ShortNumberLemmas.{short_between}
use Rattle.row_lines.specs.declared.derived.Join.{Join}
use Rattle.row_lines.specs.declared.derived.Join.TheVariants as join
use Rattle.row_lines.specs.TableLines.{are_small}
use Rattle.row_lines.specs.Totals.{joined_by, operand_by, start_of}
use Rattle.row_lines.proofs.OperandLemmas.{AreJoined, joined-all, joined-more, joined-none}
use Rattle.detail_plan.specs.Kept.{KeepsRules}
use Rattle.detail_plan.specs.Limits.{IsInLimits}
use Rattle.detail_lines.specs.declared.line_run.LineRun.{LineRun}
use Rattle.detail_lines.specs.Lines.{draws_of_line, line_number_in}
use Rattle.detail_lines.specs.LineRuns.{AreFields, AreLines, AreTotals, digits_over, drawn_row, line_of, total_kind}
use Rattle.detail_lines.specs.Made.{LineOver, LinesOver, behind_over, detail_seed, line_over, own_over, place_over, ready_over}
use Rattle.detail_lines.specs.Shown.{IsLineTotal, IsNumberAt, digits_for, facts_for}
use Rattle.row_lines.proofs.RunValueLemmas.{never_null}
use Rattle.detail_lines.proofs.LineRunLemmas.{drawn-seen, made-nulled}
use Rattle.detail_lines.proofs.LineValueLemmas.{number-drawn, number-product, number-sum, product_as, size-total, sum_as, text-total}
use Rattle.detail_lines.proofs.ShownLemmas.{number_is}

-- ---- numbers of 64 bits

-- one in range passes as it is
pub fits_range : (z : ℤ) → IsInRange z → FitsSigned w64 z
fits_range z range = fits_signed_from_abs w64 z (omega (arith, ints, range.from, range.to))

pub back_range : (z : ℤ) → IsInRange z → to_z w64 (of_z w64 z) ≡ z
back_range z range = to_z-of_z w64 z (fits_range z range)

-- so does an operand whose digits keep it in range
scaled-range : (more : ℕ) (z : ℤ) → IsInRange (scaled more z) → IsInRange z
scaled-range more z range =
    let some : 1 ≤ 10 ^ more = one-le-pow more 10 (omega arith) in
    let less : unsigned_abs z * 1 ≤ unsigned_abs z * 10 ^ more = mul-le-mul_left (unsigned_abs z) some in
    let whole = unsigned_abs-mul z (pos (10 ^ more)) in
    let small : unsigned_abs (scaled more z) < 2 ^ 63 = omega (arith, ints, range.from, range.to) in
    let own : unsigned_abs z < 2 ^ 63 = omega (arith, less, whole, small) in
    record { from = omega (arith, ints, own); to = omega (arith, ints, own) }

-- ---- numbers

-- one of a column whose numbers are small
pub small-number : (numbers : Option Numbers) (number : Number) → are_small numbers ≡ true → IsNumberOf numbers number → unsigned_abs number.value < 10 ^ 13
small-number None number small held = absurd held
small-number (Some numbers) number small held =
    let ends = and_parts (is_short_number numbers.least) (is_short_number numbers.greatest) small in
    short_between numbers.least numbers.greatest number.value ends.0 ends.1 held.1.from held.1.to

-- has the digits of the column
number-digits : (numbers : Option Numbers) (number : Number) → IsNumberOf numbers number → number ≡ record { value = number.value; decimals = decimals_of numbers }
number-digits None number held = absurd held
number-digits (Some numbers) number held = ap (λ (d : ℕ). record { value = number.value; decimals = d }) held.0

-- what it takes
length-number : (number : Number) → number.decimals ≤ 9 → unsigned_abs number.value < 10 ^ 13 → length (number_text number) ≤ 21
length-number number few small = of_value number.value small
  where
    of_value : (z : ℤ) → unsigned_abs z < 10 ^ 13 → length (signed_pointed number.decimals z) ≤ 21
    of_value (pos n) small = omega (arith, length-pointed number.decimals n few (omega (arith, small)))
    of_value (negsuc n) small = omega (arith, length-pointed number.decimals (suc n) few (omega (arith, small)))

-- one that is drawn
drawn-number : (held : ReadyKind) (draw : Draws) (number : Number) → ready_own_number draw held ≡ Some number → (leaf : ReadyLeaf) × (held ≡ kind.Drawn leaf) × (ready_leaf_number leaf draw ≡ Some number)
drawn-number (kind.Drawn leaf) draw number is = (leaf, refl, is)
drawn-number _ draw number is = absurd (cc)

-- ---- a total is none of the other kinds

no_drawn : (way : Join) (of : List ℕ) (held : ReadyKind) → held ≡ total_kind way of → (leaf : ReadyLeaf) → held ≡ kind.Drawn leaf → ⊥
no_drawn join.Sum of held is leaf other = cc
no_drawn join.Product of held is leaf other = cc

no_lookup : (way : Join) (of : List ℕ) (held : ReadyKind) → held ≡ total_kind way of → (lookup : ReadyLookup) → held ≡ kind.Lookup lookup → ⊥
no_lookup join.Sum of held is lookup other = cc
no_lookup join.Product of held is lookup other = cc

no_after : (way : Join) (of : List ℕ) (held : ReadyKind) → held ≡ total_kind way of → (after : ReadyAfter) → held ≡ kind.After after → ⊥
no_after join.Sum of held is after other = cc
no_after join.Product of held is after other = cc

-- ---- columns

module _ (over : LinesOver) (keeps : KeepsRules over.plan over.kept) (limits : IsInLimits over.kept.lists over.kept.detail) (column : ℕ) (within : column < own_over over) where
  -- ---- what the schema says of a total

  module _ (way : Join) (of : List ℕ) (total : (ready_over over column).kind ≡ total_kind way of) where
    pub total-as : (unit ordinal number : ℕ) → IsLineTotal (record { over = over; unit = unit; ordinal = ordinal; number = number }) column of way
    total-as unit ordinal number = of_way way total
      where
        line : LineOver
        line = record { over = over; unit = unit; ordinal = ordinal; number = number }

        of_way : (w : Join) → (ready_over over column).kind ≡ total_kind w of → IsLineTotal line column of w
        of_way join.Sum is = sum_as line keeps limits column within of is
        of_way join.Product is = product_as line keeps limits column within of is

    -- each operand stands before
    pub operand-before : (i : ℕ) → i < length of → get_or of i 0 < column
    operand-before i inside = (total-as 0 0 0).earlier i inside

    -- it has at most 9 digits after the point, a sum from the start
    pub total-few : digits_over over column ≤ 9
    total-few =
        let is = total-as 0 0 0 in
        omega (arith, is.few, ap decimals_of is.facts_are)

    -- from what the operands are joined
    pub start-is : start_of way (digits_over over column) ≡ start_of way (digits_for over.kept.facts of)
    start-is = of_way way (total-as 0 0 0)
      where
        of_way : (w : Join) → IsLineTotal (record { over = over; unit = 0; ordinal = 0; number = 0 }) column of w → start_of w (digits_over over column) ≡ start_of w (digits_for over.kept.facts of)
        of_way join.Sum is =
            ap (start_of join.Sum)
            (ap decimals_of is.facts_are
            ∙ added-digits (facts_for over.kept.facts of) (start_from (digits_for over.kept.facts of) (pos 0)) is.numbers is.joined)
        of_way join.Product is = refl

-- ---- the total of one line

-- what facts tell of the numbers of a column, and the number that a line holds there, looked for through so many columns
abbrev known_of : LineOver → ℕ → Option Numbers
known_of line place = (facts_among line.over.kept.facts place).numbers

abbrev held_of : LineOver → ℕ → ℕ → Option Number
held_of line n place = line_number_in n (line_over line) place

-- with the first operands
pub record IsLineSoFar (line : LineOver) (column : ℕ) (of : List ℕ) (way : Join) (k : ℕ) (total : ℤ) : Type 0 where
  pub decimals : ℕ
  pub so_far : AreJoined (known_of line) (held_of line) column of way k (record { value = total; decimals = decimals })
  pub digits : way ≡ join.Sum → decimals ≡ digits_for line.over.kept.facts of
  pub in_range : IsInRange total

-- with none
pub start_range : (way : Join) (digits : ℕ) → IsInRange (start_of way digits).value
start_range join.Sum digits = record { from = omega (arith, ints); to = omega (arith, ints) }
start_range join.Product digits = record { from = omega (arith, ints); to = omega (arith, ints) }

pub line-none : (line : LineOver) (column : ℕ) (of : List ℕ) (way : Join) → IsLineSoFar line column of way 0 (start_of way (digits_for line.over.kept.facts of)).value
line-none line column of way = record {
  decimals = (start_of way (digits_for line.over.kept.facts of)).decimals;
  so_far = joined-none (known_of line) (held_of line) column of way;
  digits = λ is. ap (λ (w : Join). (start_of w (digits_for line.over.kept.facts of)).decimals) is;
  in_range = start_range way (digits_for line.over.kept.facts of);
}

-- with one more
pub record IsLineNext (line : LineOver) (column : ℕ) (of : List ℕ) (way : Join) (k more : ℕ) (total operand : ℤ) : Type 0 where
  pub own_in : IsInRange operand
  pub operand_in : IsInRange (operand_by way more operand)
  pub total_in : IsInRange (joined_by way more total operand)
  pub so_far : IsLineSoFar line column of way (k + 1) (joined_by way more total operand)

line-more : (line : LineOver) (column : ℕ) (of : List ℕ) (way : Join) (k more digits : ℕ) (total operand : ℤ) → IsLineTotal line column of way → k < length of → IsLineSoFar line column of way k total →
    ((n : ℕ) → get_or of k 0 < n → Some (record { value = operand; decimals = digits }) ≡ held_of line n (get_or of k 0)) → IsNumberOf (known_of line (get_or of k 0)) (record { value = operand; decimals = digits }) →
    more ≡ (start_of way (digits_for line.over.kept.facts of)).decimals - digits → IsLineNext line column of way k more total operand
line-more line column of way k more digits total operand is inside so_far found held more_is = of_way way is so_far more_is
  where
    y : Number
    y = record { value = operand; decimals = digits }

    before : (way : Join) → IsLineTotal line column of way → (n : ℕ) → column ≤ n → Some y ≡ held_of line n (get_or of k 0)
    before way is n past = found n (omega (arith, past, is.earlier k inside))

    of_way : (way : Join) → IsLineTotal line column of way → IsLineSoFar line column of way k total → more ≡ (start_of way (digits_for line.over.kept.facts of)).decimals - digits → IsLineNext line column of way k more total operand
    of_way join.Sum is so_far more_is =
        let next = joined-more (known_of line) (held_of line) column of join.Sum is.numbers k (record { value = total; decimals = so_far.decimals }) y is.joined inside so_far.so_far (before join.Sum is) held in
        let same : so_far.decimals - digits ≡ more = ap (λ (d : ℕ). d - digits) (so_far.digits refl) ∙ sym more_is in
        record {
          own_in = scaled-range (so_far.decimals - digits) operand next.joins.operand_in;
          operand_in = subst (λ (m : ℕ). IsInRange (operand_by join.Sum m operand)) same next.joins.operand_in;
          total_in = subst (λ (m : ℕ). IsInRange (joined_by join.Sum m total operand)) same next.joins.value_in;
          so_far = record {
            decimals = so_far.decimals;
            so_far = subst (λ (m : ℕ). AreJoined (known_of line) (held_of line) column of join.Sum (k + 1) (record { value = joined_by join.Sum m total operand; decimals = so_far.decimals })) same next.so_far;
            digits = so_far.digits;
            in_range = subst (λ (m : ℕ). IsInRange (joined_by join.Sum m total operand)) same next.joins.value_in;
          };
        }
    of_way join.Product is so_far more_is =
        let next = joined-more (known_of line) (held_of line) column of join.Product is.numbers k (record { value = total; decimals = so_far.decimals }) y is.joined inside so_far.so_far (before join.Product is) held in
        record {
          own_in = next.joins.operand_in;
          operand_in = next.joins.operand_in;
          total_in = next.joins.value_in;
          so_far = record { decimals = so_far.decimals + digits; so_far = next.so_far; digits = λ same. absurd (cc); in_range = next.joins.value_in };
        }

module _ (over : LinesOver) (unit count : ℕ) (run : LineRun) (lines : AreLines over unit count run) (keeps : KeepsRules over.plan over.kept) (limits : IsInLimits over.kept.lists over.kept.detail) (below : place_over over < length over.plan.schema.tables) (column : ℕ) (within : column < own_over over) (way : Join) (of : List ℕ) (total : (ready_over over column).kind ≡ total_kind way of) where
  abbrev at : ℕ → LineOver
  at k = line_of over unit run k

  abbrev AreRows : RunRows → Type 0
  AreRows rows = (k : ℕ) → k < count → run_row rows k ≡ drawn_row run k

  total_at : (k : ℕ) → IsLineTotal (at k) column of way
  total_at k = total-as over keeps limits column within way of total unit (at k).ordinal (at k).number

  -- ---- operands that are drawn

  -- the totals of all lines with the first operands
  abbrev pub AreSoFar : ℕ → List ℤ → Type 0
  AreSoFar i totals = (k : ℕ) → k < count → IsLineSoFar (at k) column of way i (get_or totals k (pos 0))

  -- with one more
  pub totals-more : (rows : RunRows) → AreRows rows → (i more digits : ℕ) (totals operands : List ℤ) → i < length of → AreSoFar i totals → (ready_over over (get_or of i 0)).null ≡ 0 →
      ((k : ℕ) → k < count → ready_own_number (draw (run_seed (column_seed (detail_seed over.kept) (get_or of i 0)) (ready_over over (get_or of i 0)).changes rows k)) (ready_over over (get_or of i 0)).kind ≡ Some (record { value = get_or operands k (pos 0); decimals = digits })) →
      more ≡ (start_of way (digits_for over.kept.facts of)).decimals - digits → (k : ℕ) → k < count → IsLineNext (at k) column of way i more (get_or totals k (pos 0)) (get_or operands k (pos 0))
  totals-more rows are i more digits totals operands inside so_far never drawn more_is k line =
      let place : ℕ = get_or of i 0 in
      let earlier : place < column = operand-before over keeps limits column within way of total i inside in
      let own : place < own_over over = omega (arith, earlier, within) in
      let operand : Number = record { value = get_or operands k (pos 0); decimals = digits } in
      let draws : Draws = draw (run_seed (column_seed (detail_seed over.kept) place) (ready_over over place).changes rows k) in
      let leaf = drawn-number (ready_over over place).kind draws operand (drawn k line) in
      let shown : IsNumberAt (at k) place (Some operand) =
      number-drawn (at k) keeps limits place own leaf.0 leaf.1 draws (drawn-seen over unit count run lines keeps limits below rows are place k line) (Some operand) (sym leaf.2) in
      line-more (at k) column of way i more digits (get_or totals k (pos 0)) (get_or operands k (pos 0)) (total_at k) inside (so_far k line)
      (λ n past. number_is (at k) place n (Some operand) (never_null (ready_over over place).null (draws_of_line (line_over (at k)) place) never) shown past) shown.1 more_is

  -- with all of them
  pub totals-all : (i : ℕ) (totals : List ℤ) → length of ≤ i → AreSoFar i totals → AreTotals over unit count run totals column
  totals-all i totals past so_far = record { each = λ k inside. of_way way total k inside (total_at k) (so_far k inside) }
    where
      of_number : (k : ℕ) (number : Number) → IsNumberAt (at k) column (Some number) → IsNumberAt (at k) column (Some (record { value = number.value; decimals = digits_over over column }))
      of_number k number shown = subst (λ (made : Number). IsNumberAt (at k) column (Some made)) (number-digits (known_of (at k) column) number shown.1) shown

      of_way : (w : Join) → (ready_over over column).kind ≡ total_kind w of → (k : ℕ) → k < count → IsLineTotal (at k) column of w → IsLineSoFar (at k) column of w i (get_or totals k (pos 0)) →
          IsNumberAt (at k) column (Some (record { value = get_or totals k (pos 0); decimals = digits_over over column }))
      of_way join.Sum is k inside told so_far =
          let number : Number = record { value = get_or totals k (pos 0); decimals = so_far.decimals } in
          let all = joined-all (known_of (at k)) (held_of (at k)) column of join.Sum told.numbers i number told.joined past so_far.so_far in
          of_number k number
          (number-sum (at k) keeps limits column within of is (Some number) all.0 (λ some. all.1)
          (subst (λ (known : Option Numbers). IsNumberOf known number) (sym told.facts_are) all.2))
      of_way join.Product is k inside told so_far =
          let number : Number = record { value = get_or totals k (pos 0); decimals = so_far.decimals } in
          let all = joined-all (known_of (at k)) (held_of (at k)) column of join.Product told.numbers i number told.joined past so_far.so_far in
          of_number k number
          (number-product (at k) keeps limits column within of is (Some number) all.0
          (subst (λ (known : Option Numbers). IsNumberOf known number) (sym told.facts_are) all.2))

  -- ---- fields

  -- the total of a line
  abbrev number_at : List ℤ → ℕ → Number
  number_at totals k = record { value = get_or totals k (pos 0); decimals = digits_over over column }

  pub totals-small : (totals : List ℤ) → AreTotals over unit count run totals column → are_small (facts_among over.kept.facts column).numbers ≡ true → (k : ℕ) → k < count → unsigned_abs (get_or totals k (pos 0)) < 10 ^ 13
  totals-small totals are small k inside = small-number (facts_among over.kept.facts column).numbers (number_at totals k) small (are.each k inside).1

  pub made-totals : (rows : RunRows) → AreRows rows → (totals : List ℤ) → AreTotals over unit count run totals column → are_small (facts_among over.kept.facts column).numbers ≡ true → (pieces : List Piece) →
      ((k : ℕ) → k < count → piece_text_at pieces k
      ≡ (if is_null (ready_over over column).null (draw (run_seed (column_seed (detail_seed over.kept) column) (ready_over over column).changes rows k)) then null_behind (behind_over over column) else with_behind (behind_over over column) (number_text (record { value = get_or totals k (pos 0); decimals = digits_over over column })))) →
      AreFields over unit count run pieces 0 column
  made-totals rows are totals of_lines small pieces made =
      let size = size-total (at 0) keeps limits column within (no_drawn way of (ready_over over column).kind total) (no_lookup way of (ready_over over column).kind total) (no_after way of (ready_over over column).kind total) in
      made-nulled over unit count run lines keeps limits below rows are column (λ k. number_text (number_at totals k)) pieces (omega (arith, size))
      (λ k inside. text-total (at k) keeps limits column within (no_drawn way of (ready_over over column).kind total) (no_lookup way of (ready_over over column).kind total) (no_after way of (ready_over over column).kind total) (Some (number_at totals k)) (of_lines.each k inside))
      (λ k inside. omega (arith, size, length-number (number_at totals k) (total-few over keeps limits column within way of total) (totals-small totals of_lines small k inside))) made
