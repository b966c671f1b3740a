-- Sums and products, operand by operand, by what is told of the column of each.
use Rattle.std.proofs.Common.{◌≡◌, ◌<◌, ◌≤◌, ◌+◌, ◌-◌, ◌+ℤ◌, ◌&&◌, ℕ, ℤ, Bool, true, false, cond, nat_le, max, List, [], ◌∷◌, get_or, length, map, take, Option, Some, None, is_some, refl, ap, ap₂, subst, sym, ◌∙◌, arith}
use Rattle.std.specs.List.{fold}
use Rattle.std.specs.Option.{unwrap_or}
use Rattle.std.proofs.lemmas.Bool.{and_parts, leb-true}
use Rattle.std.proofs.lemmas.Grind.{fold-append}
use Rattle.std.proofs.lemmas.Int.{ints}
use Rattle.std.proofs.lemmas.List.{get_or-map, length-map, take-append-drop, take_all}
use Rattle.std.proofs.lemmas.List.Folds.{fold-map}
use Rattle.std.proofs.lemmas.List.Sums.{fold_more}
use Rattle.std.specs.Prelude.{IfSome, drop}
use Rattle.schema_facts.specs.declared.numbers.Numbers.{Numbers}
use Rattle.schema_facts.specs.Ends.{IsInRange, IsWithin}
use Rattle.schema_facts.specs.FieldSizes.{greatest_by}
use Rattle.schema_facts.specs.Numbers.{joined, product_end, scaled, sum_end, with_operand as with_facts, most_decimals, decimals_of as digits_of, lesser, greater}
use Rattle.schema_facts.proofs.NumberLemmas.{joined-digits, known_so_far, plus-digits}
use Rattle.schema_facts.proofs.NumberRangeLemmas.{plus-within, times-within}
use Rattle.draw_values.specs.declared.leaf_numbers.Number.{Number}
use Rattle.draw_values.specs.CohortValues.{IsNumberOf}
use Rattle.row_lines.specs.declared.derived.Join.{Join}
use Rattle.row_lines.specs.declared.derived.Join.TheVariants as join
use Rattle.row_lines.specs.Derived.{decimals_of, plus, sum_of, with_operand}
use Rattle.row_lines.specs.Totals.{join_of, join_of_facts, joined_operand, start_of, start_of_facts}

-- ---- one more operand

-- what is joined has at most 9 digits after the point
joined-few : (decimals reads : ℕ) (least greatest : Option ℤ) (total : Numbers) → joined decimals least greatest reads ≡ Some total → total.decimals ≤ 9
joined-few decimals reads None greatest total h = absurd (cc)
joined-few decimals reads (Some least) None total h = absurd (cc)
joined-few decimals reads (Some least) (Some greatest) total h = of_test (nat_le decimals 9 && nat_le reads 64) refl h
  where
    made : Numbers
    made = record { decimals = decimals; least = least; greatest = greatest; reads = reads }

    of_test : (test : Bool) → (nat_le decimals 9 && nat_le reads 64) ≡ test → cond test (Some made) None ≡ Some total → total.decimals ≤ 9
    of_test true is h = omega (arith, leb-true decimals 9 (and_parts (nat_le decimals 9) (nat_le reads 64) is).0, ap (λ (o : Option Numbers). (unwrap_or o total).decimals) h)
    of_test false is h = absurd (cc)

pub joins-few : (way : Join) (so_far operand total : Numbers) → join_of_facts way so_far operand ≡ Some total → total.decimals ≤ 9
joins-few join.Sum so_far operand total h =
    let more = so_far.decimals - operand.decimals in
    joined-few so_far.decimals (so_far.reads + operand.reads) (sum_end more so_far.least operand.least) (sum_end more so_far.greatest operand.greatest) total h
joins-few join.Product so_far operand total h =
    let a = product_end so_far.least operand.least in
    let b = product_end so_far.least operand.greatest in
    let c = product_end so_far.greatest operand.least in
    let d = product_end so_far.greatest operand.greatest in
    joined-few (so_far.decimals + operand.decimals) (so_far.reads + operand.reads) (lesser (lesser a b) (lesser c d)) (greater (greater a b) (greater c d)) total h

-- a number so far and one more operand, where the facts tell what they come to
pub record Joins (way : Join) (so_far operand : Number) (total : Numbers) : Type 0 where
  pub operand_in : IsInRange (joined_operand way so_far operand)
  pub value_in : IsInRange (join_of way so_far operand).value
  pub few : (join_of way so_far operand).decimals ≤ 9
  pub within : IsNumberOf (Some total) (join_of way so_far operand)

pub joins : (way : Join) (so_far operand total : Numbers) → join_of_facts way so_far operand ≡ Some total → (x y : Number) → IsNumberOf (Some so_far) x → IsNumberOf (Some operand) y → Joins way x y total
joins join.Sum so_far operand total h x y p q =
    let ends = plus-within so_far operand total h x.value y.value p.1 q.1 in
    let more : so_far.decimals - operand.decimals ≡ x.decimals - y.decimals = ap₂ (λ (a b : ℕ). a - b) (sym p.0) (sym q.0) in
    let digits : x.decimals ≡ total.decimals = p.0 ∙ sym (plus-digits so_far operand total h) in
    record {
      operand_in = subst (λ (m : ℕ). IsInRange (scaled m y.value)) more ends.0;
      value_in = subst (λ (m : ℕ). IsInRange (x.value +ℤ scaled m y.value)) more ends.1;
      few = omega (arith, digits, joins-few join.Sum so_far operand total h);
      within = (digits, subst (λ (m : ℕ). IsWithin total (x.value +ℤ scaled m y.value)) more ends.2);
    }
joins join.Product so_far operand total h x y p q =
    let ends = times-within so_far operand total h x.value y.value p.1 q.1 in
    let a = product_end so_far.least operand.least in
    let b = product_end so_far.least operand.greatest in
    let c = product_end so_far.greatest operand.least in
    let d = product_end so_far.greatest operand.greatest in
    let whole : total.decimals ≡ so_far.decimals + operand.decimals =
    subst (λ (after : Option Numbers). IfSome after (λ (numbers : Numbers). numbers.decimals ≡ so_far.decimals + operand.decimals)) h
    (joined-digits (so_far.decimals + operand.decimals) (so_far.reads + operand.reads) (lesser (lesser a b) (lesser c d)) (greater (greater a b) (greater c d))) in
    let digits : x.decimals + y.decimals ≡ total.decimals = omega (arith, p.0, q.0, whole) in
    record {
      operand_in = ends.0;
      value_in = ends.1;
      few = omega (arith, digits, joins-few join.Product so_far operand total h);
      within = (digits, ends.2);
    }

-- ---- the operands so far

-- what a total is so far, with the operand at a place. Each operand is a number that is looked for through so many columns
abbrev pub joining : (ℕ → ℕ → Option Number) → Join → ℕ → Option Number → ℕ → Option Number
joining held way n so_far place = with_operand (join_of way) so_far (held n place)

-- from what operands with these digits are joined, and what facts tell of it
abbrev pub start_for : (ℕ → Option Numbers) → List ℕ → Join → Number
start_for known of way = start_of way (most_decimals (map known of))

abbrev pub start_known : (ℕ → Option Numbers) → List ℕ → Join → Numbers
start_known known of way = start_of_facts way (most_decimals (map known of))

-- the first operands come to a number, looked for through so many columns or more
pub record AreJoined (known : ℕ → Option Numbers) (held : ℕ → ℕ → Option Number) (least : ℕ) (of : List ℕ) (way : Join) (i : ℕ) (total : Number) : Type 0 where
  pub number : (n : ℕ) → least ≤ n → fold (joining held way n) (Some (start_for known of way)) (take i of) ≡ Some total
  pub facts : Numbers
  pub facts_are : fold (with_facts (join_of_facts way)) (Some (start_known known of way)) (take i (map known of)) ≡ Some facts
  pub within : IsNumberOf (Some facts) total
  pub digits : (n : ℕ) → least ≤ n → greatest_by decimals_of (map (held n) (take i of)) ≡ most_decimals (map known (take i of))

start_within : (way : Join) (digits : ℕ) → IsNumberOf (Some (start_of_facts way digits)) (start_of way digits)
start_within join.Sum digits = (refl, record { from = omega (arith, ints); to = omega (arith, ints) })
start_within join.Product digits = (refl, record { from = omega (arith, ints); to = omega (arith, ints) })

pub joined-none : (known : ℕ → Option Numbers) (held : ℕ → ℕ → Option Number) (least : ℕ) (of : List ℕ) (way : Join) → AreJoined known held least of way 0 (start_for known of way)
joined-none known held least of way =
    record { number = λ n enough. refl; facts = start_known known of way; facts_are = refl; within = start_within way (most_decimals (map known of)); digits = λ n enough. refl }

-- with one more
greatest-more : {A : Type 0} (f : A → ℕ) (g : ℕ → A) (of : List ℕ) (i : ℕ) → i < length of →
    greatest_by f (map g (take (i + 1) of)) ≡ max (greatest_by f (map g (take i of))) (f (g (get_or of i 0)))
greatest-more f g of i within =
    fold-map (λ most x. max most (f x)) g 0 (take (i + 1) of)
    ∙ fold_more (λ most place. max most (f (g place))) 0 of i 0 within
    ∙ ap (λ (most : ℕ). max most (f (g (get_or of i 0)))) (sym (fold-map (λ most x. max most (f x)) g 0 (take i of)))

pub record IsNextJoined (known : ℕ → Option Numbers) (held : ℕ → ℕ → Option Number) (least : ℕ) (of : List ℕ) (way : Join) (i : ℕ) (total operand : Number) : Type 0 where
  pub facts : Numbers
  pub joins : Joins way total operand facts
  pub so_far : AreJoined known held least of way (i + 1) (join_of way total operand)

-- what facts tell of all operands together
abbrev pub AllTold : (ℕ → Option Numbers) → List ℕ → Join → Numbers → Type 0
AllTold known of way numbers = fold (with_facts (join_of_facts way)) (Some (start_known known of way)) (map known of) ≡ Some numbers

pub joined-more : (known : ℕ → Option Numbers) (held : ℕ → ℕ → Option Number) (least : ℕ) (of : List ℕ) (way : Join) (numbers : Numbers) (i : ℕ) (total operand : Number) → AllTold known of way numbers → i < length of →
    AreJoined known held least of way i total → ((n : ℕ) → least ≤ n → Some operand ≡ held n (get_or of i 0)) → IsNumberOf (known (get_or of i 0)) operand → IsNextJoined known held least of way i total operand
joined-more known held least of way numbers i total operand all_told within so_far found in_range = of_found (known (get_or of i 0)) refl in_range
  where
    inside : i < length (map known of)
    inside = omega (arith, within, length-map of known)

    at : get_or (map known of) i None ≡ known (get_or of i 0)
    at = get_or-map known of i 0 None within

    of_found : (told : Option Numbers) → known (get_or of i 0) ≡ told → IsNumberOf told operand → IsNextJoined known held least of way i total operand
    of_found None told_is in_range = absurd in_range
    of_found (Some told) told_is in_range =
        let next = known_so_far (join_of_facts way) (Some (start_known known of way)) (map known of) numbers (i + 1) all_told in
        let step : join_of_facts way so_far.facts told ≡ Some next.0 =
        ap₂ (λ (before more : Option Numbers). with_facts (join_of_facts way) before more) (sym so_far.facts_are) (sym (at ∙ told_is))
        ∙ sym (fold_more (with_facts (join_of_facts way)) (Some (start_known known of way)) (map known of) i None inside)
        ∙ next.1 in
        let made = joins way so_far.facts told next.0 step total operand so_far.within in_range in
        record {
          facts = next.0;
          joins = made;
          so_far = record {
            number = λ n enough.
                fold_more (joining held way n) (Some (start_for known of way)) of i 0 within
                ∙ ap₂ (λ (before more : Option Number). with_operand (join_of way) before more) (so_far.number n enough) (sym (found n enough));
            facts = next.0;
            facts_are = next.1;
            within = made.within;
            digits = λ n enough.
                greatest-more decimals_of (held n) of i within
                ∙ ap₂ (λ (most digits : ℕ). max most digits) (so_far.digits n enough)
                (ap decimals_of (sym (found n enough)) ∙ in_range.0 ∙ ap digits_of (sym told_is))
                ∙ sym (greatest-more digits_of known of i within);
          };
        }

-- the operands all together
pub joined-all : (known : ℕ → Option Numbers) (held : ℕ → ℕ → Option Number) (least : ℕ) (of : List ℕ) (way : Join) (numbers : Numbers) (i : ℕ) (total : Number) → AllTold known of way numbers → length of ≤ i →
    AreJoined known held least of way i total →
    ((n : ℕ) → least ≤ n → Some total ≡ fold (with_operand (join_of way)) (Some (start_for known of way)) (map (held n) of))
    × ((n : ℕ) → least ≤ n → greatest_by decimals_of (map (held n) of) ≡ most_decimals (map known of))
    × IsNumberOf (Some numbers) total
joined-all known held least of way numbers i total all_told past so_far =
    let all : take i of ≡ of = take_all i of past in
    let facts_all : take i (map known of) ≡ map known of = take_all i (map known of) (omega (arith, past, length-map of known)) in
    let start : Option Number = Some (start_for known of way) in
    let same : Some so_far.facts ≡ Some numbers = sym so_far.facts_are ∙ ap (fold (with_facts (join_of_facts way)) (Some (start_known known of way))) facts_all ∙ all_told in (
      (λ n enough. sym (fold-map (with_operand (join_of way)) (held n) start of ∙ ap (fold (joining held way n) start) (sym all) ∙ so_far.number n enough)),
      (λ n enough. ap (λ (places : List ℕ). greatest_by decimals_of (map (held n) places)) (sym all) ∙ so_far.digits n enough ∙ ap (λ (places : List ℕ). most_decimals (map known places)) all),
      subst (λ (told : Option Numbers). IsNumberOf told total) same so_far.within,
    )

-- a null operand leaves nothing
lost : (held : ℕ → ℕ → Option Number) (n : ℕ) (way : Join) (of : List ℕ) → fold (joining held way n) None of ≡ None
lost held n way [] = refl
lost held n way (place ∷ of) = lost held n way of

with_none : (join : Number → Number → Number) (so_far : Option Number) → with_operand join so_far None ≡ None
with_none join None = refl
with_none join (Some number) = refl

pub joined-lost : (held : ℕ → ℕ → Option Number) (n : ℕ) (of : List ℕ) (way : Join) (i : ℕ) (start : Option Number) → i < length of → None ≡ held n (get_or of i 0) →
    None ≡ fold (with_operand (join_of way)) start (map (held n) of)
joined-lost held n of way i start within null =
    let step = joining held way n in
    sym (fold-map (with_operand (join_of way)) (held n) start of
    ∙ ap (fold step start) (sym (take-append-drop (i + 1) of))
    ∙ fold-append step start (take (i + 1) of) (drop (i + 1) of)
    ∙ ap (λ (so_far : Option Number). fold step so_far (drop (i + 1) of))
    (fold_more step start of i 0 within ∙ ap (with_operand (join_of way) (fold step start (take i of))) (sym null) ∙ with_none (join_of way) (fold step start (take i of)))
    ∙ lost held n way (drop (i + 1) of))

-- ---- sums

-- a sum whose digits aren't those of all operands has a null one
none_from_any : (operands : List (Option Number)) (one other : Number) → fold (with_operand plus) (Some one) operands ≡ None → fold (with_operand plus) (Some other) operands ≡ None
none_from_any [] one other h = absurd (cc)
none_from_any (None ∷ operands) one other h = h
none_from_any (Some operand ∷ operands) one other h = none_from_any operands (plus one operand) (plus other operand) h

pub sum-is : (operands : List (Option Number)) (digits : ℕ) (result : Option Number) → result ≡ fold (with_operand plus) (Some (start_of join.Sum digits)) operands →
    (is_some result ≡ true → greatest_by decimals_of operands ≡ digits) → result ≡ sum_of operands
sum-is operands digits None is same = sym (none_from_any operands (start_of join.Sum digits) (start_of join.Sum (greatest_by decimals_of operands)) (sym is))
sum-is operands digits (Some total) is same = is ∙ ap (λ (d : ℕ). fold (with_operand plus) (Some (start_of join.Sum d)) operands) (sym (same refl))
