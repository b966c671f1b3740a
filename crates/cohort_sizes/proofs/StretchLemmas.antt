-- Stretches: the ordinals of the units of one, and what the next one adds.
use Rattle.std.proofs.Common.{◌≡◌, ℕ, zero, suc, ◌+◌, ◌-◌, ◌*◌, ◌/◌, ◌%◌, ◌<◌, ◌≤◌, List, [], ◌∷◌, ◌++◌, inl, inr, length, get_or, take, ap, arith, refl, subst, sym, ◌∙◌}
use Rattle.std.specs.Prelude.{All, max}
use Rattle.std.proofs.Math.Seq.{get_or-append_seam, take-append_seam}
use Rattle.std.proofs.lemmas.Bool.{cases_lt}
use Rattle.std.proofs.lemmas.List.{get_or_append_left, length-append, take-append-le}
use Rattle.std.proofs.lemmas.List.Elements.{All-append}
use Rattle.std.proofs.lemmas.List.Sums.{fold-append, fold_more}
use Rattle.std.proofs.lemmas.Nat.{div-add-mod', div_below, mod_below}
use Rattle.cohort_sizes.specs.declared.stretch.Stretch.{Stretch}
use Rattle.cohort_sizes.specs.Births.{Births, LiesIn, born_count, cohort_size, first_ordinal}
use Rattle.cohort_sizes.specs.declared.rate.Rate.{Rate}
use Rattle.cohort_sizes.specs.Rates.{AreRates, begin_of_rate}
use Rattle.cohort_sizes.specs.Stretches.{AreStretches, IsStretch, end_of}
use Rattle.cohort_sizes.proofs.RateLemmas.{begin-within, cohort_size-at, cohort_size-rate}
use Rattle.cohort_sizes.proofs.CohortLemmas.{born_count-le, born_count-next, first_ordinal-le}

-- ---- one stretch

-- units at each of which as many rows are born
pub first_ordinal-stretch : (births : Births) (from size count : ℕ) → ((unit : ℕ) → from ≤ unit → unit < from + count → cohort_size births unit ≡ size) →
    first_ordinal births (from + count) ≡ first_ordinal births from + count * size
first_ordinal-stretch births from size zero sizes =
    let same : from + 0 ≡ from = omega arith in
    ap (first_ordinal births) same ∙ omega arith
first_ordinal-stretch births from size (suc count) sizes =
    let next : first_ordinal births (suc (from + count)) ≡ first_ordinal births (from + count) + cohort_size births (from + count) = refl in
    let here : cohort_size births (from + count) ≡ size = sizes (from + count) (omega arith) (omega arith) in
    let before = first_ordinal-stretch births from size count (λ unit begun below. sizes unit begun (omega (arith, below))) in
    let same : from + suc count ≡ suc (from + count) = omega arith in
    ap (first_ordinal births) same ∙ omega (arith, next, here, before)

-- a unit of a stretch, or the one after it
pub first_ordinal-in : (births : Births) (stretch : Stretch) (unit : ℕ) → IsStretch births stretch → stretch.from ≤ unit → unit ≤ stretch.until →
    first_ordinal births unit ≡ stretch.first + stretch.size * (unit - stretch.from)
first_ordinal-in births stretch unit is begun within =
    let count : ℕ = unit - stretch.from in
    let at : stretch.from + count ≡ unit = omega (arith, begun) in
    let grown = first_ordinal-stretch births stretch.from stretch.size count (λ u from below. is.sizes u from (omega (arith, below, at, within))) in
    let turned : count * stretch.size ≡ stretch.size * count = grind arith in
    sym (ap (first_ordinal births) at) ∙ omega (arith, grown, is.first, turned)

-- the rows of a stretch
pub stretch-rows : (births : Births) (stretch : Stretch) → IsStretch births stretch → stretch.end ≡ stretch.first + stretch.size * (stretch.until - stretch.from)
stretch-rows births stretch is = is.end ∙ first_ordinal-in births stretch stretch.until is (omega (arith, is.some_unit)) (omega arith)

-- where one is born in it, some are at each of its units
pub stretch-some : (births : Births) (stretch : Stretch) (ordinal : ℕ) → IsStretch births stretch → stretch.first ≤ ordinal → ordinal < stretch.end → 0 < stretch.size
stretch-some births stretch ordinal is begun not_ended =
    some_factor stretch.size (stretch.until - stretch.from) (omega (arith, stretch-rows births stretch is, begun, not_ended))
  where
    some_factor : (m n : ℕ) → 0 < m * n → 0 < m
    some_factor zero n some = absurd (omega (arith, some))
    some_factor (suc m) n some = omega arith

-- a row that is born in a stretch lies in the cohort that a division finds
pub LiesIn-stretch : (births : Births) (stretch : Stretch) (ordinal quotient : ℕ) → IsStretch births stretch → stretch.first ≤ ordinal → ordinal < stretch.end →
    quotient ≡ (ordinal - stretch.first) / stretch.divisor → LiesIn births (stretch.from + quotient) ordinal
LiesIn-stretch births stretch ordinal quotient is begun not_ended quotient_is =
    let size : ℕ = stretch.size in
    let some : 0 < size = stretch-some births stretch ordinal is begun not_ended in
    let age : ℕ = ordinal - stretch.first in
    let whole : quotient ≡ age / size = quotient_is ∙ ap (λ (n : ℕ). age / n) (omega (arith, is.divisor, some)) in
    let rows = stretch-rows births stretch is in
    let turned : size * (stretch.until - stretch.from) ≡ (stretch.until - stretch.from) * size = grind arith in
    let aged : age < (stretch.until - stretch.from) * size = omega (arith, rows, turned, begun, not_ended) in
    let parts : age / size * size + age % size ≡ age = div-add-mod' age size in
    let short : age % size < size = mod_below age size some in
    let past : age / size < stretch.until - stretch.from = div_below age size (stretch.until - stretch.from) some aged in
    let first = first_ordinal-in births stretch (stretch.from + quotient) is (omega arith) (omega (arith, whole, past)) in
    let back : stretch.from + quotient - stretch.from ≡ quotient = omega arith in
    let product : size * (stretch.from + quotient - stretch.from) ≡ age / size * size = ap (λ (n : ℕ). size * n) (back ∙ whole) ∙ grind arith in
    let here : cohort_size births (stretch.from + quotient) ≡ size = is.sizes (stretch.from + quotient) (omega arith) (omega (arith, whole, past)) in
    record { begun = omega (arith, first, product, parts, begun); not_ended = omega (arith, first, product, parts, begun, short, here) }

-- ---- stretches one after the other

pub end_of-more : (stretches : List Stretch) (k : ℕ) (d : Stretch) → k < length stretches → end_of (take (k + 1) stretches) ≡ (get_or stretches k d).until
end_of-more stretches k d within = fold_more (λ before (stretch : Stretch). stretch.until) 1 stretches k d within

pub AreStretches-none : (births : Births) → AreStretches births 1 []
AreStretches-none births = record { each = λ k d below. absurd (omega (arith, below)); joined = λ k d below. absurd (omega (arith, below)); ends = refl }

-- one more
pub AreStretches-more : (births : Births) (unit : ℕ) (stretches : List Stretch) (stretch : Stretch) → AreStretches births unit stretches → IsStretch births stretch → stretch.from ≡ unit →
    AreStretches births stretch.until (stretches ++ stretch ∷ [])
AreStretches-more births unit stretches stretch are is from = record {
  each = All-append (IsStretch births) stretches (stretch ∷ []) are.each one;
  joined = joined;
  ends = fold-append (λ before (s : Stretch). s.until) 1 stretches (stretch ∷ []);
}
  where
    one : All (IsStretch births) (stretch ∷ [])
    one zero d below = is
    one (suc k) d below = absurd (omega (arith, below))

    joined : (k : ℕ) (d : Stretch) → k < length (stretches ++ stretch ∷ []) → (get_or (stretches ++ stretch ∷ []) k d).from ≡ end_of (take k (stretches ++ stretch ∷ []))
    joined k d below =
        elim (cases_lt k (length stretches)) [
          | inl before ↦
              ap (λ (s : Stretch). s.from) (get_or_append_left stretches (stretch ∷ []) d k before)
              ∙ are.joined k d before
              ∙ sym (ap end_of (take-append-le k stretches (stretch ∷ []) (omega (arith, before))))
          | inr after ↦
              let at : k ≡ length stretches = omega (arith, after, below, length-append stretches (stretch ∷ [])) in
              ap (λ (n : ℕ). (get_or (stretches ++ stretch ∷ []) n d).from) at
              ∙ ap (λ (s : Stretch). s.from) (get_or-append_seam stretches stretch [] d)
              ∙ from
              ∙ sym are.ends
              ∙ sym (ap end_of (ap (λ (n : ℕ). take n (stretches ++ stretch ∷ [])) at ∙ take-append_seam stretches (stretch ∷ [])))
        ]

-- the same of a list that is these and one more, up to a unit that is where that one ends
pub AreStretches-to : (births : Births) (unit end : ℕ) (stretches items : List Stretch) (stretch : Stretch) → IsStretch births stretch → AreStretches births unit stretches → stretch.from ≡ unit → stretch.until ≡ end →
    items ≡ stretches ++ stretch ∷ [] → AreStretches births end items
AreStretches-to births unit end stretches items stretch is are from until more =
    subst (λ (found : List Stretch). AreStretches births end found) (sym more)
    (subst (λ (u : ℕ). AreStretches births u (stretches ++ stretch ∷ [])) until (AreStretches-more births unit stretches stretch are is from))

-- ---- how many rows are born, within a limit of all

pub rows-within : (births : Births) (last limit : ℕ) → born_count births last ≤ limit → births.rows ≤ limit
rows-within births last limit all =
    let first : born_count births 0 ≡ births.rows = omega arith in
    omega (arith, first, born_count-le births 0 last (omega arith), all)

pub born-in : (births : Births) (stretch : Stretch) (unit : ℕ) → IsStretch births stretch → stretch.from ≤ unit → unit < stretch.until →
    stretch.first + stretch.size * (unit + 1 - stretch.from) ≡ born_count births unit
born-in births stretch unit is begun not_ended = sym (first_ordinal-in births stretch (unit + 1) is (omega (arith, begun)) (omega (arith, not_ended)))

pub born-within : (births : Births) (stretch : Stretch) (unit last limit : ℕ) → IsStretch births stretch → stretch.from ≤ unit → unit < stretch.until → unit ≤ last → born_count births last ≤ limit →
    stretch.first + stretch.size * (unit + 1 - stretch.from) ≤ limit
born-within births stretch unit last limit is begun not_ended within all =
    omega (arith, born-in births stretch unit is begun not_ended, born_count-le births unit last within, all)

pub first-in : (births : Births) (stretch : Stretch) (unit : ℕ) → IsStretch births stretch → stretch.from ≤ unit → unit < stretch.until →
    stretch.first + stretch.size * (unit - stretch.from) ≡ first_ordinal births unit
first-in births stretch unit is begun not_ended = sym (first_ordinal-in births stretch unit is begun (omega (arith, not_ended)))

pub cohort-in : (births : Births) (stretch : Stretch) (unit last limit : ℕ) → IsStretch births stretch → stretch.from ≤ unit → unit < stretch.until → unit ≤ last → born_count births last ≤ limit →
    stretch.first + stretch.size * (unit - stretch.from) + stretch.size ≤ limit
cohort-in births stretch unit last limit is begun not_ended within all =
    omega (arith, first-in births stretch unit is begun not_ended, is.sizes unit begun not_ended, born_count-next births unit, born_count-le births unit last within, all)

-- the unit in whose cohort an ordinal lies is at most the last one by which it is born
pub LiesIn-within : (births : Births) (last unit ordinal : ℕ) → ordinal < born_count births last → LiesIn births unit ordinal → unit ≤ last
LiesIn-within births last unit ordinal born lies =
    elim (cases_lt last unit) [
      | inl past ↦ absurd (omega (arith, born, lies.begun, first_ordinal-le births (last + 1) unit (omega (arith, past))))
      | inr within ↦ within
    ]

-- ---- the stretch of a rate

-- the ordinal after its last, where the first is known
pub rate-end : (births : Births) (place last first until : ℕ) (d : Rate) → AreRates births.rates → place < length births.rates → until ≡ begin_of_rate births.rates (place + 1) last →
    (get_or births.rates place d).from < until → first ≡ first_ordinal births (begin_of_rate births.rates place last) →
    first + (get_or births.rates place d).rows * (until - (get_or births.rates place d).from) ≡ first_ordinal births until
rate-end births place last first until d are within until_is some first_is =
    let rate : Rate = get_or births.rates place d in
    let count : ℕ = until - rate.from in
    let at : rate.from + count ≡ until = omega (arith, some) in
    let begins = begin-within births.rates place last d are within (omega (arith, some, until_is)) in
    let grown = first_ordinal-stretch births rate.from rate.rows count
    (λ unit begun below. cohort_size-at births place last unit d are within begun (omega (arith, below, at, until_is))) in
    let turned : count * rate.rows ≡ rate.rows * count = grind arith in
    let from : first_ordinal births rate.from ≡ first = ap (first_ordinal births) begins ∙ sym first_is in
    omega (arith, grown, turned, from) ∙ ap (first_ordinal births) at

-- no more are born in it than by the last unit
pub rate-within : (births : Births) (place last first until limit : ℕ) (d : Rate) → AreRates births.rates → place < length births.rates → until ≡ begin_of_rate births.rates (place + 1) last →
    (get_or births.rates place d).from < until → first ≡ first_ordinal births (begin_of_rate births.rates place last) → born_count births last ≤ limit →
    first + (get_or births.rates place d).rows * (until - (get_or births.rates place d).from) ≤ limit
rate-within births place last first until limit d are within until_is some first_is all =
    let end = rate-end births place last first until d are within until_is some first_is in
    let bound : begin_of_rate births.rates (place + 1) last ≤ last + 1 = omega arith in
    omega (arith, end, first_ordinal-le births until (last + 1) (omega (arith, until_is, bound)), all)

-- it is one of the table's births
pub IsStretch-rate : (births : Births) (place last first until divisor : ℕ) (d : Rate) → AreRates births.rates → place < length births.rates →
    until ≡ begin_of_rate births.rates (place + 1) last → (get_or births.rates place d).from < until →
    first ≡ first_ordinal births (begin_of_rate births.rates place last) → divisor ≡ max 1 (get_or births.rates place d).rows →
    IsStretch births (record {
      from = (get_or births.rates place d).from;
      until = until;
      first = first;
      end = first + (get_or births.rates place d).rows * (until - (get_or births.rates place d).from);
      size = (get_or births.rates place d).rows;
      divisor = divisor;
    })
IsStretch-rate births place last first until divisor d are within until_is some first_is divisor_is = record {
  some_unit = some;
  first = first_is ∙ sym (ap (first_ordinal births) (begin-within births.rates place last d are within (omega (arith, some, until_is))));
  end = rate-end births place last first until d are within until_is some first_is;
  sizes = λ unit begun below. cohort_size-at births place last unit d are within begun (omega (arith, below, until_is));
  divisor = divisor_is;
}

-- ---- one rate

-- with one rate from unit 1 on, as many more rows are born at each unit after the first
pub first_ordinal-one_rate : (rows rate unit : ℕ) → first_ordinal (record { rows = rows; rates = record { from = 1; rows = rate } ∷ [] }) (suc unit) ≡ rows + unit * rate
first_ordinal-one_rate rows rate unit =
    let births : Births = record { rows = rows; rates = record { from = 1; rows = rate } ∷ [] } in
    let grown : first_ordinal births (1 + unit) ≡ first_ordinal births 1 + unit * rate =
    first_ordinal-stretch births 1 rate unit (λ u begun below. cohort_size-rate births 0 u (record { from = 1; rows = rate }) (omega arith, tt) (omega arith) begun (λ none. absurd (omega (arith, none)))) in
    let one : first_ordinal births 1 ≡ rows = omega arith in
    let turned : suc unit ≡ 1 + unit = omega arith in
    ap (first_ordinal births) turned ∙ omega (arith, grown, one)
