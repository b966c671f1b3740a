-- What the rule of claims says of seats in their places.
use Rattle.std.proofs.Common.{◌≡◌, ◌+◌, ◌-◌, ◌*◌, ◌^◌, ◌<◌, ◌≤◌, ◌==◌, ℕ, suc, List, [], ◌∷◌, ◌++◌, inl, inr, ap, arith, length, refl, subst, sym, ◌∙◌}
use Rattle.std.specs.Prelude.{All, Any, slice_index_or, sum_by}
use Rattle.std.proofs.Math.Seq.{set-append_seam}
use Rattle.std.proofs.lemmas.Bool.{cases_lt, eq-eqb, le-ltb, lt-ltb}
use Rattle.std.proofs.lemmas.List.Concat.{length-flat_map}
use Rattle.std.proofs.lemmas.List.Elements.{All-head, All-tail}
use Rattle.std.proofs.lemmas.List.Sums.{get_or-le-sum_by, sum_by-append, sum_by-cons}
use Rattle.range_workers.specs.declared.view.View.{View}
use Rattle.range_workers.specs.declared.view.View.TheVariants.{Caller, Spent, Worker}
use Rattle.range_workers.specs.Rule.{Fits, IsDone, KeepsRule, callers, once_below, times, workers}
use Rattle.range_workers.specs.Views.{is_caller, is_worker, numbers}
use Rattle.range_workers.proofs.NumberLemmas.{times-numbers}
use Rattle.range_workers.proofs.RuleLemmas.{claim_keeps, join_keeps}
use Rattle.range_workers.proofs.SeatLemmas.{callers-cons, one_if, seat_between, workers-cons}

pub claim_between : (word from : ℕ) (ns : List ℕ) (front back : List View) → KeepsRule word (front ++ Worker ns from ∷ back) → length ns < 8 →
    KeepsRule (word + 1) (front ++ Worker (ns ++ word ∷ []) from ∷ back)
claim_between word from ns front back rule few =
    let before = Worker ns from in
    let after = Worker (ns ++ word ∷ []) from in
    subst (KeepsRule (word + 1)) (set-append_seam front before back after)
    (claim_keeps word (length front) (front ++ before ∷ back) ns from rule (seat_between front back before) few)

pub join_behind : (word out from : ℕ) (ns ms : List ℕ) (front back : List View) → KeepsRule word (Caller ns out ∷ (front ++ Worker ms from ∷ back)) →
    length ns ≤ 2 ^ 62 - 8 → KeepsRule word (Caller (ns ++ ms) (out - 1) ∷ (front ++ Spent ∷ back))
join_behind word out from ns ms front back rule room =
    let worker = Worker ms from in
    subst (λ seats. KeepsRule word (Caller (ns ++ ms) (out - 1) ∷ seats)) (set-append_seam front worker back Spent)
    (join_keeps word 0 (suc (length front)) (Caller ns out ∷ (front ++ worker ∷ back)) ns ms out from rule refl room (λ same. omega (arith, same))
    (seat_between front back worker))

-- how often a number stands in all views
pub once_in_all : (word n : ℕ) (views : List View) → KeepsRule word views → sum_by (λ view. times n (numbers view)) views ≡ once_below word n
once_in_all word n views rule = sym (times-numbers n views) ∙ rule.numbers.each_once n

pub at_most_once : (n word k : ℕ) → k ≤ once_below word n → 0 < k → (n < word) × (k ≡ 1)
at_most_once n word k most some_times =
    elim (cases_lt n word) [
      | inl below ↦ (below, let one : once_below word n ≡ 1 = ap one_if (lt-ltb n word below) in omega (arith, one, most, some_times))
      | inr from ↦ let none : once_below word n ≡ 0 = ap one_if (le-ltb n word from) in absurd (omega (arith, none, most, some_times))
    ]

pub once_in_two : (word n : ℕ) (one other : View) (front between back : List View) → KeepsRule word (front ++ one ∷ (between ++ other ∷ back)) →
    0 < times n (numbers one) + times n (numbers other) → (n < word) × (times n (numbers one) + times n (numbers other) ≡ 1)
once_in_two word n one other front between back rule some_times =
    let f : View → ℕ = λ view. times n (numbers view) in
    let all = once_in_all word n (front ++ one ∷ (between ++ other ∷ back)) rule in
    at_most_once n word (times n (numbers one) + times n (numbers other))
    (omega (
      arith,
      all,
      sum_by-append f front (one ∷ (between ++ other ∷ back)),
      sum_by-cons f one (between ++ other ∷ back),
      sum_by-append f between (other ∷ back),
      sum_by-cons f other back,
    )) some_times

-- a number that a list has stands in it
pub times-any : (limit : ℕ) (ns : List ℕ) → Any (λ n. limit ≤ n) ns → (n : ℕ) × (limit ≤ n) × (0 < times n ns)
times-any limit ns (k, n, below, there, from) =
    let here : one_if (slice_index_or ns k n == n) ≡ 1 = ap one_if (eq-eqb (slice_index_or ns k n) n there) in
    (n, from, omega (arith, here, get_or-le-sum_by (λ (m : ℕ). one_if (m == n)) ns k n below))

-- workers that are done have eight numbers each, where none is from the limit on
pub eight_each : (limit : ℕ) (seats : List View) → callers seats ≡ 0 → All (IsDone limit) seats →
    ((n : ℕ) → limit ≤ n → sum_by (λ view. times n (numbers view)) seats ≡ 0) → sum_by (λ view. length (numbers view)) seats ≡ 8 * workers seats
eight_each limit [] none done below = refl
eight_each limit (view ∷ seats) none done below =
    let f : ℕ → View → ℕ = λ n view. times n (numbers view) in
    let rest = eight_each limit seats (omega (arith, none, callers-cons view seats)) (All-tail (IsDone limit) view seats done)
    (λ n from. omega (arith, below n from, sum_by-cons (f n) view seats)) in
    omega (
      arith,
      rest,
      workers-cons view seats,
      sum_by-cons (λ v. length (numbers v)) view seats,
      eight view (omega (arith, none, callers-cons view seats)) (All-head (IsDone limit) view seats done) (λ n from. omega (arith, below n from, sum_by-cons (f n) view seats)),
    )
  where
    eight : (view : View) → one_if (is_caller view) ≡ 0 → IsDone limit view → ((n : ℕ) → limit ≤ n → times n (numbers view) ≡ 0) →
        length (numbers view) ≡ 8 * one_if (is_worker view)
    eight (Caller ns out) other done none = absurd (omega (arith, other))
    eight (Worker ns from) other (inl all) none = omega (arith, all)
    eight (Worker ns from) other (inr some_past) none = let there = times-any limit ns some_past in absurd (omega (arith, there.2, none there.0 there.1))
    eight Spent other done none = refl

pub round_whole : (word out : ℕ) (ns : List ℕ) (seats : List View) → KeepsRule word (Caller ns out ∷ seats) → All (IsDone (length ns + 4 * out)) seats →
    length ns + 4 * out ≤ word
round_whole word out ns seats rule done =
    elim (cases_lt word (length ns + 4 * out)) [
      | inl short ↦ absurd (impossible short)
      | inr whole ↦ whole
    ]
  where
    caller : View
    caller = Caller ns out

    limit : ℕ
    limit = length ns + 4 * out

    impossible : word < limit → ⊥
    impossible short =
        let f : ℕ → View → ℕ = λ n view. times n (numbers view) in
        let none : (n : ℕ) → limit ≤ n → sum_by (f n) seats ≡ 0 = λ n from.
        let never : once_below word n ≡ 0 = ap one_if (le-ltb n word (omega (arith, from, short))) in
        omega (arith, once_in_all word n (caller ∷ seats) rule, never, sum_by-cons (f n) caller seats) in
        let fit = All-head (Fits word (workers (caller ∷ seats))) caller seats rule.fits in
        let each = eight_each limit seats (omega (arith, rule.one_caller, callers-cons caller seats)) done none in
        omega (arith, each, fit.0, workers-cons caller seats, rule.numbers.count, length-flat_map numbers (caller ∷ seats), sum_by-cons (λ v. length (numbers v)) caller seats, short)
