-- A worker's view as it claims, and the numbers of the pages that it makes.
use Rattle.std.proofs.Common.{◌≡◌, ◌+◌, ◌<◌, ◌≤◌, ◌==◌, ℕ, List, [], ◌∷◌, ◌++◌, inl, inr, ap, arith, length, length-append, refl, subst, sym, ◌∙◌}
use Rattle.std.specs.Prelude.{All, vec_capacity}
use Rattle.std.proofs.lemmas.Bool.{ne_eqb}
use Rattle.std.proofs.lemmas.List.Quantifiers.{Any-push}
use Rattle.ordered_sink.specs.declared.offers.Numbered.{Numbered}
use Rattle.range_workers.specs.declared.claims.Claims.{Claims}
use Rattle.range_workers.specs.declared.work.RoundClaims.{RoundClaims}
use Rattle.range_workers.specs.declared.work.RoundWorker.{RoundWorker}
use Rattle.range_workers.specs.declared.view.View.{View}
use Rattle.range_workers.specs.declared.view.View.TheVariants.{Worker}
use Rattle.range_workers.specs.Round.{HasRoom, HasWorked, IsPageOf, numbers_of}
use Rattle.range_workers.specs.Rule.{IsDone, times}
use Rattle.range_workers.specs.Seats.{IsSeatOf, view}
use Rattle.range_workers.specs.Views.{CanClaim, from_of, numbers, with_number}
use Rattle.range_workers.proofs.NumberLemmas.{times-append}
use Rattle.range_workers.proofs.SeatLemmas.{one_if}

pub can_claim : (v : View) (ns : List ℕ) (base : ℕ) → v ≡ Worker ns base → length ns < 8 → CanClaim v
can_claim v ns base is few = subst CanClaim (sym is) few

pub not_below : (v : View) (ns : List ℕ) (base n : ℕ) → v ≡ Worker ns base → from_of v ≤ n → base ≤ n
not_below v ns base n is from = subst (λ (u : View). from_of u ≤ n) is from

-- the view of a worker that claimed one number more
pub claimed_one : (v w : View) (ns : List ℕ) (base n : ℕ) → v ≡ Worker ns base → w ≡ with_number n v → w ≡ Worker (ns ++ n ∷ []) base
claimed_one v w ns base n is more = more ∙ ap (with_number n) is

pub knows_numbers : (v : View) (ns : List ℕ) (base : ℕ) → v ≡ Worker ns base → v ≡ Worker (numbers v) base
knows_numbers v ns base is = subst (λ (u : View). u ≡ Worker (numbers u) base) (sym is) refl

pub done_by_eight : (v : View) (ns : List ℕ) (base end : ℕ) → v ≡ Worker ns base → length ns ≡ 8 → IsDone end v
done_by_eight v ns base end is eight = subst (IsDone end) (sym is) (inl eight)

pub done_by_one_past : (v : View) (ns : List ℕ) (base end n : ℕ) → v ≡ Worker (ns ++ n ∷ []) base → end ≤ n → IsDone end v
done_by_one_past v ns base end n is past = subst (IsDone end) (sym is) (inr (Any-push (λ m. end ≤ m) ns n past))

-- a number past the round is none of the round's
pub times-past : (c end n : ℕ) (ns : List ℕ) → c < end → end ≤ n → times c (ns ++ n ∷ []) ≡ times c ns
times-past c end n ns below past =
    let other : one_if (n == c) ≡ 0 = ap one_if (ne_eqb n c (λ (same : n ≡ c). omega (arith, same))) in
    omega (arith, times-append c ns (n ∷ []), other)

pub numbers_of-append : (pages more : List Numbered) → numbers_of (pages ++ more) ≡ numbers_of pages ++ numbers_of more
numbers_of-append [] more = refl
numbers_of-append (page ∷ pages) more = ap (λ ns. page.n ∷ ns) (numbers_of-append pages more)

pub length-numbers_of : (pages : List Numbered) → length (numbers_of pages) ≡ length pages
length-numbers_of [] = refl
length-numbers_of (page ∷ pages) = let rest = length-numbers_of pages in omega arith

-- the worker's view after it made one page more
pub made_page : (v : View) (made now : List Numbered) (page : Numbered) (base : ℕ) → v ≡ Worker (numbers_of made ++ page.n ∷ []) base →
    now ≡ made ++ page ∷ [] → v ≡ Worker (numbers_of now) base
made_page v made now page base is more =
    is ∙ ap (λ (ns : List ℕ). Worker ns base) (sym (ap numbers_of more ∙ numbers_of-append made (page ∷ [])))

-- a worker that made as many pages as it has claims, eight of them
pub worked_eight : (claims : Claims) (text : ℕ → List ℕ) (room : ℕ) (round : RoundClaims) (worker : RoundWorker) →
    length (numbers_of worker.bench.made.items) ≡ length worker.bench.made.items → IsSeatOf claims worker.seat →
    view worker.seat ≡ Worker (numbers_of worker.bench.made.items) round.base → All (IsPageOf text room round) worker.bench.made.items →
    length worker.bench.made.items ≡ 8 → length worker.bench.blank.items + length worker.bench.made.items ≡ 8 → All (HasRoom room) worker.bench.blank.items →
    8 ≤ vec_capacity worker.bench.blank → 8 ≤ vec_capacity worker.bench.made → HasWorked claims text room round worker
worked_eight claims text room round worker as_many seat knows made eight pages rooms blank_fit made_fit =
    let ns = numbers_of worker.bench.made.items in
    let same : numbers (view worker.seat) ≡ ns = ap numbers knows in
    record {
      seat = seat;
      knows = knows_numbers _ ns round.base knows;
      done = done_by_eight _ ns round.base round.end knows (as_many ∙ eight);
      few = omega (arith, ap length same, as_many, eight);
      made = made;
      each = λ c below. ap (times c) same;
      pages = pages;
      rooms = rooms;
      blank_fit = blank_fit;
      made_fit = made_fit;
    }

-- a worker that claimed one number past the round besides
pub worked_to_end : (claims : Claims) (text : ℕ → List ℕ) (room n : ℕ) (round : RoundClaims) (worker : RoundWorker) →
    length (numbers_of worker.bench.made.items) ≡ length worker.bench.made.items → IsSeatOf claims worker.seat →
    view worker.seat ≡ Worker (numbers_of worker.bench.made.items ++ n ∷ []) round.base → round.end ≤ n → All (IsPageOf text room round) worker.bench.made.items →
    length worker.bench.made.items < 8 → length worker.bench.blank.items + length worker.bench.made.items ≡ 8 → All (HasRoom room) worker.bench.blank.items →
    8 ≤ vec_capacity worker.bench.blank → 8 ≤ vec_capacity worker.bench.made → HasWorked claims text room round worker
worked_to_end claims text room n round worker as_many seat knows past made few pages rooms blank_fit made_fit =
    let ns = numbers_of worker.bench.made.items in
    let same : numbers (view worker.seat) ≡ ns ++ n ∷ [] = ap numbers knows in
    record {
      seat = seat;
      knows = knows_numbers _ (ns ++ n ∷ []) round.base knows;
      done = done_by_one_past _ ns round.base round.end n knows past;
      few = omega (arith, ap length same, length-append ns (n ∷ []), as_many, few);
      made = made;
      each = λ c below. ap (times c) same ∙ times-past c round.end n ns below past;
      pages = pages;
      rooms = rooms;
      blank_fit = blank_fit;
      made_fit = made_fit;
    }
