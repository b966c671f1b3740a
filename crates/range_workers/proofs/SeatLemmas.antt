-- The views of seats: sums over them, and what fits each.
use Rattle.std.proofs.Common.{◌≡◌, ◌+◌, ◌*◌, ◌^◌, ◌<◌, ◌≤◌, ℕ, zero, suc, Bool, List, [], ◌∷◌, ◌++◌, ap, arith, length, refl, set, subst, sym}
use Rattle.std.specs.Prelude.{All, if◌then◌else◌, slice_index_or, sum_by}
use Rattle.std.specs.List.{flat_map}
use Rattle.std.proofs.lemmas.List.Elements.{All-cons, All-get_or, All-head, All-nil, All-set, All-tail}
use Rattle.std.proofs.lemmas.List.Sums.{get_or-le-sum_by, sum_by-cons, sum_by-set}
use lib.ListN.{get_elem?}
use mathlib.Core.Option.{some, some-injective, some-ne-none}
use Rattle.range_workers.specs.declared.view.View.{View}
use Rattle.range_workers.specs.declared.view.View.TheVariants.{Caller, Spent, Worker}
use Rattle.range_workers.specs.Rule.{Fits, callers, workers}
use Rattle.range_workers.specs.Views.{is_caller, is_worker, numbers}

pub place_of_seat : {X : Type 0} (xs : List X) (id : ℕ) (x : X) → get_elem? xs id ≡ some x → (id < length xs) × (slice_index_or xs id x ≡ x)
place_of_seat [] id x at = absurd (some-ne-none x (sym at))
place_of_seat (y ∷ xs) zero x at = (omega arith, some-injective y x at)
place_of_seat (y ∷ xs) (suc id) x at = let there = place_of_seat xs id x at in (omega (arith, there.0), there.1)

-- a sum after a change of one seat
pub sum_by-changed : {X : Type 0} (f : X → ℕ) (xs : List X) (id : ℕ) (x y : X) → get_elem? xs id ≡ some x → sum_by f (set xs id y) + f x ≡ sum_by f xs + f y
sum_by-changed f xs id x y at =
    let there = place_of_seat xs id x at in
    let here : f (slice_index_or xs id x) ≡ f x = ap f there.1 in
    omega (arith, sum_by-set f xs id y x there.0, here)

pub part_of_sum : {X : Type 0} (f : X → ℕ) (xs : List X) (id : ℕ) (x : X) → get_elem? xs id ≡ some x → f x ≤ sum_by f xs
part_of_sum f xs id x at =
    let there = place_of_seat xs id x at in
    let here : f (slice_index_or xs id x) ≡ f x = ap f there.1 in
    omega (arith, get_or-le-sum_by f xs id x there.0, here)

pub All-seat : {X : Type 0} (P : X → Type 0) (xs : List X) (id : ℕ) (x : X) → get_elem? xs id ≡ some x → All P xs → P x
All-seat P xs id x at all = let there = place_of_seat xs id x at in subst P there.1 (All-get_or P xs id x there.0 all)

pub set-set : {X : Type 0} (xs : List X) (id : ℕ) (x y : X) → set (set xs id x) id y ≡ set xs id y
set-set [] id x y = refl
set-set (z ∷ xs) zero x y = refl
set-set (z ∷ xs) (suc id) x y = ap (λ ys. z ∷ ys) (set-set xs id x y)

-- how many views are the caller's, and how many are workers'
abbrev pub one_if : Bool → ℕ
one_if b = if b then 1 else 0

pub callers-cons : (view : View) (views : List View) → callers (view ∷ views) ≡ one_if (is_caller view) + callers views
callers-cons = sum_by-cons (λ view. one_if (is_caller view))

pub workers-cons : (view : View) (views : List View) → workers (view ∷ views) ≡ one_if (is_worker view) + workers views
workers-cons = sum_by-cons (λ view. one_if (is_worker view))

pub callers-changed : (views : List View) (id : ℕ) (v w : View) → get_elem? views id ≡ some v →
    callers (set views id w) + one_if (is_caller v) ≡ callers views + one_if (is_caller w)
callers-changed = sum_by-changed (λ view. one_if (is_caller view))

pub workers-changed : (views : List View) (id : ℕ) (v w : View) → get_elem? views id ≡ some v →
    workers (set views id w) + one_if (is_worker v) ≡ workers views + one_if (is_worker w)
workers-changed = sum_by-changed (λ view. one_if (is_worker view))

-- how many workers there are is nothing to a worker
pub fits_without_caller : (word a b : ℕ) (views : List View) → callers views ≡ 0 → All (Fits word a) views → All (Fits word b) views
fits_without_caller word a b [] none fits = All-nil (Fits word b)
fits_without_caller word a b (Caller ns out ∷ views) none fits = absurd (omega (arith, none, callers-cons (Caller ns out) views))
fits_without_caller word a b (Worker ns from ∷ views) none fits =
    All-cons (Fits word b) (Worker ns from) views (All-head (Fits word a) (Worker ns from) views fits)
    (fits_without_caller word a b views none (All-tail (Fits word a) (Worker ns from) views fits))
fits_without_caller word a b (Spent ∷ views) none fits =
    All-cons (Fits word b) Spent views tt (fits_without_caller word a b views none (All-tail (Fits word a) Spent views fits))

-- the caller's view changes, and with it how many workers there are
pub fits-caller_changed : (word a b id : ℕ) (views : List View) (ns : List ℕ) (out : ℕ) (w : View) → get_elem? views id ≡ some (Caller ns out) → callers views ≡ 1 →
    All (Fits word a) views → Fits word b w → All (Fits word b) (set views id w)
fits-caller_changed word a b id views ns out w at one fits fit =
    let others = set views id Spent in
    let none : callers others ≡ 0 = omega (arith, one, callers-changed views id (Caller ns out) Spent at) in
    let they = fits_without_caller word a b others none (All-set (Fits word a) views id Spent tt fits) in
    subst (All (Fits word b)) (set-set views id Spent w) (All-set (Fits word b) others id w fit they)

-- at most 64 workers are out
pub few_workers : (word out : ℕ) (views : List View) → 1 ≤ callers views → All (Fits word out) views → out ≤ 64
few_workers word out [] one fits = absurd (omega (arith, one))
few_workers word out (Caller ns m ∷ views) one fits = let fit = All-head (Fits word out) (Caller ns m) views fits in omega (arith, fit.0, fit.1)
few_workers word out (Worker ns from ∷ views) one fits = few_workers word out views one (All-tail (Fits word out) (Worker ns from) views fits)
few_workers word out (Spent ∷ views) one fits = few_workers word out views one (All-tail (Fits word out) Spent views fits)

-- how many numbers there are at most
pub few_numbers : (word out : ℕ) (views : List View) → All (Fits word out) views →
    sum_by (λ view. length (numbers view)) views ≤ 2 ^ 62 * callers views + 8 * workers views
few_numbers word out [] fits = omega arith
few_numbers word out (view ∷ views) fits =
    omega (
      arith,
      long view (All-head (Fits word out) view views fits),
      few_numbers word out views (All-tail (Fits word out) view views fits),
      sum_by-cons (λ v. length (numbers v)) view views,
      callers-cons view views,
      workers-cons view views,
    )
  where
    long : (view : View) → Fits word out view → length (numbers view) ≤ 2 ^ 62 * one_if (is_caller view) + 8 * one_if (is_worker view)
    long (Caller ns m) fit = fit.2
    long (Worker ns from) fit = fit.2
    long Spent fit = omega arith

-- with neither a caller nor a worker there is no number
pub no_numbers : (views : List View) → callers views ≡ 0 → workers views ≡ 0 → flat_map numbers views ≡ []
no_numbers [] a b = refl
no_numbers (Caller ns out ∷ views) a b = absurd (omega (arith, a, callers-cons (Caller ns out) views))
no_numbers (Worker ns from ∷ views) a b = absurd (omega (arith, b, workers-cons (Worker ns from) views))
no_numbers (Spent ∷ views) a b = no_numbers views a b

-- a seat between others
pub seat_between : {X : Type 0} (front back : List X) (x : X) → get_elem? (front ++ x ∷ back) (length front) ≡ some x
seat_between [] back x = refl
seat_between (y ∷ front) back x = seat_between front back x
