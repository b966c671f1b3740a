-- Numbers in lists and in views: how many there are, and how often each stands there.
use Rattle.std.proofs.Common.{◌≡◌, ◌+◌, ◌==◌, ℕ, List, [], ◌∷◌, ◌++◌, append-nil, arith, length, refl, set, ◌∙◌}
use Rattle.std.specs.Prelude.{if◌then◌else◌, sum_by}
use Rattle.std.specs.List.{flat_map}
use Rattle.std.proofs.lemmas.Bool.Decides.{nat_tests}
use Rattle.std.proofs.lemmas.List.Concat.{flat_map-append, length-flat_map}
use Rattle.std.proofs.lemmas.List.Sums.{sum_by-append, sum_by-cons}
use lib.ListN.{get_elem?}
use mathlib.Core.Option.{some}
use Rattle.range_workers.specs.declared.view.View.{View}
use Rattle.range_workers.specs.declared.view.View.TheVariants.{Worker}
use Rattle.range_workers.specs.Rule.{AreAllBelow, once_below, times}
use Rattle.range_workers.specs.Views.{numbers}
use Rattle.range_workers.proofs.SeatLemmas.{sum_by-changed}

pub times-append : (x : ℕ) (ms ns : List ℕ) → times x (ms ++ ns) ≡ times x ms + times x ns
times-append x = sum_by-append (λ n. if n == x then 1 else 0)

pub times-numbers : (x : ℕ) (views : List View) → times x (flat_map numbers views) ≡ sum_by (λ view. times x (numbers view)) views
times-numbers x [] = refl
times-numbers x (view ∷ views) =
    omega (arith, times-append x (numbers view) (flat_map numbers views), times-numbers x views, sum_by-cons (λ v. times x (numbers v)) view views)

-- the numbers in all views after a change of one
pub length-changed : (views : List View) (id : ℕ) (v w : View) → get_elem? views id ≡ some v →
    length (flat_map numbers (set views id w)) + length (numbers v) ≡ length (flat_map numbers views) + length (numbers w)
length-changed views id v w at =
    omega (arith, sum_by-changed (λ u. length (numbers u)) views id v w at, length-flat_map numbers views, length-flat_map numbers (set views id w))

pub times-changed : (x : ℕ) (views : List View) (id : ℕ) (v w : View) → get_elem? views id ≡ some v →
    times x (flat_map numbers (set views id w)) + times x (numbers v) ≡ times x (flat_map numbers views) + times x (numbers w)
times-changed x views id v w at =
    omega (arith, sum_by-changed (λ u. times x (numbers u)) views id v w at, times-numbers x views, times-numbers x (set views id w))

-- a new worker has none
pub numbers-new_worker : (views : List View) (from : ℕ) → flat_map numbers (views ++ Worker [] from ∷ []) ≡ flat_map numbers views
numbers-new_worker views from = flat_map-append numbers views (Worker [] from ∷ []) ∙ append-nil (flat_map numbers views)

-- a list with as many of each number
pub AreAllBelow-alike : (n : ℕ) (ms ns : List ℕ) → length ms ≡ length ns → ((x : ℕ) → times x ms ≡ times x ns) → AreAllBelow n ns → AreAllBelow n ms
AreAllBelow-alike n ms ns long often all = record { count = long ∙ all.count; each_once = λ x. often x ∙ all.each_once x }

pub once_below-more : (x n : ℕ) → once_below (n + 1) x ≡ once_below n x + times x (n ∷ [])
once_below-more x n = grind (arith, nat_tests)

-- a list with the next number besides
pub AreAllBelow-more : (n : ℕ) (ms ns : List ℕ) → length ms ≡ length ns + 1 → ((x : ℕ) → times x ms ≡ times x ns + times x (n ∷ [])) → AreAllBelow n ns →
    AreAllBelow (n + 1) ms
AreAllBelow-more n ms ns long often all = record {
  count = omega (arith, long, all.count);
  each_once = λ x. omega (arith, often x, all.each_once x, once_below-more x n);
}
