-- Each step keeps the rule of claims.
use Rattle.std.proofs.Common.{◌≡◌, ◌+◌, ◌-◌, ◌^◌, ◌<◌, ◌≤◌, ℕ, List, [], ◌∷◌, ◌++◌, ap, arith, length, length-append, refl, set, subst, sym, ◌∙◌}
use Rattle.std.specs.Prelude.{All}
use Rattle.std.specs.List.{flat_map}
use Rattle.std.proofs.lemmas.List.Concat.{length-flat_map}
use Rattle.std.proofs.lemmas.List.Elements.{All-nil, All-push, All-set, All-weaker}
use Rattle.std.proofs.lemmas.List.Sums.{sum_by_push}
use Rattle.atomic_table.proofs.Lists.{set_else}
use lib.ListN.{get_elem?}
use mathlib.Core.Option.{some}
use Rattle.range_workers.specs.declared.view.View.{View}
use Rattle.range_workers.specs.declared.view.View.TheVariants.{Caller, Spent, Worker}
use Rattle.range_workers.specs.Rule.{AreAllBelow, Fits, KeepsRule, times, workers}
use Rattle.range_workers.specs.Views.{is_caller, is_worker, numbers}
use Rattle.range_workers.proofs.NumberLemmas.{AreAllBelow-alike, AreAllBelow-more, length-changed, numbers-new_worker, times-append, times-changed}
use Rattle.range_workers.proofs.SeatLemmas.{All-seat, callers-changed, few_numbers, few_workers, fits-caller_changed, no_numbers, one_if, part_of_sum, workers-changed}

-- the word is far from the end of its type
pub word_bound : (word : ℕ) (views : List View) → KeepsRule word views → word ≤ 2 ^ 62 + 512
word_bound word views rule =
    omega (
      arith,
      rule.one_caller,
      rule.numbers.count,
      length-flat_map numbers views,
      few_numbers word (workers views) views rule.fits,
      few_workers word (workers views) views (omega (arith, rule.one_caller)) rule.fits,
    )

-- a word that is one more
pub Fits-more : (word out : ℕ) (view : View) → Fits word out view → Fits (word + 1) out view
Fits-more word out (Caller ns m) fit = fit
Fits-more word out (Worker ns from) fit = (omega (arith, fit.0), fit.1, fit.2)
Fits-more word out Spent fit = fit

-- a worker claims the number of the word
pub claim_keeps : (word id : ℕ) (views : List View) (ns : List ℕ) (from : ℕ) → KeepsRule word views → get_elem? views id ≡ some (Worker ns from) → length ns < 8 →
    KeepsRule (word + 1) (set views id (Worker (ns ++ word ∷ []) from))
claim_keeps word id views ns from rule at few =
    let before = Worker ns from in
    let after = Worker (ns ++ word ∷ []) from in
    let out = workers views in
    let same : workers (set views id after) ≡ out = omega (arith, workers-changed views id before after at) in
    let fit = All-seat (Fits word out) views id before at rule.fits in
    let fit' : Fits (word + 1) out after =
    (omega (arith, fit.0), All-push (λ n. from ≤ n) ns word fit.1 fit.0, omega (arith, few, length-append ns (word ∷ []))) in
    let fits = All-weaker (Fits word out) (Fits (word + 1) out) (Fits-more word out) views rule.fits in
    record {
      one_caller = omega (arith, rule.one_caller, callers-changed views id before after at);
      fits = subst (λ n. All (Fits (word + 1) n) (set views id after)) (sym same) (All-set (Fits (word + 1) out) views id after fit' fits);
      numbers = AreAllBelow-more word (flat_map numbers (set views id after)) (flat_map numbers views)
          (omega (arith, length-changed views id before after at, length-append ns (word ∷ [])))
          (λ x. omega (arith, times-changed x views id before after at, times-append x ns (word ∷ []))) rule.numbers;
    }

-- a worker's seat is cut off from the caller's
pub split_keeps : (word id : ℕ) (views : List View) (ns : List ℕ) (out : ℕ) → KeepsRule word views → get_elem? views id ≡ some (Caller ns out) → out < 64 →
    KeepsRule word (set views id (Caller ns (out + 1)) ++ Worker [] (length ns) ∷ [])
split_keeps word id views ns out rule at room =
    let before = Caller ns out in
    let after = Caller ns (out + 1) in
    let new = Worker [] (length ns) in
    let rest = set views id after in
    let fit = All-seat (Fits word (workers views)) views id before at rule.fits in
    let more : workers (rest ++ new ∷ []) ≡ out + 1 =
    omega (arith, fit.0, workers-changed views id before after at, sum_by_push (λ view. one_if (is_worker view)) rest new) in
    let short : length ns ≤ word =
    omega (arith, rule.numbers.count, length-flat_map numbers views, part_of_sum (λ view. length (numbers view)) views id before at) in
    let fit' : Fits word (out + 1) after = (refl, omega (arith, room), fit.2) in
    let new_fit : Fits word (out + 1) new = (short, All-nil (λ n. length ns ≤ n), omega arith) in
    let fits = fits-caller_changed word (workers views) (out + 1) id views ns out after at rule.one_caller rule.fits fit' in
    record {
      one_caller = omega (arith, rule.one_caller, callers-changed views id before after at, sum_by_push (λ view. one_if (is_caller view)) rest new);
      fits = subst (λ n. All (Fits word n) (rest ++ new ∷ [])) (sym more) (All-push (Fits word (out + 1)) rest new fits new_fit);
      numbers = subst (AreAllBelow word) (sym (numbers-new_worker rest (length ns)))
          (AreAllBelow-alike word (flat_map numbers rest) (flat_map numbers views) (omega (arith, length-changed views id before after at))
          (λ x. omega (arith, times-changed x views id before after at)) rule.numbers);
    }

-- a worker's numbers come back to the caller, and the worker's seat is spent
pub join_keeps : (word id other : ℕ) (views : List View) (ns ms : List ℕ) (out from : ℕ) → KeepsRule word views → get_elem? views id ≡ some (Caller ns out) →
    length ns ≤ 2 ^ 62 - 8 → ¬ (other ≡ id) → get_elem? (set views id (Caller (ns ++ ms) (out - 1))) other ≡ some (Worker ms from) →
    KeepsRule word (set (set views id (Caller (ns ++ ms) (out - 1))) other Spent)
join_keeps word id other views ns ms out from rule at room apart there =
    let before = Caller ns out in
    let after = Caller (ns ++ ms) (out - 1) in
    let worker = Worker ms from in
    let mid = set views id after in
    let was : get_elem? views other ≡ some worker = sym (set_else views id other after apart) ∙ there in
    let fit = All-seat (Fits word (workers views)) views id before at rule.fits in
    let worker_fit = All-seat (Fits word (workers views)) views other worker was rule.fits in
    let some_out : 1 ≤ workers views = part_of_sum (λ view. one_if (is_worker view)) views other worker was in
    let less : workers (set mid other Spent) ≡ out - 1 =
    omega (arith, fit.0, some_out, workers-changed views id before after at, workers-changed mid other worker Spent there) in
    let fit' : Fits word (out - 1) after = (refl, omega (arith, fit.1), omega (arith, room, worker_fit.2, length-append ns ms)) in
    let fits = fits-caller_changed word (workers views) (out - 1) id views ns out after at rule.one_caller rule.fits fit' in
    record {
      one_caller = omega (arith, rule.one_caller, callers-changed views id before after at, callers-changed mid other worker Spent there);
      fits = subst (λ n. All (Fits word n) (set mid other Spent)) (sym less) (All-set (Fits word (out - 1)) mid other Spent tt fits);
      numbers = AreAllBelow-alike word (flat_map numbers (set mid other Spent)) (flat_map numbers views)
          (omega (arith, length-changed views id before after at, length-changed mid other worker Spent there, length-append ns ms))
          (λ x. omega (arith, times-changed x views id before after at, times-changed x mid other worker Spent there, times-append x ns ms))
          rule.numbers;
    }

-- with no worker out, the caller has all numbers below the word
pub alone_has_all : (word id : ℕ) (views : List View) (ns : List ℕ) → KeepsRule word views → get_elem? views id ≡ some (Caller ns 0) → AreAllBelow word ns
alone_has_all word id views ns rule at =
    let caller = Caller ns 0 in
    let fit = All-seat (Fits word (workers views)) views id caller at rule.fits in
    let others = set views id Spent in
    let none : flat_map numbers others ≡ [] =
    no_numbers others (omega (arith, rule.one_caller, callers-changed views id caller Spent at)) (omega (arith, fit.0, workers-changed views id caller Spent at)) in
    AreAllBelow-alike word ns (flat_map numbers views)
    (omega (arith, ap length none, length-changed views id caller Spent at))
    (λ x. omega (arith, ap (times x) none, times-changed x views id caller Spent at)) rule.numbers
