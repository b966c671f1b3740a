-- The steps of a claim table, as a table asks for them.
use Rattle.std.proofs.Common.{◌≡◌, ◌+◌, ◌%◌, ◌^◌, ℕ, List, [], ◌∷◌, ◌++◌, arith, length, refl, set, subst, sym, ◌∙◌}
use Rattle.std.specs.Prelude.{slice_index}
use Rattle.atomic_table.proofs.Lists.{set_again}
use Rattle.atomic_table.specs.Table.{Allows, Joins, Splits, keeps}
use lib.ListN.{get_elem?}
use mathlib.Core.Option.{some}
use Rattle.range_workers.specs.declared.view.View.{View}
use Rattle.range_workers.specs.declared.view.View.TheVariants.{Caller, Spent, Worker}
use Rattle.range_workers.specs.Rule.{Fits, IsKept, KeepsRule, workers}
use Rattle.range_workers.specs.Steps.{TellsAll, TellsNumber}
use Rattle.range_workers.specs.Views.{CanClaim, CanJoin, CanSplit, IsAlone, joined, new_worker, with_worker}
use Rattle.range_workers.proofs.RuleLemmas.{alone_has_all, claim_keeps, join_keeps, split_keeps, word_bound}
use Rattle.range_workers.proofs.SeatLemmas.{All-seat}

-- one word, in the place of which another one is set
pub one_word_set : (words : List ℕ) (m : ℕ) → length words ≡ 1 → (length (set words 0 m) ≡ 1) × (slice_index (set words 0 m) 0 ≡ m)
one_word_set [] m one = absurd (omega (arith, one))
one_word_set (word ∷ words) m one = (one, refl)

pub kept_after : (words : List ℕ) (m n : ℕ) (homes : _) (views : List View) → length words ≡ 1 → m ≡ n → KeepsRule n views →
    IsKept (record { words = set words 0 m; homes = homes; views = views })
kept_after words m n homes views one same rule =
    let there = one_word_set words m one in
    record { one_word = there.0; rule = subst (λ word. KeepsRule word views) (sym (there.1 ∙ same)) rule }

pub claim_allowed : (slots id : ℕ) (view : View) (carried : List (ℕ × Unit {0})) → CanClaim view →
    Allows IsKept slots id (view, carried) 0 (λ n. (n + 1) % 2 ^ 64) (TellsNumber (view, carried))
claim_allowed slots id (Caller ns out) carried can = absurd can
claim_allowed slots id (Worker ns from) carried can = λ state kept homes at small.
    let word = slice_index state.words 0 in
    let next : (word + 1) % 2 ^ 64 ≡ word + 1 = omega (arith, word_bound word state.views kept.rule) in
    let rule = claim_keeps word id state.views ns from kept.rule at can in
    let fit = All-seat (Fits word (workers state.views)) state.views id (Worker ns from) at kept.rule.fits in (
      Worker (ns ++ word ∷ []) from,
      keeps,
      tt,
      kept_after state.words ((word + 1) % 2 ^ 64) (word + 1) state.homes _ kept.one_word next rule,
      record { number = refl; from = fit.0; slots = refl },
    )
claim_allowed slots id Spent carried can = absurd can

pub read_allowed : (slots id : ℕ) (view : View) (carried : List (ℕ × Unit {0})) → IsAlone view →
    Allows IsKept slots id (view, carried) 0 (λ n. n) (TellsAll (view, carried))
read_allowed slots id (Caller ns out) carried none = λ state kept homes at small.
    let word = slice_index state.words 0 in
    let same : set state.views id (Caller ns out) ≡ state.views = set_again state.views id (Caller ns out) at in
    let rule = subst (KeepsRule word) (sym same) kept.rule in
    let alone = subst (λ m. get_elem? state.views id ≡ some (Caller ns m)) none at in (
      Caller ns out,
      keeps,
      tt,
      kept_after state.words word word state.homes _ kept.one_word refl rule,
      record { same = refl; all = alone_has_all word id state.views ns kept.rule alone; slots = refl },
    )
read_allowed slots id (Worker ns from) carried none = absurd none
read_allowed slots id Spent carried none = absurd none

pub split_allowed : (id : ℕ) (view : View) → CanSplit view → Splits IsKept id view (with_worker view) (new_worker view)
split_allowed id (Caller ns out) can = λ state kept at.
    record { one_word = kept.one_word; rule = split_keeps _ id state.views ns out kept.rule at can }
split_allowed id (Worker ns from) can = absurd can
split_allowed id Spent can = absurd can

pub join_allowed : (id other : ℕ) (caller worker : View) → CanJoin caller worker → Joins IsKept id caller other worker (joined caller worker) Spent
join_allowed id other (Caller ns out) (Worker ms from) can = λ state kept at apart there.
    record { one_word = kept.one_word; rule = join_keeps _ id other state.views ns ms out from kept.rule at can apart there }
join_allowed id other (Caller ns out) (Caller ms m) can = absurd can
join_allowed id other (Caller ns out) Spent can = absurd can
join_allowed id other (Worker ns from) worker can = absurd can
join_allowed id other Spent worker can = absurd can
