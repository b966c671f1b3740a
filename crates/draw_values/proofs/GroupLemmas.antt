-- The groups that the draws of a run choose.
use Rattle.std.proofs.Common.{◌≡◌, ◌<◌, ◌≤◌, ◌%◌, ℕ, List, All, get_or, length, map, sum, ap, subst, sym, ◌∙◌, arith}
use Rattle.std.proofs.lemmas.List.{get_or-map, length-map}
use Rattle.weight_tables.specs.Weights.{selected}
use Rattle.weight_tables.proofs.SelectionLemmas.{Selects-selected}
use Rattle.draw_values.specs.Values.{chosen_group}

pub remainders_below : (n : ℕ) → 1 ≤ n → (draws : List ℕ) → All (λ x. x < n) (map (λ x. x % n) draws)
remainders_below n some draws = λ k d within.
    let inside : k < length draws = omega (arith, within, length-map draws (λ (x : ℕ). x % n)) in
    let below : get_or draws k 0 % n < n = omega arith in
    subst (λ (x : ℕ). x < n) (sym (get_or-map (λ (x : ℕ). x % n) draws k 0 d inside)) below

-- the group of the draw at a place
pub group_at : (weights draws : List ℕ) (i : ℕ) → i < length draws →
    get_or (map (selected weights) (map (λ x. x % sum weights) draws)) i 0 ≡ chosen_group weights (get_or draws i 0)
group_at weights draws i within =
    get_or-map (selected weights) (map (λ x. x % sum weights) draws) i 0 0 (omega (arith, length-map draws (λ (x : ℕ). x % sum weights)))
    ∙ ap (selected weights) (get_or-map (λ (x : ℕ). x % sum weights) draws i 0 0 within)

pub group_within : (weights : List ℕ) (draw : ℕ) → 1 ≤ sum weights → chosen_group weights draw < length weights
group_within weights draw some =
    let below : draw % sum weights < sum weights = omega arith in (Selects-selected weights (draw % sum weights) below).within
