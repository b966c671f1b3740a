-- The greatest line of an accepted schema's tables.
use Rattle.std.proofs.Common.{ℕ, zero, suc, ◌<◌, ◌≤◌, List, [], ◌∷◌, fold, get_or, length, max, ap, arith, subst}
use Rattle.std.proofs.lemmas.List.{get_or_default}
use Rattle.schema_facts.specs.Dictionaries.{Project}
use Rattle.schema_facts.specs.Layout.{TableLayout, layout_of, no_table}
use Rattle.schema_plan.specs.Limits.{IsInLimits}
use Rattle.schema_facts.specs.TableFacts.{line_of_table, max_line, reach}
use Rattle.life_intervals.proofs.AcceptedLemmas.{length-tables}
use Rattle.update_box.proofs.ShareLawLemmas.{key_line-reach}

fold-most : {A : Type 0} (number : A → ℕ) (most : ℕ) (xs : List A) (a : ℕ) → a ≤ most → ((i : ℕ) (d : A) → i < length xs → number (get_or xs i d) ≤ most) →
    fold (λ m x. max m (number x)) a xs ≤ most
fold-most number most [] a from each = from
fold-most number most (x ∷ xs) a from each =
    fold-most number most xs (max a (number x)) (omega (arith, from, each zero x (omega arith))) (λ i d within. each (suc i) d (omega (arith, within)))

pub reach-few : (plan : Project) → IsInLimits plan → reach (layout_of plan) ≤ 65536
unfolding reach max_line
reach-few plan limits =
    let line : TableLayout → ℕ = line_of_table (layout_of plan) in
    fold-most line 65536 (layout_of plan).tables 0 (omega arith)
    (λ i d within. subst (λ (n : ℕ). n ≤ 65536) (ap line (get_or_default (layout_of plan).tables i no_table d within)) (limits.lines i (omega (arith, within, length-tables plan))))

pub reach-some : (plan : Project) → IsInLimits plan → 1 ≤ reach (layout_of plan)
reach-some plan limits = omega (arith, key_line-reach plan limits)
