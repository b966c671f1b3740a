-- How many candidates a unit has, and what it costs to find and to tell them.
use Rattle.std.proofs.Common.{◌≡◌, ℕ, ◌+◌, ◌*◌, ◌≤◌, not, List, [], ◌∷◌, count_by, length, length-append, sum_by, arith, refl, ap, ap₂, sym, ◌∙◌}
use Rattle.std.specs.List.{range_with_len}
use Rattle.std.proofs.lemmas.List.Filters.{sum_by-filter_both}
use Rattle.std.proofs.lemmas.List.Sums.{length-filter, sum_by-cons}
use Rattle.schema_model.specs.declared.column.OnDelete.TheVariants.{Cascade, Null}
use Rattle.schema_facts.specs.Dictionaries.{Project}
use Rattle.schema_facts.specs.Layout.{layout_of}
use Rattle.schema_facts.specs.Lineage.{death_cost}
use Rattle.schema_facts.specs.References.{Reference, references_of}
use Rattle.schema_facts.specs.TableFacts.{cost, line_cost}
use Rattle.life_intervals.specs.Generator.{table_of}
use Rattle.update_box.specs.Candidates.{born_before, candidates, ends_at, is_due_at, looked_at_to_delete, looked_at_to_update, loses_at, losing, losing_by, pairs, pairs_to_delete, pairs_to_update, references_on}
use Rattle.update_box.proofs.RangeLemmas.{sum_by-range_le, sum_by-range_more}

-- how many rows lose a parent by a reference
abbrev pub lost : Project → ℕ → ℕ → Reference → ℕ
lost plan table t reference = count_by (loses_at plan table t reference) (born_before plan table t)

pub length-losing_by : (plan : Project) (table t : ℕ) (references : List Reference) → length (losing_by plan table t references) ≡ sum_by (lost plan table t) references
length-losing_by plan table t [] = refl
length-losing_by plan table t (reference ∷ others) =
    length-append (losing plan table t reference) (losing_by plan table t others)
    ∙ ap₂ (λ (a b : ℕ). a + b) (length-filter (loses_at plan table t reference) (born_before plan table t)) (length-losing_by plan table t others)
    ∙ sym (sum_by-cons (lost plan table t) reference others)

-- the candidates are those that are looked at for deletions, and those for updates
candidates-are : (plan : Project) (table t : ℕ) →
    candidates plan table t ≡ looked_at_to_delete plan table t + pairs_to_delete plan table t + (looked_at_to_update plan table t + pairs_to_update plan table t)
candidates-are plan table t =
    omega (
      arith,
      length-filter (ends_at plan table t) (born_before plan table t),
      length-filter (is_due_at plan table t) (born_before plan table t),
      length-losing_by plan table t (references_on Cascade (table_of plan table)),
      length-losing_by plan table t (references_on Null (table_of plan table)),
      sum_by-filter_both (λ (reference : Reference). reference.nulls) (λ (reference : Reference). not reference.nulls) (λ reference. refl) (lost plan table t) (references_of (table_of plan table)),
      sum_by-filter_both (λ (reference : Reference). reference.nulls) (λ (reference : Reference). not reference.nulls) (λ reference. refl) (pairs plan table t) (references_of (table_of plan table)),
    )

-- a row costs one step to find and at most the cost of a death to tell, and a pair one step: both are within the cost of a row
weighed : (a p b q n D L : ℕ) → n ≡ a + p + (b + q) → a * (1 + D) + p + (b * (1 + D) + q) ≤ (1 + D + L) * n
weighed a p b q n D L is = omega (arith, ap (λ (m : ℕ). (1 + D + L) * m) is)

pub changes-cost : (plan : Project) (table t : ℕ) →
    looked_at_to_delete plan table t * (1 + death_cost (layout_of plan).tables table) + pairs_to_delete plan table t
    + (looked_at_to_update plan table t * (1 + death_cost (layout_of plan).tables table) + pairs_to_update plan table t)
    ≤ cost (layout_of plan) table * candidates plan table t
changes-cost plan table t =
    weighed (looked_at_to_delete plan table t) (pairs_to_delete plan table t) (looked_at_to_update plan table t) (pairs_to_update plan table t) (candidates plan table t)
    (death_cost (layout_of plan).tables table) (line_cost (layout_of plan) table) (candidates-are plan table t)

-- what the tables before one cost
abbrev pub cost_before : Project → ℕ → ℕ → ℕ
cost_before plan t place = sum_by (λ place. cost (layout_of plan) place * candidates plan place t) (range_with_len 0 place)

pub cost_before-next : (plan : Project) (t place : ℕ) → cost_before plan t (place + 1) ≡ cost_before plan t place + cost (layout_of plan) place * candidates plan place t
cost_before-next plan t place =
    sum_by-range_more (λ place. cost (layout_of plan) place * candidates plan place t) place

pub cost_before-le : (plan : Project) (t place count : ℕ) → place ≤ count → cost_before plan t place ≤ cost_before plan t count
cost_before-le plan t place count within =
    sum_by-range_le (λ place. cost (layout_of plan) place * candidates plan place t) place count within
