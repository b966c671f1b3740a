-- The places that leave a remainder, and the rows that have them.
use Rattle.std.proofs.Common.{◌≡◌, ℕ, ◌+◌, ◌-◌, ◌%◌, ◌<◌, ◌≤◌, min, Bool, List, [], ◌∷◌, ◌++◌, eq-eqb, filter, map, refl, ap, ap₂, arith, sym, ◌∙◌}
use Rattle.std.specs.Prelude.{◌==◌}
use Rattle.std.specs.List.{range_with_len}
use Rattle.std.specs.List.Sorted.{IsPermutation}
use Rattle.std.proofs.lemmas.List.{append_assoc}
use Rattle.std.proofs.lemmas.List.Elements.{filter-append}
use Rattle.id_permutation.specs.Order.{Arrangement, number_at, place_in}
use Rattle.id_permutation.proofs.OrderLaws.{AreInversesBelow-number_at}
use Rattle.cohort_sizes.specs.Births.{cohort_size, first_ordinal}
use Rattle.schema_facts.specs.Dictionaries.{Project}
use Rattle.life_intervals.specs.declared.orders.Purpose.{Purpose}
use Rattle.life_intervals.specs.CohortOrders.{order_for, place_for}
use Rattle.life_intervals.specs.FoundAt.{places_leaving, row_at_place, rows_leaving}
use Rattle.life_intervals.specs.Generator.{table_of}
use Rattle.life_intervals.proofs.BlockLemmas.{between, filter-range_none, mod-smaller}
use Rattle.life_intervals.proofs.PermutationLemmas.{IsPermutation-by_places, differs}
use Rattle.life_intervals.proofs.Ranges.{range_with_len-add}

module _ (modulus remainder : ℕ) (below : remainder < modulus) where
  abbrev leaves : ℕ → Bool
  leaves place = place % modulus == remainder

  -- none comes before the remainder itself
  pub leaving-first : (size : ℕ) → [] ≡ places_leaving modulus remainder (min size remainder)
  leaving-first size = sym (filter-range_none leaves 0 (min size remainder) (λ place low high.
      differs (place % modulus) remainder (λ same. absurd (omega (arith, same, high, below, mod-smaller modulus place (omega (arith, high, below)))))))

  -- and none between one and the next
  pub leaving-next : (size place : ℕ) → place % modulus ≡ remainder → place < size →
      places_leaving modulus remainder (min size (place + modulus)) ≡ places_leaving modulus remainder (min size place) ++ place ∷ []
  leaving-next size place own inside =
      let rest : ℕ = min size (place + modulus) - (place + 1) in
      let whole : min size (place + modulus) ≡ place + (1 + rest) = omega (arith, inside, below) in
      let front : place ≡ min size place = omega (arith, inside) in
      let start : 0 + place ≡ place = omega arith in
      let one : filter leaves (range_with_len place 1) ≡ place ∷ [] = rw (eq-eqb (place % modulus) remainder own) refl in
      let none : filter leaves (range_with_len (place + 1) rest) ≡ [] = filter-range_none leaves (place + 1) rest (λ other low high.
      differs (other % modulus) remainder (λ same. absurd (between modulus place other (omega (arith, low)) (omega (arith, high, inside, below)) (same ∙ sym own)))) in
      ap (λ (n : ℕ). filter leaves (range_with_len 0 n)) whole
      ∙ ap (filter leaves) (range_with_len-add 0 place (1 + rest) ∙ ap (λ (a : ℕ). range_with_len 0 place ++ range_with_len a (1 + rest)) start)
      ∙ filter-append leaves (range_with_len 0 place) (range_with_len place (1 + rest))
      ∙ ap₂ (λ (n : ℕ) (ys : List ℕ). filter leaves (range_with_len 0 n) ++ ys) front
      (ap (filter leaves) (range_with_len-add place 1 rest)
      ∙ filter-append leaves (range_with_len place 1) (range_with_len (place + 1) rest)
      ∙ ap₂ (λ (ys zs : List ℕ). ys ++ zs) one none)

  -- one more is put after a list
  pub leaving-push : (size place : ℕ) (before between after : List ℕ) → place % modulus ≡ remainder → place < size →
      between ≡ before ++ places_leaving modulus remainder (min size place) → after ≡ between ++ place ∷ [] → after ≡ before ++ places_leaving modulus remainder (min size (place + modulus))
  leaving-push size place before between after own inside so_far put =
      put
      ∙ ap (λ (xs : List ℕ). xs ++ place ∷ []) so_far
      ∙ append_assoc before (places_leaving modulus remainder (min size place)) (place ∷ [])
      ∙ ap (λ (xs : List ℕ). before ++ xs) (sym (leaving-next size place own inside))

  -- none is left from the size on
  pub leaving-all : (size place : ℕ) → size ≤ place → places_leaving modulus remainder (min size place) ≡ places_leaving modulus remainder size
  leaving-all size place past = let whole : min size place ≡ size = omega (arith, past) in ap (places_leaving modulus remainder) whole

-- the rows whose places leave a remainder, by these
pub rows_leaving-places : (plan : Project) (table : ℕ) (purpose : Purpose) (born modulus remainder : ℕ) →
    IsPermutation (rows_leaving plan table purpose born modulus remainder) (map (row_at_place plan table purpose born) (places_leaving modulus remainder (cohort_size (table_of plan table).births born)))
rows_leaving-places plan table purpose born modulus remainder =
    let order : Arrangement = order_for plan table purpose born in
    let first : ℕ = first_ordinal (table_of plan table).births born in
    IsPermutation-by_places first (cohort_size (table_of plan table).births born) (place_in order) (number_at order) (AreInversesBelow-number_at order)
    (λ ordinal. place_for plan table purpose born ordinal % modulus == remainder) (λ place. place % modulus == remainder)
    (λ index inside. let same : first + index - first ≡ index = omega arith in ap (λ (i : ℕ). place_in order i % modulus == remainder) same)
