-- The candidates of a unit: those of a cohort, and which they are.
use Rattle.std.proofs.Common.{◌≡◌, ℕ, ◌+◌, ◌==◌, ◌<◌, ◌≤◌, Bool, true, false, ◌&&◌, ◌||◌, List, [], ◌∷◌, ◌++◌, length, length-append, filter, arith, refl, ap, ap₂, subst, sym, ◌∙◌}
use Rattle.std.specs.Prelude.{All}
use Rattle.std.specs.List.{list_any, range_with_len}
use Rattle.std.specs.List.Sorted.{IsPermutation, IsStrictlyIncreasing}
use Rattle.std.proofs.lemmas.List.Elements.{All-append, All-filter}
use Rattle.std.proofs.lemmas.List.Folds.{list_any-append}
use Rattle.std.proofs.lemmas.List.Kept.{IsStrictlyIncreasing-filter}
use Rattle.std.proofs.lemmas.List.Sorted.{All-permutation, length_permutation, list_any-IsPermutation}
use Rattle.cohort_sizes.specs.Births.{cohort_size, first_ordinal}
use Rattle.schema_facts.specs.Dictionaries.{Project}
use Rattle.schema_facts.specs.References.{Reference}
use Rattle.life_intervals.specs.Generator.{generator_of, table_of}
use Rattle.update_box.specs.Candidates.{born_before, is_due_at, is_young, loses_at, losing, losing_by}
use Rattle.update_box.specs.Ordinals.{is_one_of}
use Rattle.life_intervals.specs.FoundAt.{AreAppended, due_at, due_unit}
use Rattle.life_intervals.proofs.AppendLemmas.{AreAppended-more}
use Rattle.update_box.proofs.AppendedLemmas.{AreAppended-alone}
use Rattle.update_box.proofs.BornLemmas.{filter-cohort_same, of_cohort}
use Rattle.update_box.proofs.OrdinalLemmas.{all-one_of, all-pieces, below-range, list_any-same, one_of-all, one_of-filter, one_of-pieces, one_of-range, rising-filter}

-- ---- of one cohort

-- those that are due are young where the cohort is, and else there are none
pub due-young : (plan : Project) (table born unit : ℕ) → born ≤ unit → is_young plan table born unit ≡ true →
    of_cohort (is_due_at plan table unit) (table_of plan table).births born ≡ due_at plan table born unit
due-young plan table born unit within young =
    filter-cohort_same (is_due_at plan table unit) (λ ordinal. due_unit (generator_of plan) table unit ordinal == unit) (table_of plan table).births born unit within
    (λ ordinal low high at. ap (λ (b : Bool). b && due_unit (generator_of plan) table unit ordinal == unit) (ap (λ (at : ℕ). is_young plan table at unit) at ∙ young))

filter-none : (xs : List ℕ) → filter (λ x. false) xs ≡ []
filter-none [] = refl
filter-none (x ∷ xs) = filter-none xs

pub due-old : (plan : Project) (table born unit : ℕ) → born ≤ unit → is_young plan table born unit ≡ false →
    of_cohort (is_due_at plan table unit) (table_of plan table).births born ≡ []
due-old plan table born unit within old =
    filter-cohort_same (is_due_at plan table unit) (λ ordinal. false) (table_of plan table).births born unit within
    (λ ordinal low high at. ap (λ (b : Bool). b && due_unit (generator_of plan) table unit ordinal == unit) (ap (λ (at : ℕ). is_young plan table at unit) at ∙ old))
    ∙ filter-none (range_with_len (first_ordinal (table_of plan table).births born) (cohort_size (table_of plan table).births born))

-- ---- those of a test and of some references

module _ (plan : Project) (table t : ℕ) (test : ℕ → Bool) (references : List Reference) where
  abbrev count : ℕ
  count = first_ordinal (table_of plan table).births t

  -- the rows that are looked at: those that pass, and those that lose a parent by one of the references
  abbrev pub looked_at : List ℕ
  looked_at = filter test (born_before plan table t) ++ losing_by plan table t references

  abbrev pub is_looked_at : ℕ → Bool
  is_looked_at ordinal = test ordinal || list_any (λ reference. loses_at plan table t reference ordinal) references

  -- a list of them, with others of the same members
  pub record AreLookedAt (list kept : List ℕ) : Type 0 where
    pub found : IsPermutation looked_at list
    pub same : (ordinal : ℕ) → is_one_of kept ordinal ≡ is_one_of list ordinal

  -- which are found one part after the other
  pub looked-found : (empty mid list kept : List ℕ) → empty ≡ [] → AreAppended (filter test (born_before plan table t)) empty mid → AreAppended (losing_by plan table t references) mid list →
      ((ordinal : ℕ) → is_one_of kept ordinal ≡ is_one_of list ordinal) → AreLookedAt list kept
  looked-found empty mid list kept none first second same =
      let passing : List ℕ = filter test (born_before plan table t) in
      let begun : AreAppended passing [] mid = subst (λ (xs : List ℕ). AreAppended passing xs mid) none first in
      record { found = AreAppended-alone looked_at list (AreAppended-more passing (losing_by plan table t references) [] mid list begun second); same = same }

  -- there are no more of them than of the two parts
  pub looked-fewer : (list kept : List ℕ) → AreLookedAt list kept → length kept ≤ length list → length kept ≤ length (filter test (born_before plan table t)) + length (losing_by plan table t references)
  looked-fewer list kept are fewer =
      omega (arith, fewer, length_permutation looked_at list are.found, length-append (filter test (born_before plan table t)) (losing_by plan table t references))

  looked-members : (ordinal : ℕ) → ordinal < count → is_one_of looked_at ordinal ≡ is_looked_at ordinal
  looked-members ordinal born =
      list_any-append (λ one. one == ordinal) (filter test (born_before plan table t)) (losing_by plan table t references)
      ∙ ap₂ (λ (a b : Bool). a || b) (one_of-range test count ordinal born)
      (one_of-pieces (losing plan table t) ordinal references
      ∙ list_any-same (λ reference. is_one_of (losing plan table t reference) ordinal) (λ reference. loses_at plan table t reference ordinal)
      (λ reference. one_of-range (loses_at plan table t reference) count ordinal born) references)

  pub kept-members : (list kept : List ℕ) → AreLookedAt list kept → (ordinal : ℕ) → ordinal < count → is_one_of kept ordinal ≡ is_looked_at ordinal
  kept-members list kept are ordinal born =
      are.same ordinal ∙ sym (list_any-IsPermutation (λ one. one == ordinal) looked_at list are.found) ∙ looked-members ordinal born

  pub kept-below : (list kept : List ℕ) → AreLookedAt list kept → All (λ ordinal. ordinal < count) kept
  kept-below list kept are =
      let P : ℕ → Type 0 = λ ordinal. ordinal < count in
      let all : All P list =
      All-permutation P looked_at list are.found
      (All-append P (filter test (born_before plan table t)) (losing_by plan table t references) (below-range test count)
      (all-pieces P (losing plan table t) (λ reference. below-range (loses_at plan table t reference) count) references)) in
      all-one_of P kept (λ ordinal at. one_of-all P list all ordinal (sym (are.same ordinal) ∙ at))

  -- in rising order, those that pass another test are all of a range that do, where each that does is looked at
  pub kept-filter : (list kept : List ℕ) → AreLookedAt list kept → IsStrictlyIncreasing kept → (final is : ℕ → Bool) →
      ((ordinal : ℕ) → ordinal < count → (final ordinal && is_looked_at ordinal) ≡ is ordinal) → filter final kept ≡ filter is (range_with_len 0 count)
  kept-filter list kept are rising final is agree =
      rising-filter is count (filter final kept) (IsStrictlyIncreasing-filter final kept rising) (All-filter final (λ ordinal. ordinal < count) kept (kept-below list kept are))
      (λ ordinal born. one_of-filter final ordinal kept ∙ ap (λ (b : Bool). final ordinal && b) (kept-members list kept are ordinal born) ∙ agree ordinal born)

  pub kept-all : (list kept : List ℕ) → AreLookedAt list kept → IsStrictlyIncreasing kept → (is : ℕ → Bool) →
      ((ordinal : ℕ) → ordinal < count → is_looked_at ordinal ≡ is ordinal) → kept ≡ filter is (range_with_len 0 count)
  kept-all list kept are rising is agree =
      rising-filter is count kept rising (kept-below list kept are) (λ ordinal born. kept-members list kept are ordinal born ∙ agree ordinal born)
