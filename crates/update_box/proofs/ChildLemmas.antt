-- The rows of a cohort whose parents by a reference are among some rows.
use Rattle.std.proofs.Common.{◌≡◌, ℕ, zero, suc, ◌+◌, ◌-◌, ◌==◌, ◌*◌, ◌<◌, ◌≤◌, Bool, true, false, not, ◌&&◌, ◌||◌, List, [], ◌∷◌, ◌++◌, length, filter, sum_by, take, eq-eqb, eqb-true, ne_eqb, inl, inr, arith, refl, ap, ap₂, subst, sym, ◌∙◌}
use Rattle.std.specs.Prelude.{if◌then◌else◌, nat_le, nat_lt}
use Rattle.std.specs.List.{flat_map, range_with_len}
use Rattle.std.specs.List.Sorted.{IsPermutation}
use Rattle.std.proofs.lemmas.Bool.{cases_eq, le-leb, lt-ltb}
use Rattle.std.proofs.lemmas.List.Elements.{All-from_recursion, filter_agree}
use Rattle.std.proofs.lemmas.List.Sorted.{IsPermutation-append, IsPermutation-refl, IsPermutation-sym, IsPermutation-trans, length_permutation}
use Rattle.cohort_sizes.specs.Births.{Births, birth, born_count, cohort_size, first_ordinal}
use Rattle.cohort_sizes.proofs.CohortLemmas.{birth-later, born_count-next, first_ordinal-le}
use Rattle.schema_plan.specs.declared.ready.ReadyReference.{ReadyReference}
use Rattle.schema_facts.specs.Dictionaries.{Project}
use Rattle.schema_facts.specs.Layout.{table_at}
use Rattle.schema_plan.specs.Limits.{IsInLimits}
use Rattle.schema_facts.specs.Lineage.{one_if, sure_life}
use Rattle.schema_facts.specs.References.{Reference, first_in_window, references_of}
use Rattle.life_intervals.specs.CohortParents.{IsReferenceOf, reference_by}
use Rattle.life_intervals.specs.Generator.{Generator, generator_of, last_unit, table_of}
use Rattle.life_intervals.specs.Intervals.{Known, death, dying, is_at, known_tables, parent_by, parent_of}
use Rattle.life_intervals.proofs.AcceptedLemmas.{AreSound-accepted, length-tables}
use Rattle.life_intervals.proofs.CohortParentLemmas.{limits_of, ready_is}
use Rattle.life_intervals.proofs.KnownLemmas.{known_at-before, refers-of}
use Rattle.life_intervals.proofs.ParentLemmas.{Refers, parent_by-lies}
use Rattle.life_intervals.proofs.ReferenceLemmas.{at_column}
use Rattle.update_box.specs.Candidates.{children_near, in_window, loses_at, losing, pairs, pairs_at}
use Rattle.update_box.specs.Ordinals.{is_one_of, lies_within}
use Rattle.life_intervals.specs.Children.{children_of_each}
use Rattle.life_intervals.specs.FoundAt.{AreAppended}
use Rattle.update_box.proofs.BornLemmas.{IsFoundBefore, filter-born_next, filter-cohort_same, found-more_steps, found-next, found-none, found-within, of_cohort}
use Rattle.update_box.proofs.AppendedLemmas.{AreAppended-same}
use Rattle.update_box.proofs.OrdinalLemmas.{IsPermutation-filters, RisesWithin, one_of-below, one_of-filter, one_of-range, rises-twice}
use Rattle.update_box.proofs.RangeLemmas.{sum_by-range_le, sum_by-range_more}

-- ---- of each of some parents, and of any of them

-- a number is first of all one of some
one_of-flip : (x y : ℕ) (xs : List ℕ) → is_one_of (y ∷ xs) x ≡ (x == y || is_one_of xs x)
one_of-flip x y xs = ap (λ (b : Bool). b || is_one_of xs x) (flip x y)
  where
    flip : (x y : ℕ) → (y == x) ≡ (x == y)
    flip x y = elim (cases_eq x y) [ inl same ↦ eq-eqb y x (sym same) ∙ sym (eq-eqb x y same) | inr apart ↦ ne_eqb y x (λ same. apart (sym same)) ∙ sym (ne_eqb x y apart) ]

each-any : (f : ℕ → ℕ) (low end : ℕ) (parents xs : List ℕ) → RisesWithin low end parents →
    IsPermutation (filter (λ x. is_one_of parents (f x)) xs) (flat_map (λ parent. filter (λ x. f x == parent) xs) parents)
each-any f low end [] xs rises = subst (λ (ys : List ℕ). IsPermutation ys []) (sym (filter-none xs)) (IsPermutation-refl [])
  where
    filter-none : (xs : List ℕ) → filter (λ x. false) xs ≡ []
    filter-none [] = refl
    filter-none (x ∷ xs) = filter-none xs
each-any f low end (parent ∷ others) xs rises =
    let here : List ℕ = filter (λ x. f x == parent) xs in
    let rest : List ℕ = filter (λ x. is_one_of others (f x)) xs in
    let apart : (x : ℕ) → (f x == parent) ≡ true → is_one_of others (f x) ≡ false =
    λ x same. ap (is_one_of others) (eqb-true (f x) parent same) ∙ one_of-below parent (parent + 1) end others rises.2 (omega arith) in
    let all : filter (λ x. f x == parent || is_one_of others (f x)) xs ≡ filter (λ x. is_one_of (parent ∷ others) (f x)) xs =
    filter_agree (λ x. f x == parent || is_one_of others (f x)) (λ x. is_one_of (parent ∷ others) (f x)) (λ x. sym (one_of-flip (f x) parent others)) xs in
    subst (λ (ys : List ℕ). IsPermutation ys (here ++ flat_map (λ p. filter (λ x. f x == p) xs) others)) all
    (IsPermutation-trans (filter (λ x. f x == parent || is_one_of others (f x)) xs) (here ++ rest) (here ++ flat_map (λ p. filter (λ x. f x == p) xs) others)
    (IsPermutation-sym (here ++ rest) (filter (λ x. f x == parent || is_one_of others (f x)) xs) (IsPermutation-filters (λ x. f x == parent) (λ x. is_one_of others (f x)) apart xs))
    (IsPermutation-append here here rest (flat_map (λ p. filter (λ x. f x == p) xs) others) (IsPermutation-refl here) (each-any f (parent + 1) end others xs rises.2)))

-- ---- the parents of a cohort's rows

-- a row's parent is the same, whatever the unit by which it is born
pub parent_of-later : (generator : Generator) (place unit last ordinal : ℕ) (reference : Reference) → ordinal < born_count (table_at generator.tables place).births unit → unit ≤ last →
    parent_of generator place last ordinal reference ≡ parent_of generator place unit ordinal reference
parent_of-later generator place unit last ordinal reference born within =
    let births : Births = (table_at generator.tables place).births in
    ap (λ (b : ℕ). parent_by generator.order (take place (known_tables generator)) b (ordinal - first_ordinal births b) reference) (birth-later births unit last ordinal born within)

-- ---- the children in one cohort

-- an empty cohort has none
pub children-empty : (plan : Project) (table : ℕ) (reference : Reference) (unit : ℕ) → cohort_size (table_of plan table).births unit ≡ 0 → (parents : List ℕ) → children_of_each plan table reference unit parents ≡ []
children-empty plan table reference unit none [] = refl
children-empty plan table reference unit none (parent ∷ others) =
    let is : ℕ → Bool = λ ordinal. parent_of (generator_of plan) table unit ordinal reference == parent in
    ap₂ (λ (xs ys : List ℕ). xs ++ ys) (ap (λ (n : ℕ). filter is (range_with_len (first_ordinal (table_of plan table).births unit) n)) none) (children-empty plan table reference unit none others)

-- where there are rows, the steps that those of some parents take that are born in its window are their pairs
pairs-asked : (plan : Project) (table : ℕ) (reference : Reference) (unit : ℕ) (parents : List ℕ) → (cohort_size (table_of plan table).births unit ≡ 0 → ⊥) →
    length (in_window plan reference unit parents) * one_if reference.drawn ≡ pairs_at plan table reference unit parents
pairs-asked plan table reference unit parents some =
    asked (length (in_window plan reference unit parents)) reference.drawn
    ∙ ap (λ (empty : Bool). if reference.drawn && not empty then length (in_window plan reference unit parents) else 0) (sym (ne_eqb (cohort_size (table_of plan table).births unit) 0 some))
  where
    asked : (n : ℕ) (drawn : Bool) → n * one_if drawn ≡ (if drawn && true then n else 0)
    asked n true = omega arith
    asked n false = omega arith

pub children_near-steps : (plan : Project) (table : ℕ) (reference : Reference) (unit : ℕ) (parents near : List ℕ) → near ≡ in_window plan reference unit parents → (cohort_size (table_of plan table).births unit ≡ 0 → ⊥) →
    (from to : ℕ) → to ≤ from + length near * one_if reference.drawn + length (children_of_each plan table reference unit near) →
    to ≤ from + pairs_at plan table reference unit parents + length (children_near plan table reference unit parents)
children_near-steps plan table reference unit parents near is some from to steps =
    let P : List ℕ → Type 0 = λ ps. to ≤ from + length ps * one_if reference.drawn + length (children_of_each plan table reference unit ps) in
    omega (arith, subst P is steps, pairs-asked plan table reference unit parents some)

-- ---- the pairs of the cohorts before a unit

abbrev pub pairs_before : Project → ℕ → ℕ → Reference → ℕ → ℕ
pairs_before plan table t reference unit =
    sum_by (λ born. pairs_at plan table reference born (dying (generator_of plan) reference.parent t)) (range_with_len 0 unit)

pairs_before-next : (plan : Project) (table t : ℕ) (reference : Reference) (unit : ℕ) →
    pairs_before plan table t reference (unit + 1) ≡ pairs_before plan table t reference unit + pairs_at plan table reference unit (dying (generator_of plan) reference.parent t)
pairs_before-next plan table t reference unit = sum_by-range_more (λ born. pairs_at plan table reference born (dying (generator_of plan) reference.parent t)) unit

pairs_before-le : (plan : Project) (table t : ℕ) (reference : Reference) (unit : ℕ) → unit ≤ t → pairs_before plan table t reference unit ≤ pairs plan table t reference
pairs_before-le plan table t reference unit within = sum_by-range_le (λ born. pairs_at plan table reference born (dying (generator_of plan) reference.parent t)) unit t within

-- of the rows that are born before a unit those that lose a parent by a reference stand after a list, and no more steps have been taken
-- than they and the pairs are
abbrev pub AreChildrenBefore : Project → ℕ → ℕ → Reference → ℕ → List ℕ → List ℕ → ℕ → ℕ → Type 0
AreChildrenBefore plan table t reference unit before after from to =
    IsFoundBefore (loses_at plan table t reference) (table_of plan table).births unit before after (from + pairs_before plan table t reference unit) to

pub children-none : (plan : Project) (table t : ℕ) (reference : Reference) (before : List ℕ) (from : ℕ) → AreChildrenBefore plan table t reference 0 before before from from
children-none plan table t reference before from =
    let loses : ℕ → Bool = loses_at plan table t reference in
    let births : Births = (table_of plan table).births in
    found-more_steps loses births 0 before before from from (from + pairs_before plan table t reference 0) from (found-none loses births before from) (omega arith)

-- where the last cohort is passed all are found
pub children-all : (plan : Project) (table t : ℕ) (reference : Reference) (unit : ℕ) → unit ≡ t → (before after : List ℕ) (from to : ℕ) → AreChildrenBefore plan table t reference unit before after from to →
    AreAppended (losing plan table t reference) before after × (to ≤ from + length (losing plan table t reference) + pairs plan table t reference)
children-all plan table t reference unit is before after from to so_far =
    let found : AreChildrenBefore plan table t reference t before after from to = subst (λ (u : ℕ). AreChildrenBefore plan table t reference u before after from to) is so_far in
    (found.rows, omega (arith, found.steps))

-- the parents of a cohort's rows by a reference are born in its window
module _ (plan : Project) (limits : IsInLimits plan) (table column : ℕ) (ready : ReadyReference) (below : table < length plan.schema.tables) (of : IsReferenceOf plan table column ready) where
  abbrev generator : Generator
  generator = generator_of plan

  abbrev births : Births
  births = (table_of plan table).births

  abbrev elder : Births
  elder = (table_of plan ready.parent).births

  abbrev reference : Reference
  reference = reference_by column ready

  abbrev earlier : List Known
  earlier = take table (known_tables (generator_of plan))

  parent-lies : (unit index : ℕ) → unit ≤ last_unit plan → index < cohort_size births unit →
      (first_in_window elder ready.window unit ≤ parent_by generator.order earlier unit index reference) × (parent_by generator.order earlier unit index reference < born_count elder unit)
  parent-lies unit index within inside =
      let in_tables : table < length generator.tables = omega (arith, below, length-tables plan) in
      let is = limits_of plan limits table column ready below of in
      let Refers_here : Reference → Type 0 = Refers (last_unit plan) earlier (sure_life generator.tables) births in
      let refers : Refers_here reference =
      at_column Refers_here (table_of plan table) (All-from_recursion Refers_here (references_of (table_of plan table)) (refers-of (last_unit plan) generator (AreSound-accepted plan limits) table in_tables))
      column reference of.within (ready_is plan table column ready of).is in
      subst (λ (known : Known). (first_in_window known.table.births ready.window unit ≤ parent_by generator.order earlier unit index reference) × (parent_by generator.order earlier unit index reference < born_count known.table.births unit))
      (known_at-before generator table ready.parent in_tables is.earlier)
      (parent_by-lies (last_unit plan) generator.order earlier (sure_life generator.tables) births unit index within inside reference refers)

  parent_of-index : (unit ordinal : ℕ) → birth births unit ordinal ≡ unit → parent_of generator table unit ordinal reference ≡ parent_by generator.order earlier unit (ordinal - first_ordinal births unit) reference
  parent_of-index unit ordinal at = ap (λ (b : ℕ). parent_by generator.order earlier b (ordinal - first_ordinal births b) reference) at

  -- a row of a cohort before a unit has a parent that dies at the unit where that is one of those that die and lie in the window
  loses-near : (unit t : ℕ) → unit < t → t ≤ last_unit plan → (ordinal : ℕ) → first_ordinal births unit ≤ ordinal → ordinal < first_ordinal births unit + cohort_size births unit → birth births unit ordinal ≡ unit →
      loses_at plan table t reference ordinal
      ≡ is_one_of (filter (lies_within (first_in_window elder ready.window unit) (born_count elder unit)) (dying generator ready.parent t)) (parent_of generator table unit ordinal reference)
  loses-near unit t early within ordinal low high at =
      let parent : ℕ = parent_of generator table unit ordinal reference in
      let first : ℕ = first_in_window elder ready.window unit in
      let lies = parent-lies unit (ordinal - first_ordinal births unit) (omega (arith, early, within)) (omega (arith, low, high)) in
      let is : parent ≡ parent_by generator.order earlier unit (ordinal - first_ordinal births unit) reference = parent_of-index unit ordinal at in
      let begun : nat_le first parent ≡ true = le-leb first parent (omega (arith, is, lies.0)) in
      let born : nat_lt parent (born_count elder unit) ≡ true = lt-ltb parent (born_count elder unit) (omega (arith, is, lies.1)) in
      let before : parent < first_ordinal elder t = omega (arith, is, lies.1, first_ordinal-le elder (unit + 1) t (omega (arith, early))) in
      ap (λ (p : ℕ). is_at (death generator ready.parent t p) t) (parent_of-later generator table unit t ordinal reference (omega (arith, high, born_count-next births unit)) (omega (arith, early)))
      ∙ sym (one_of-range (λ p. is_at (death generator ready.parent t p) t) (first_ordinal elder t) parent before)
      ∙ sym (ap₂ (λ (a b : Bool). (a && b) && is_one_of (dying generator ready.parent t) parent) begun born)
      ∙ sym (one_of-filter (lies_within first (born_count elder unit)) parent (dying generator ready.parent t))

  -- so the children of these are the rows of the cohort that lose a parent
  pub losing-children : (unit t : ℕ) → unit < t → t ≤ last_unit plan → (near : List ℕ) →
      near ≡ filter (lies_within (first_in_window elder ready.window unit) (born_count elder unit)) (dying generator ready.parent t) →
      IsPermutation (of_cohort (loses_at plan table t reference) births unit) (children_of_each plan table reference unit near)
  losing-children unit t early within near is =
      let dies : ℕ → Bool = λ p. is_at (death generator ready.parent t p) t in
      let lies : ℕ → Bool = lies_within (first_in_window elder ready.window unit) (born_count elder unit) in
      let parent : ℕ → ℕ = λ ordinal. parent_of generator table unit ordinal reference in
      let cohort : List ℕ = range_with_len (first_ordinal births unit) (cohort_size births unit) in
      let rises : RisesWithin 0 (first_ordinal elder t) near = subst (RisesWithin 0 (first_ordinal elder t)) (sym is) (rises-twice lies dies (first_ordinal elder t)) in
      let same : of_cohort (loses_at plan table t reference) births unit ≡ filter (λ ordinal. is_one_of near (parent ordinal)) cohort =
      filter-cohort_same (loses_at plan table t reference) (λ ordinal. is_one_of near (parent ordinal)) births unit unit (omega arith)
      (λ ordinal low high at. loses-near unit t early within ordinal low high at ∙ ap (λ (ps : List ℕ). is_one_of ps (parent ordinal)) (sym is)) in
      subst (λ (xs : List ℕ). IsPermutation xs (children_of_each plan table reference unit near)) (sym same) (each-any parent 0 (first_ordinal elder t) near cohort rises)

  -- where none of those that die lies in the window, no row of the cohort loses one
  pub losing-nobody : (unit t : ℕ) → unit < t → t ≤ last_unit plan → (near : List ℕ) →
      near ≡ filter (lies_within (first_in_window elder ready.window unit) (born_count elder unit)) (dying generator ready.parent t) → near ≡ [] →
      of_cohort (loses_at plan table t reference) births unit ≡ []
  losing-nobody unit t early within near is none =
      empty (of_cohort (loses_at plan table t reference) births unit)
      (subst (λ (parents : List ℕ). IsPermutation (of_cohort (loses_at plan table t reference) births unit) (children_of_each plan table reference unit parents)) none (losing-children unit t early within near is))
    where
      empty : (xs : List ℕ) → IsPermutation xs [] → xs ≡ []
      empty [] moved = refl
      empty (x ∷ xs) moved = absurd (omega (arith, length_permutation (x ∷ xs) [] moved))

  -- and no row does where none dies
  pub losing-none_dies : (t : ℕ) → t ≤ last_unit plan → dying generator ready.parent t ≡ [] → losing plan table t reference ≡ []
  losing-none_dies t within none = before t (omega arith)
    where
      before : (unit : ℕ) → unit ≤ t → filter (loses_at plan table t reference) (range_with_len 0 (first_ordinal births unit)) ≡ []
      before zero early = refl
      before (suc unit) early =
          let next : unit + 1 ≡ suc unit = omega arith in
          let lies : List ℕ → List ℕ = filter (lies_within (first_in_window elder ready.window unit) (born_count elder unit)) in
          ap (λ (u : ℕ). filter (loses_at plan table t reference) (range_with_len 0 (first_ordinal births u))) (sym next)
          ∙ filter-born_next (loses_at plan table t reference) births unit
          ∙ ap₂ (λ (xs ys : List ℕ). xs ++ ys) (before unit (omega (arith, early))) (losing-nobody unit t (omega (arith, early)) within [] (sym (ap lies none)) refl)

  -- ---- a search of them, cohort by cohort

  abbrev loses : ℕ → ℕ → Bool
  loses t = loses_at plan table t reference

  -- with the steps that the cohort of a unit may take for its pairs
  paired : (unit t : ℕ) (parents : List ℕ) → parents ≡ dying generator ready.parent t → (before between : List ℕ) (from mid : ℕ) → AreChildrenBefore plan table t reference unit before between from mid →
      IsFoundBefore (loses t) births unit before between (from + pairs_before plan table t reference (unit + 1)) (mid + pairs_at plan table reference unit parents)
  paired unit t parents are before between from mid so_far =
      found-more_steps (loses t) births unit before between (from + pairs_before plan table t reference unit) mid (from + pairs_before plan table t reference (unit + 1)) (mid + pairs_at plan table reference unit parents) so_far
      (omega (arith, pairs_before-next plan table t reference unit, ap (pairs_at plan table reference unit) are))

  pub children-next : (unit t : ℕ) → unit < t → t ≤ last_unit plan → (parents : List ℕ) → parents ≡ dying generator ready.parent t → (before between after : List ℕ) (from mid to : ℕ) →
      AreChildrenBefore plan table t reference unit before between from mid → AreAppended (children_near plan table reference unit parents) between after →
      to ≤ mid + pairs_at plan table reference unit parents + length (children_near plan table reference unit parents) → AreChildrenBefore plan table t reference (unit + 1) before after from to
  children-next unit t early within parents are before between after from mid to so_far found steps =
      let same : IsPermutation (of_cohort (loses t) births unit) (children_near plan table reference unit parents) = losing-children unit t early within (in_window plan reference unit parents) (ap (in_window plan reference unit) are) in
      found-next (loses t) births unit before between after (from + pairs_before plan table t reference (unit + 1)) (mid + pairs_at plan table reference unit parents) to
      (paired unit t parents are before between from mid so_far) (AreAppended-same (children_near plan table reference unit parents) (of_cohort (loses t) births unit) between after same found)
      (omega (arith, steps, length_permutation (of_cohort (loses t) births unit) (children_near plan table reference unit parents) same))

  -- the steps of a cohort, whose rows may not be found, are within those of all
  pub children-within : (unit t : ℕ) → unit < t → t ≤ last_unit plan → (parents : List ℕ) → parents ≡ dying generator ready.parent t → (before between : List ℕ) (from mid to : ℕ) →
      AreChildrenBefore plan table t reference unit before between from mid → to ≤ mid + pairs_at plan table reference unit parents + length (children_near plan table reference unit parents) →
      to ≤ from + length (losing plan table t reference) + pairs plan table t reference
  children-within unit t early within parents are before between from mid to so_far steps =
      let same : IsPermutation (of_cohort (loses t) births unit) (children_near plan table reference unit parents) = losing-children unit t early within (in_window plan reference unit parents) (ap (in_window plan reference unit) are) in
      omega (
        arith,
        found-within (loses t) births unit t before between (from + pairs_before plan table t reference (unit + 1)) (mid + pairs_at plan table reference unit parents) to early
            (paired unit t parents are before between from mid so_far)
            (omega (arith, steps, length_permutation (of_cohort (loses t) births unit) (children_near plan table reference unit parents) same)),
        pairs_before-le plan table t reference (unit + 1) (omega (arith, early)),
      )
