-- The parents of the rows that a table holds are held by their own tables.
use Rattle.std.proofs.Common.{◌≡◌, ℕ, ◌-◌, ◌<◌, ◌≤◌, Bool, true, false, ◌||◌, Option, None, Some, List, [], ◌∷◌, filter, length, map, take, inl, inr, ap, arith, subst, sym, ◌∙◌}
use Rattle.std.specs.Prelude.{All, IfSome, if◌then◌else◌}
use Rattle.std.specs.List.{AllByRecursion}
use Rattle.std.proofs.lemmas.Bool.{and_parts, cases_Bool, cases_lt, false≢true}
use Rattle.std.proofs.lemmas.List.Elements.{All-from_recursion}
use Rattle.cohort_sizes.specs.Births.{Births, birth, born_count, first_ordinal, index_at}
use Rattle.schema_facts.specs.Dictionaries.{Project}
use Rattle.schema_facts.specs.Layout.{table_at}
use Rattle.schema_plan.specs.Limits.{IsInLimits}
use Rattle.schema_facts.specs.Lineage.{sure_life}
use Rattle.schema_facts.specs.References.{Reference, cascades_of, reference_at, references_of}
use Rattle.life_intervals.specs.Generator.{Generator, generator_of, last_unit, table_of}
use Rattle.life_intervals.specs.Intervals.{Known, death, first_death, held_parent, held_until, is_after, is_live, known_tables, loss_of, own_death, parent_by, parent_death_by, parent_of}
use Rattle.life_intervals.specs.Simulation.{holds_row, rows_at}
use Rattle.life_intervals.specs.Sound.{AreSound}
use Rattle.life_intervals.proofs.CascadeLemmas.{is_after-cascades, is_cascading}
use Rattle.cohort_sizes.proofs.CohortLemmas.{birth-later, birth-le, born_count-le, index_at-below}
use Rattle.life_intervals.proofs.AcceptedLemmas.{AreSound-accepted, place-below}
use Rattle.life_intervals.proofs.DeathLemmas.{is_after-lesser_parts}
use Rattle.life_intervals.proofs.KnownLemmas.{known_at-before, length-known_before, refers-of}
use Rattle.life_intervals.proofs.LifeLemmas.{death-first, loss_by-death}
use Rattle.life_intervals.proofs.LiveLemmas.{holds_row-live, holds_row-unborn}
use Rattle.life_intervals.proofs.ParentLemmas.{Refers, parent_by-lies}
use Rattle.life_intervals.proofs.ReferenceLemmas.{at_column, reference_at-within}

module _ (units : ℕ) (generator : Generator) (sound : AreSound units generator.tables) (place : ℕ) (below : place < length generator.tables) (unit : ℕ) (within : unit ≤ units) (ordinal : ℕ) (born : ordinal < born_count (table_at generator.tables place).births unit) where
  abbrev births : Births
  births = (table_at generator.tables place).births

  abbrev earlier : List Known
  earlier = take place (known_tables generator)

  abbrev IsParentHeld : Reference → Type 0
  IsParentHeld reference = IfSome (held_parent generator place unit ordinal reference) (λ parent. holds_row (rows_at generator reference.parent unit) parent ≡ true)

  abbrev death_of_parent : Reference → Option ℕ
  death_of_parent reference = death generator reference.parent unit (parent_of generator place unit ordinal reference)

  -- a parent is born by the unit
  parent-born : (reference : Reference) → Refers units earlier (sure_life generator.tables) births reference →
      parent_of generator place unit ordinal reference < born_count (table_at generator.tables reference.parent).births unit
  parent-born reference refers =
      let early : birth births unit ordinal ≤ unit = birth-le births unit ordinal born in
      let is_earlier : reference.parent < place = omega (arith, refers.is_earlier, length-known_before generator place below) in
      let lies = subst (λ (known : Known). parent_of generator place unit ordinal reference < born_count known.table.births (birth births unit ordinal))
      (known_at-before generator place reference.parent below is_earlier)
      (parent_by-lies units generator.order earlier (sure_life generator.tables) births (birth births unit ordinal) (index_at births unit ordinal) (omega (arith, early, within)) (index_at-below births unit ordinal born) reference refers).1 in
      omega (arith, lies, born_count-le (table_at generator.tables reference.parent).births (birth births unit ordinal) unit early)

  -- a parent whose death hasn't come is held, and so is one that isn't lost
  held-until : (reference : Reference) (nulls : Bool) → Refers units earlier (sure_life generator.tables) births reference → (nulls || is_after (death_of_parent reference) unit) ≡ true →
      IfSome (held_until (if nulls then death_of_parent reference else None) unit (parent_of generator place unit ordinal reference)) (λ parent. holds_row (rows_at generator reference.parent unit) parent ≡ true)
  held-until reference false refers after =
      holds_row-live units generator reference.parent unit (parent_of generator place unit ordinal reference) sound within (parent-born reference refers) ∙ after
  held-until reference true refers after = elim (cases_Bool (is_after (death_of_parent reference) unit)) [
    | inl alive ↦ rw alive (holds_row-live units generator reference.parent unit (parent_of generator place unit ordinal reference) sound within (parent-born reference refers) ∙ alive)
    | inr dead ↦ rw dead tt
  ]

  held-parent : (reference : Reference) → Refers units earlier (sure_life generator.tables) births reference → (reference.nulls || is_after (death_of_parent reference) unit) ≡ true → IsParentHeld reference
  held-parent reference refers after =
      let early : birth births unit ordinal ≤ unit = birth-le births unit ordinal born in
      let loss : loss_of generator place unit ordinal reference ≡ (if reference.nulls then death_of_parent reference else None) =
      loss_by-death units generator sound place below (birth births unit ordinal) (index_at births unit ordinal) (omega (arith, early, within)) (index_at-below births unit ordinal born) unit early reference refers in
      subst (λ (d : Option ℕ). IfSome (held_until d unit (parent_of generator place unit ordinal reference)) (λ parent. holds_row (rows_at generator reference.parent unit) parent ≡ true))
      (sym loss) (held-until reference reference.nulls refers after)

  -- where none of the deaths has come with which a row dies, each parent that it still has is held
  each-held : (references : List Reference) → AllByRecursion (Refers units earlier (sure_life generator.tables) births) references →
      is_after (first_death (map death_of_parent (filter is_cascading references))) unit ≡ true → AllByRecursion IsParentHeld references
  each-held [] refers after = _
  each-held (reference ∷ others) refers after =
      let parts = and_parts _ _ (sym (is_after-cascades death_of_parent reference others unit) ∙ after) in
      (held-parent reference refers.0 parts.0, each-held others refers.1 parts.1)

  all-held : is_live generator place unit ordinal ≡ true → All IsParentHeld (references_of (table_at generator.tables place))
  all-held alive =
      All-from_recursion IsParentHeld (references_of (table_at generator.tables place))
      (each-held (references_of (table_at generator.tables place)) (refers-of units generator sound place below)
      (is_after-lesser_parts (own_death generator place unit ordinal) (first_death (map death_of_parent (cascades_of (table_at generator.tables place)))) unit
      (ap (λ (d : Option ℕ). is_after d unit) (sym (death-first units generator sound place below unit ordinal within born)) ∙ alive)).1)

-- a table holds no row of which a parent that it still has isn't held
pub parents-held : (units : ℕ) (generator : Generator) → AreSound units generator.tables → (place : ℕ) → place < length generator.tables → (unit ordinal : ℕ) → unit ≤ units →
    holds_row (rows_at generator place unit) ordinal ≡ true →
    All (λ (reference : Reference). IfSome (held_parent generator place unit ordinal reference) (λ parent. holds_row (rows_at generator reference.parent unit) parent ≡ true)) (references_of (table_at generator.tables place))
parents-held units generator sound place below unit ordinal within held = elim (cases_lt ordinal (born_count (table_at generator.tables place).births unit)) [
  | inl born ↦
      all-held units generator sound place below unit within ordinal born
      (sym (holds_row-live units generator place unit ordinal sound within born) ∙ held)
  | inr unborn ↦ absurd (false≢true (sym (holds_row-unborn units generator place unit ordinal sound within unborn) ∙ held))
]

-- a row's parent is the same by any unit by which the row is born
pub parent_of-by : (generator : Generator) (place last unit ordinal : ℕ) (reference : Reference) → unit ≤ last → ordinal < born_count (table_at generator.tables place).births unit →
    parent_of generator place last ordinal reference ≡ parent_of generator place unit ordinal reference
parent_of-by generator place last unit ordinal reference within born =
    let births : Births = (table_at generator.tables place).births in
    ap (λ (b : ℕ). parent_by generator.order (take place (known_tables generator)) b (ordinal - first_ordinal births b) reference) (birth-later births unit last ordinal born within)

-- a row can't have lost a parent with whom it is deleted
pub held_parent-cascades : (generator : Generator) (place unit ordinal : ℕ) (reference : Reference) → reference.nulls ≡ false →
    held_parent generator place unit ordinal reference ≡ Some (parent_of generator place unit ordinal reference)
held_parent-cascades generator place unit ordinal reference cascades =
    let births : Births = (table_at generator.tables place).births in
    let death : Option ℕ =
    parent_death_by generator.order (take place (known_tables generator)) (birth births unit ordinal) (index_at births unit ordinal) reference in
    ap (λ (nulls : Bool). held_until (if nulls then death else None) unit (parent_of generator place unit ordinal reference)) cascades

-- a parent that a row still has is held with it
pub held_parent-held : (plan : Project) → IsInLimits plan → (place : ℕ) → place < length plan.schema.tables → (column : ℕ) (reference : Reference) →
    reference_at (table_of plan place) column ≡ Some reference → (unit ordinal : ℕ) → unit ≤ last_unit plan → holds_row (rows_at (generator_of plan) place unit) ordinal ≡ true →
    IfSome (held_parent (generator_of plan) place unit ordinal reference) (λ parent. holds_row (rows_at (generator_of plan) reference.parent unit) parent ≡ true)
held_parent-held plan limits place below column reference is unit ordinal within held =
    let generator : Generator = generator_of plan in
    let IsHeld : Reference → Type 0 = λ to. IfSome (held_parent generator place unit ordinal to) (λ parent. holds_row (rows_at generator to.parent unit) parent ≡ true) in
    at_column IsHeld (table_of plan place)
    (parents-held (last_unit plan) generator (AreSound-accepted plan limits) place (place-below plan place below) unit ordinal within held)
    column reference (reference_at-within (table_of plan place) column reference is) is

-- a parent with whom its rows are deleted is held as long as they are
pub parent-held : (plan : Project) → IsInLimits plan → (place : ℕ) → place < length plan.schema.tables → (column : ℕ) (reference : Reference) → reference_at (table_of plan place) column ≡ Some reference →
    reference.nulls ≡ false → (unit ordinal : ℕ) → unit ≤ last_unit plan → holds_row (rows_at (generator_of plan) place unit) ordinal ≡ true →
    holds_row (rows_at (generator_of plan) reference.parent unit) (parent_of (generator_of plan) place (last_unit plan) ordinal reference) ≡ true
parent-held plan limits place below column reference is takes_along unit ordinal within held =
    let generator : Generator = generator_of plan in
    let sound : AreSound (last_unit plan) generator.tables = AreSound-accepted plan limits in
    let is_there : IfSome (held_parent generator place unit ordinal reference) (λ parent. holds_row (rows_at generator reference.parent unit) parent ≡ true) =
    held_parent-held plan limits place below column reference is unit ordinal within held in
    let at_unit : holds_row (rows_at generator reference.parent unit) (parent_of generator place unit ordinal reference) ≡ true =
    subst (λ (parent : Option ℕ). IfSome parent (λ p. holds_row (rows_at generator reference.parent unit) p ≡ true))
    (held_parent-cascades generator place unit ordinal reference takes_along) is_there in
    elim (cases_lt ordinal (born_count (table_of plan place).births unit)) [
      | inl born ↦
          ap (λ (parent : ℕ). holds_row (rows_at generator reference.parent unit) parent) (parent_of-by generator place (last_unit plan) unit ordinal reference within born)
          ∙ at_unit
      | inr unborn ↦ absurd (false≢true (sym (holds_row-unborn (last_unit plan) generator place unit ordinal sound within unborn) ∙ held))
    ]
