-- Deaths and change units: own deaths and those by parents, and changes as the code computes them.
use Rattle.std.proofs.Common.{◌≡◌, ℕ, ◌+◌, ◌-◌, ◌%◌, ◌<◌, ◌≤◌, Option, Some, None, List, [], ◌∷◌, length, map, take, refl, ap, ap₂, arith, subst, sym, ◌∙◌}
use Rattle.std.specs.Prelude.{All, if◌then◌else◌}
use Rattle.std.specs.List.{AllByRecursion}
use Rattle.std.specs.Option.{option_map_or}
use Rattle.std.proofs.lemmas.List.Elements.{All-from_recursion}
use Rattle.philox_seeds.specs.SeedTree.{update_column}
use Rattle.cohort_sizes.specs.Births.{Births, birth, born_count, cohort_size, first_ordinal, index_at}
use Rattle.schema_facts.specs.Layout.{TableLayout, table_at}
use Rattle.schema_facts.specs.Lineage.{sure_life}
use Rattle.life_intervals.specs.Changes.{due_by, first_due, last_due}
use Rattle.life_intervals.specs.Generator.{Generator, Order}
use Rattle.life_intervals.specs.Intervals.{Known, change_unit, death, death_by, first_death, known_at, known_of, known_tables, loss_by, loss_of, own_death, own_death_by, parent_by, parent_death_by, parent_of}
use Rattle.schema_facts.specs.References.{Reference, cascades_of, reference_at, references_of}
use Rattle.life_intervals.specs.Sound.{AreSound}
use Rattle.life_intervals.proofs.CascadeLemmas.{AllByRecursion-map}
use Rattle.life_intervals.proofs.ChangeLemmas.{change-le, last_change-le}
use Rattle.cohort_sizes.proofs.CohortLemmas.{birth-later, birth-le, index_at-below}
use Rattle.life_intervals.proofs.KnownLemmas.{cascades-of, known_at-before, length-known_before, refers-of}
use Rattle.life_intervals.proofs.ParentLemmas.{Refers, death_by-later, parent_by-lies}
use Rattle.life_intervals.proofs.ReferenceLemmas.{at_column, reference_at-within}

-- ---- deaths

-- they are the same, whatever the unit by which a row is born
pub death-later : (generator : Generator) (place unit last ordinal : ℕ) → ordinal < born_count (table_at generator.tables place).births unit → unit ≤ last →
    death generator place last ordinal ≡ death generator place unit ordinal
death-later generator place unit last ordinal born within = death_by-later (known_of generator place) unit last ordinal born within

pub own_death-later : (generator : Generator) (place unit last ordinal : ℕ) → ordinal < born_count (table_at generator.tables place).births unit → unit ≤ last →
    own_death generator place last ordinal ≡ own_death generator place unit ordinal
own_death-later generator place unit last ordinal born within =
    let table : TableLayout = table_at generator.tables place in
    ap (λ (b : ℕ). own_death_by generator.order place table b (ordinal - first_ordinal table.births b)) (birth-later table.births unit last ordinal born within)

-- ---- parents, of the row with an index in the cohort of unit `born`

module _ (units : ℕ) (generator : Generator) (sound : AreSound units generator.tables) (place : ℕ) (below : place < length generator.tables) (born index : ℕ) (within : born ≤ units) (inside : index < cohort_size (table_at generator.tables place).births born) (last : ℕ) (later : born ≤ last) where
  abbrev earlier : List Known
  earlier = take place (known_tables generator)

  abbrev Refers_here : Reference → Type 0
  Refers_here = Refers units earlier (sure_life generator.tables) (table_at generator.tables place).births

  -- when a parent dies
  pub parent_death_by-death : (reference : Reference) → Refers_here reference →
      parent_death_by generator.order earlier born index reference ≡ death generator reference.parent last (parent_by generator.order earlier born index reference)
  parent_death_by-death reference refers =
      let parent : ℕ = parent_by generator.order earlier born index reference in
      let lies = parent_by-lies units generator.order earlier (sure_life generator.tables) (table_at generator.tables place).births born index within inside reference refers in
      let is_earlier : reference.parent < place = omega (arith, refers.is_earlier, length-known_before generator place below) in
      sym (death_by-later (known_at earlier reference.parent) born last parent lies.1 later)
      ∙ ap (λ (known : Known). death_by known last parent) (known_at-before generator place reference.parent below is_earlier)

  pub parent_deaths-deaths : (references : List Reference) → AllByRecursion Refers_here references →
      map (parent_death_by generator.order earlier born index) references
      ≡ map (λ (reference : Reference). death generator reference.parent last (parent_by generator.order earlier born index reference)) references
  parent_deaths-deaths [] refers = refl
  parent_deaths-deaths (reference ∷ others) refers = ap₂ (λ d ds. d ∷ ds) (parent_death_by-death reference refers.0) (parent_deaths-deaths others refers.1)

  -- when the row loses it
  pub loss_by-death : (reference : Reference) → Refers_here reference →
      loss_by generator.order earlier born index reference
      ≡ (if reference.nulls then death generator reference.parent last (parent_by generator.order earlier born index reference) else None)
  loss_by-death reference refers = ap (λ (d : Option ℕ). if reference.nulls then d else None) (parent_death_by-death reference refers)

  pub losses_by-deaths : (references : List Reference) → AllByRecursion Refers_here references →
      map (loss_by generator.order earlier born index) references
      ≡ map (λ (reference : Reference). if reference.nulls then death generator reference.parent last (parent_by generator.order earlier born index reference) else None) references
  losses_by-deaths [] refers = refl
  losses_by-deaths (reference ∷ others) refers = ap₂ (λ d ds. d ∷ ds) (loss_by-death reference refers.0) (losses_by-deaths others refers.1)

-- a row dies when its own life ends or a parent dies without which it doesn't live on
pub death-first : (units : ℕ) (generator : Generator) → AreSound units generator.tables → (place : ℕ) → place < length generator.tables → (unit ordinal : ℕ) → unit ≤ units →
    ordinal < born_count (table_at generator.tables place).births unit →
    death generator place unit ordinal
    ≡ first_death (own_death generator place unit ordinal
    ∷ map (λ (reference : Reference). death generator reference.parent unit (parent_of generator place unit ordinal reference)) (cascades_of (table_at generator.tables place)))
death-first units generator sound place below unit ordinal within born =
    let table : TableLayout = table_at generator.tables place in
    let born_at : ℕ = birth table.births unit ordinal in
    let index : ℕ = index_at table.births unit ordinal in
    let early : born_at ≤ unit = birth-le table.births unit ordinal born in
    ap₂ (λ own parents. first_death (own ∷ parents))
    (ap (λ (p : ℕ). own_death_by generator.order p table born_at index) (length-known_before generator place below))
    (parent_deaths-deaths units generator sound place below born_at index (omega (arith, early, within)) (index_at-below table.births unit ordinal born) unit early
    (cascades_of table) (cascades-of units generator sound place below))

-- it loses a parent when that dies, where the reference becomes null
pub loss_of-death : (units : ℕ) (generator : Generator) → AreSound units generator.tables → (place : ℕ) → place < length generator.tables → (unit ordinal : ℕ) → unit ≤ units →
    ordinal < born_count (table_at generator.tables place).births unit →
    All (λ (reference : Reference). loss_of generator place unit ordinal reference
    ≡ (if reference.nulls then death generator reference.parent unit (parent_of generator place unit ordinal reference) else None)) (references_of (table_at generator.tables place))
loss_of-death units generator sound place below unit ordinal within born =
    let table : TableLayout = table_at generator.tables place in
    let born_at : ℕ = birth table.births unit ordinal in
    let index : ℕ = index_at table.births unit ordinal in
    let early : born_at ≤ unit = birth-le table.births unit ordinal born in
    let refers : AllByRecursion (Refers units (take place (known_tables generator)) (sure_life generator.tables) table.births) (references_of table) = refers-of units generator sound place below in
    let IsLoss : Reference → Type 0 = λ reference. loss_of generator place unit ordinal reference
    ≡ (if reference.nulls then death generator reference.parent unit (parent_of generator place unit ordinal reference) else None) in
    All-from_recursion IsLoss (references_of table)
    (AllByRecursion-map (Refers units (take place (known_tables generator)) (sure_life generator.tables) table.births) IsLoss
    (loss_by-death units generator sound place below born_at index (omega (arith, early, within)) (index_at-below table.births unit ordinal born) unit early)
    (references_of table) refers)

-- a parent is born by its child's birth
pub parent_of-born : (units : ℕ) (generator : Generator) → AreSound units generator.tables → (place : ℕ) → place < length generator.tables → (unit : ℕ) → unit ≤ units → (ordinal : ℕ) →
    ordinal < born_count (table_at generator.tables place).births unit → (column : ℕ) (reference : Reference) → reference_at (table_at generator.tables place) column ≡ Some reference →
    parent_of generator place unit ordinal reference < born_count (table_at generator.tables reference.parent).births (birth (table_at generator.tables place).births unit ordinal)
parent_of-born units generator sound place below unit within ordinal born column reference is =
    let births : Births = (table_at generator.tables place).births in
    let earlier : List Known = take place (known_tables generator) in
    let early : birth births unit ordinal ≤ unit = birth-le births unit ordinal born in
    let refers = at_column (Refers units earlier (sure_life generator.tables) births) (table_at generator.tables place)
    (All-from_recursion (Refers units earlier (sure_life generator.tables) births) (references_of (table_at generator.tables place)) (refers-of units generator sound place below))
    column reference (reference_at-within (table_at generator.tables place) column reference is) is in
    let is_earlier : reference.parent < place = omega (arith, refers.is_earlier, length-known_before generator place below) in
    subst (λ (known : Known). parent_of generator place unit ordinal reference < born_count known.table.births (birth births unit ordinal))
    (known_at-before generator place reference.parent below is_earlier)
    (parent_by-lies units generator.order earlier (sure_life generator.tables) births (birth births unit ordinal) (index_at births unit ordinal) (omega (arith, early, within)) (index_at-below births unit ordinal born) reference refers).1

-- ---- changes

-- where rows aren't updated, they are never due
pub due_by-none : (order : Order) (place : ℕ) (table : TableLayout) (born index unit : ℕ) → table.update ≡ None → due_by order place table born index unit ≡ born
due_by-none order place table born index unit none = ap (λ (update : Option ℕ). option_map_or (λ period. last_due born (first_due order place born index period) period unit) update born) none

-- where they are, the last due unit is by the row's birth and the place of its index
pub due_by-some : (order : Order) (place : ℕ) (table : TableLayout) (born index unit placed period : ℕ) → table.update ≡ Some period →
    placed % period ≡ order.place place update_column born index % period → last_due born (born + (1 + placed % period)) period unit ≡ due_by order place table born index unit
due_by-some order place table born index unit placed period some placed_is =
    ap (λ (rest : ℕ). last_due born (born + (1 + rest)) period unit) placed_is
    ∙ sym (ap (λ (update : Option ℕ). option_map_or (λ period. last_due born (first_due order place born index period) period unit) update born) some)

-- a change is no later than its unit
pub change_unit-le : (generator : Generator) (place unit ordinal : ℕ) → ordinal < born_count (table_at generator.tables place).births unit → change_unit generator place unit ordinal ≤ unit
change_unit-le generator place unit ordinal born =
    let table : TableLayout = table_at generator.tables place in
    let births : Births = table.births in
    last_change-le unit (due_by generator.order place table (birth births unit ordinal) (index_at births unit ordinal) unit) (map (loss_of generator place unit ordinal) (references_of table))
    (change-le table.update unit (birth births unit ordinal) (first_due generator.order place (birth births unit ordinal) (index_at births unit ordinal))
    (birth-le births unit ordinal born))
