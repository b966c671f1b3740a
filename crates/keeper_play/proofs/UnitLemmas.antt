-- The statements of a unit, by ordinals.
use Rattle.std.proofs.Common.{◌≡◌, ◌<◌, ◌≤◌, ℕ, zero, suc, add-one, ◌+◌, ◌-◌, ◌^◌, true, List, [], ◌∷◌, ◌++◌, ◌&&◌, ◌==◌, Option, Some, None, length, filter, map, take, get_or, option_map, reverse, refl, ap, ap₂, arith, subst, sym, ◌∙◌}
use Rattle.std.specs.Prelude.{All, IfSome}
use Rattle.std.specs.List.{flat_map, range_with_len}
use Rattle.std.proofs.lemmas.Bool.{and_parts, lt-ltb}
use Rattle.std.proofs.lemmas.List.Elements.{All-filter, filter_passes}
use Rattle.std.proofs.lemmas.List.FromFn.{get_or-range_with_len, length-range_with_len}
use Rattle.philox_seeds.specs.SeedTree.{life_column}
use Rattle.cohort_sizes.specs.Births.{Births, birth, born_count, cohort_size, first_ordinal}
use Rattle.cohort_sizes.proofs.CohortLemmas.{born_count-le, born_count-next, cohort-within}
use Rattle.schema_facts.specs.declared.layout.Span.{Span}
use Rattle.schema_facts.specs.Dictionaries.{Project}
use Rattle.schema_facts.specs.Layout.{TableLayout}
use Rattle.schema_plan.specs.Limits.{IsInLimits, IsSpan}
use Rattle.schema_facts.specs.Lineage.{sure_life}
use Rattle.schema_facts.specs.References.{cascades_of}
use Rattle.schema_facts.proofs.Lists.{map-map}
use Rattle.cohort_sizes.specs.declared.cohort.Cohort.{Cohort}
use Rattle.life_intervals.specs.CohortKeys.{IsCohort}
use Rattle.life_intervals.specs.Generator.{Generator, generator_of, last_unit, rows_in_all, table_of}
use Rattle.life_intervals.specs.Intervals.{Known, change_unit, changing, death, dying, is_after, is_at, is_live, known_of, known_tables, living, newborn, row_at}
use Rattle.life_intervals.specs.Rows.{Row, life_by}
use Rattle.life_intervals.specs.Simulation.{rows_at}
use Rattle.life_intervals.specs.Sound.{AreSound}
use Rattle.life_intervals.specs.Streams.{deleted, inserted, updated}
use Rattle.life_intervals.proofs.AcceptedLemmas.{AreSound-accepted, place-below}
use Rattle.life_intervals.proofs.CohortParentLemmas.{row_limit}
use Rattle.life_intervals.proofs.DeathLemmas.{is_after-lesser_from}
use Rattle.life_intervals.proofs.KnownLemmas.{cascades-of}
use Rattle.life_intervals.proofs.ParentLemmas.{parents-alive_now}
use Rattle.life_intervals.proofs.RowLemmas.{death_by-first_ordinal}
use Rattle.life_intervals.proofs.SimulationLemmas.{rows_at-rows_of}
use Rattle.life_intervals.proofs.StreamLemmas.{deleted-dying, inserted-newborn, updated-changing}
use Rattle.row_keeper.specs.Kept.{Statement, drop_row}
use Rattle.keeper_play.specs.Played.{changes_of, drop_at, put_at}
use Rattle.keeper_play.specs.Statements.{deletions, drop_of, insertions, places, put_of, unit_statements, updates}
use Rattle.keeper_play.proofs.RefLemmas.{row_key-at}

-- ---- lists

-- the ordinals of the rows of some are these
ordinals-rows : (generator : Generator) (place unit : ℕ) (xs : List ℕ) → map (λ (row : Row). row.ordinal) (map (row_at generator place unit) xs) ≡ xs
ordinals-rows generator place unit [] = refl
ordinals-rows generator place unit (x ∷ xs) = ap (λ (ys : List ℕ). x ∷ ys) (ordinals-rows generator place unit xs)

-- maps that agree at each item
pub map-each : {X Y : Type 0} (f g : X → Y) (xs : List X) → All (λ x. f x ≡ g x) xs → map f xs ≡ map g xs
map-each f g [] same = refl
map-each f g (x ∷ xs) same =
    ap₂ (λ y ys. y ∷ ys) (same 0 x (omega arith)) (map-each f g xs (λ i d below. same (suc i) d (omega (arith, below))))

pub flat_map-each : {X Y : Type 0} (f g : X → List Y) → ((x : X) → f x ≡ g x) → (xs : List X) → flat_map f xs ≡ flat_map g xs
flat_map-each f g same [] = refl
flat_map-each f g same (x ∷ xs) = ap₂ (λ (ys zs : List _). ys ++ zs) (same x) (flat_map-each f g same xs)

flat_map-nothing : {X Y : Type 0} (xs : List X) → flat_map {X = X} {A = Y} (λ (x : X). []) xs ≡ []
flat_map-nothing [] = refl
flat_map-nothing (x ∷ xs) = flat_map-nothing xs

pub range-below : (n : ℕ) → All (λ j. j < n) (range_with_len 0 n)
range-below n i d within =
    let below : i < n = omega (arith, within, length-range_with_len 0 n) in omega (arith, get_or-range_with_len 0 n i d below, below)

-- ---- a table

module _ (plan : Project) (limits : IsInLimits plan) (place : ℕ) (below : place < length plan.schema.tables) (unit : ℕ) (within : unit ≤ last_unit plan) where
  abbrev generator : Generator
  generator = generator_of plan

  abbrev births : Births
  births = (table_of plan place).births

  abbrev sound : AreSound (last_unit plan) (generator_of plan).tables
  sound = AreSound-accepted plan limits

  is_place : place < length (generator_of plan).tables
  is_place = place-below plan place below

  -- the rows that a unit updates, by their ordinals
  pub updated-ordinals : (changes_of plan unit place).updated ≡ changing (generator_of plan) place unit
  updated-ordinals =
      ap (map (λ (row : Row). row.ordinal)) (updated-changing (last_unit plan) generator sound place is_place unit within)
      ∙ ordinals-rows generator place unit (changing generator place unit)

  pub deleted-ordinals : (changes_of plan unit place).deleted ≡ dying (generator_of plan) place unit
  deleted-ordinals =
      ap (map (λ (row : Row). row.ordinal)) (deleted-dying (last_unit plan) generator sound place is_place unit within)
      ∙ ordinals-rows generator place (unit - 1) (dying generator place unit)

  pub changing-born : All (λ j. j < born_count (table_of plan place).births unit) (changing (generator_of plan) place unit)
  changing-born =
      let early : first_ordinal births unit ≤ born_count births unit = omega (arith, born_count-next births unit) in
      All-filter (λ ordinal. is_live generator place unit ordinal && change_unit generator place unit ordinal == unit) (λ j. j < born_count births unit)
      (range_with_len 0 (first_ordinal births unit)) (λ i d among. omega (arith, range-below (first_ordinal births unit) i d among, early))

  pub changing-early : All (λ j. j < first_ordinal (table_of plan place).births unit) (changing (generator_of plan) place unit)
  changing-early =
      All-filter (λ ordinal. is_live generator place unit ordinal && change_unit generator place unit ordinal == unit) (λ j. j < first_ordinal births unit)
      (range_with_len 0 (first_ordinal births unit)) (range-below (first_ordinal births unit))

  pub changing-alive : All (λ j. is_live (generator_of plan) place unit j ≡ true) (changing (generator_of plan) place unit)
  changing-alive i d among =
      (and_parts _ _ (filter_passes (λ ordinal. is_live generator place unit ordinal && change_unit generator place unit ordinal == unit)
      (range_with_len 0 (first_ordinal births unit)) i d among)).0

  dying-early : All (λ j. j < first_ordinal (table_of plan place).births unit) (dying (generator_of plan) place unit)
  dying-early =
      All-filter (λ ordinal. is_at (death generator place unit ordinal) unit) (λ j. j < first_ordinal births unit)
      (range_with_len 0 (first_ordinal births unit)) (range-below (first_ordinal births unit))

  pub dying-at : All (λ j. is_at (death (generator_of plan) place unit j) unit ≡ true) (dying (generator_of plan) place unit)
  dying-at i d among = filter_passes (λ ordinal. is_at (death generator place unit ordinal) unit) (range_with_len 0 (first_ordinal births unit)) i d among

  pub dying-born : All (λ j. j < rows_in_all plan place) (dying (generator_of plan) place unit)
  dying-born i d among =
      omega (arith, dying-early i d among, cohort-within births unit (last_unit plan) within)

  -- at the unit of its birth no row's own life has ended, nor has a parent died
  own_death-born : (drawn : ℕ) (life : Option Span) → IfSome life IsSpan → is_after (option_map (λ l. unit + l) (life_by life drawn)) unit ≡ true
  own_death-born drawn None is = refl
  own_death-born drawn (Some life) is = lt-ltb unit _ (omega (arith, is.some_unit))

  pub newborn-alive : (index : ℕ) → index < cohort_size (table_of plan place).births unit →
      is_live (generator_of plan) place unit (first_ordinal (table_of plan place).births unit + index) ≡ true
  newborn-alive index inside =
      let table : TableLayout = table_of plan place in
      let earlier : List Known = take place (known_tables generator) in
      ap (λ (death : Option ℕ). is_after death unit) (death_by-first_ordinal (known_of generator place) unit unit index (omega arith) inside)
      ∙ is_after-lesser_from _ _ unit (own_death-born (generator.order.place (length earlier) life_column unit index) table.life (sound place is_place).life)
      (parents-alive_now (last_unit plan) generator.order earlier (sure_life generator.tables) table.births unit index within inside (cascades_of table)
      (cascades-of (last_unit plan) generator sound place is_place))

  -- a cohort has at most 2^40 rows with those before it
  pub cohort-limit : first_ordinal (table_of plan place).births unit + cohort_size (table_of plan place).births unit ≤ 2 ^ 40
  cohort-limit = omega (arith, row_limit plan limits place below, cohort-within births unit (last_unit plan) within)

  -- ---- its statements

  pub updates-at : updates (generator_of plan) unit place ≡ map (put_at plan unit place) (changing (generator_of plan) place unit)
  updates-at =
      ap (map (put_of generator unit place)) (updated-changing (last_unit plan) generator sound place is_place unit within)
      ∙ map-map (put_of generator unit place) (row_at generator place unit) (changing generator place unit)

  pub insertions-at : insertions (generator_of plan) unit place ≡ map (put_at plan unit place) (newborn (generator_of plan) place unit)
  insertions-at =
      ap (map (put_of generator unit place)) (inserted-newborn (last_unit plan) generator sound place is_place unit within)
      ∙ map-map (put_of generator unit place) (row_at generator place unit) (newborn generator place unit)

  -- a row that a unit deletes is born by the unit before
  dropped : (unit : ℕ) → unit ≤ last_unit plan → (j : ℕ) → j < first_ordinal (table_of plan place).births unit →
      drop_of (generator_of plan) place (row_at (generator_of plan) place (unit - 1) j) ≡ drop_at plan place j
  dropped zero within j early = absurd (omega (arith, early))
  dropped (suc unit) within j early =
      let before : suc unit - 1 ≡ unit = omega arith in
      let all : born_count births unit ≡ first_ordinal births (suc unit) = ap (first_ordinal births) (add-one unit) in
      ap (λ (u : ℕ). drop_of generator place (row_at generator place u j)) before
      ∙ ap (drop_row place) (row_key-at generator (last_unit plan) place unit j (omega (arith, within)) (omega (arith, early, all)))

  pub deletions-at : deletions (generator_of plan) unit place ≡ map (drop_at plan place) (dying (generator_of plan) place unit)
  deletions-at =
      ap (map (drop_of generator place)) (deleted-dying (last_unit plan) generator sound place is_place unit within)
      ∙ map-map (drop_of generator place) (row_at generator place (unit - 1)) (dying generator place unit)
      ∙ map-each (λ j. drop_of generator place (row_at generator place (unit - 1) j)) (drop_at plan place) (dying generator place unit)
      (λ i d among. dropped unit within (get_or (dying generator place unit) i d) (dying-early i d among))

  -- ---- what is told of it

  pub updates-told : (xs : List ℕ) → xs ≡ (changes_of plan unit place).updated → map (put_at plan unit place) xs ≡ updates (generator_of plan) unit place
  updates-told xs told = ap (map (put_at plan unit place)) (told ∙ updated-ordinals) ∙ sym updates-at

  pub updates-born : (xs : List ℕ) → xs ≡ (changes_of plan unit place).updated → All (λ j. j < born_count (table_of plan place).births unit) xs
  updates-born xs told = subst (All (λ j. j < born_count births unit)) (sym (told ∙ updated-ordinals)) changing-born

  pub updates-alive : (xs : List ℕ) → xs ≡ (changes_of plan unit place).updated → All (λ j. is_live (generator_of plan) place unit j ≡ true) xs
  updates-alive xs told = subst (All (λ j. is_live generator place unit j ≡ true)) (sym (told ∙ updated-ordinals)) changing-alive

  pub deletions-told : (xs : List ℕ) → xs ≡ (changes_of plan unit place).deleted → map (drop_at plan place) xs ≡ deletions (generator_of plan) unit place
  deletions-told xs told = ap (map (drop_at plan place)) (told ∙ deleted-ordinals) ∙ sym deletions-at

  pub deletions-born : (xs : List ℕ) → xs ≡ (changes_of plan unit place).deleted → All (λ j. j < rows_in_all plan place) xs
  deletions-born xs told = subst (All (λ j. j < rows_in_all plan place)) (sym (told ∙ deleted-ordinals)) dying-born

  pub insertions-told : (cohort : Cohort) → cohort ≡ (changes_of plan unit place).inserted → map (put_at plan unit place) (range_with_len cohort.first cohort.size) ≡ insertions (generator_of plan) unit place
  insertions-told cohort told = ap (λ (c : Cohort). map (put_at plan unit place) (range_with_len c.first c.size)) told ∙ sym insertions-at

  pub insertions-cohort : (cohort : Cohort) → cohort ≡ (changes_of plan unit place).inserted → IsCohort plan place unit cohort
  insertions-cohort cohort told =
      subst (IsCohort plan place unit) (sym told) (record { first = refl; size = refl; limit = cohort-limit })

-- ---- a unit

-- at unit 0 all rows are new
all-new : (generator : Generator) (place : ℕ) (xs : List ℕ) → filter (λ (row : Row). row.born == 0) (map (row_at generator place 0) xs) ≡ map (row_at generator place 0) xs
unfolding birth
all-new generator place [] = refl
all-new generator place (x ∷ xs) = ap (λ (rows : List Row). row_at generator place 0 x ∷ rows) (all-new generator place xs)

inserted-first : (plan : Project) → IsInLimits plan → (place : ℕ) → inserted (generator_of plan) place 0 ≡ rows_at (generator_of plan) place 0
unfolding inserted
inserted-first plan limits place =
    let generator : Generator = generator_of plan in
    let rows : rows_at generator place 0 ≡ map (row_at generator place 0) (living generator place 0) =
    rows_at-rows_of (last_unit plan) generator place 0 (AreSound-accepted plan limits) (omega arith) in
    ap (filter (λ (row : Row). row.born == 0)) rows ∙ all-new generator place (living generator place 0) ∙ sym rows

-- so its statements are its insertions
pub unit_statements-first : (plan : Project) → IsInLimits plan → unit_statements (generator_of plan) 0 ≡ flat_map (insertions (generator_of plan) 0) (places (generator_of plan))
unfolding unit_statements
unit_statements-first plan limits =
    let generator : Generator = generator_of plan in
    flat_map-each (λ place. map (put_of generator 0 place) (rows_at generator place 0)) (insertions generator 0)
    (λ place. ap (map (put_of generator 0 place)) (sym (inserted-first plan limits place))) (places generator)

-- a unit's statements are its updates, its deletions and its insertions; unit 0 has insertions alone
pub unit_statements-parts : (plan : Project) → IsInLimits plan → (unit : ℕ) →
    unit_statements (generator_of plan) unit
    ≡ flat_map (updates (generator_of plan) unit) (places (generator_of plan))
    ++ flat_map (deletions (generator_of plan) unit) (reverse (places (generator_of plan)))
    ++ flat_map (insertions (generator_of plan) unit) (places (generator_of plan))
unfolding unit_statements updated deleted
unit_statements-parts plan limits zero =
    let generator : Generator = generator_of plan in
    unit_statements-first plan limits
    ∙ ap₂ (λ (first second : List Statement). first ++ second ++ flat_map (insertions generator 0) (places generator))
    (sym (flat_map-nothing (places generator))) (sym (flat_map-nothing (reverse (places generator))))
unit_statements-parts plan limits (suc unit) = refl
