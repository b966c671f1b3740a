-- What a unit deletes, updates and inserts, in closed form.
use Rattle.std.proofs.Common.{◌≡◌, ℕ, zero, suc, ◌+◌, ◌-◌, ◌<◌, ◌≤◌, Bool, true, false, ◌&&◌, ◌==◌, Option, Some, None, is_none, option_and_then, List, [], ◌++◌, filter, filter_map, length, map, take, get_or, unwrap_or, inl, inr, add-one, ap, ap₂, arith, refl, sym, subst, eq-eqb, ne_eqb, ◌∙◌}
use Rattle.std.specs.Prelude.{if◌then◌else◌}
use Rattle.std.specs.List.{range_with_len, take-map}
use Rattle.std.proofs.lemmas.Bool.{cases_Bool}
use Rattle.std.proofs.lemmas.List.{get_or-map, length-map}
use Rattle.std.proofs.lemmas.Option.{none-some}
use Rattle.std.proofs.lemmas.List.Elements.{filter-append, filter_map-append}
use Rattle.cohort_sizes.specs.Births.{birth, born_count, cohort_size, first_ordinal, index_at}
use Rattle.schema_facts.specs.Layout.{TableLayout, table_at}
use Rattle.schema_facts.specs.Lineage.{sure_life}
use Rattle.life_intervals.specs.Generator.{Generator, Order}
use Rattle.life_intervals.specs.Intervals.{Known, change_unit, changing, death, death_by, dying, is_after, is_at, is_live, known_by, known_of, known_tables, newborn, nothing_known, row_at, row_by}
use Rattle.schema_facts.specs.References.{cascades_of, references_of}
use Rattle.life_intervals.specs.Rows.{Row, State, cohort, new_row}
use Rattle.life_intervals.specs.Simulation.{kept, rows_at, simulation, with_deletions, with_updates}
use Rattle.life_intervals.specs.Sound.{AreSound}
use Rattle.life_intervals.specs.Streams.{deleted, inserted, updated}
use Rattle.life_intervals.proofs.AcceptedLemmas.{row_at-changed}
use Rattle.cohort_sizes.proofs.CohortLemmas.{birth-before, birth-le, born_count-next, index_at-below}
use Rattle.life_intervals.proofs.DeathLemmas.{is_at-later, is_at-now, is_at-passed}
use Rattle.life_intervals.proofs.FilterMaps.{filter-filter_map, filter-map_all, filter_map-filter_map, filter_map-range_none, filter_map-range_same, map-filter}
use Rattle.life_intervals.proofs.KnownLemmas.{cascades-of, known_at-known_of, length-known_tables, refers-of}
use Rattle.life_intervals.proofs.ParentLemmas.{Finds-aged, parent_choice-all, parents-alive_now}
use Rattle.life_intervals.proofs.Ranges.{map-range_with_len_same}
use Rattle.life_intervals.proofs.RowLemmas.{Finds, aged_row, aged_rows, death_by-early, kept-live_row, live_row, live_rows, new_row-live_row, older_rows}
use Rattle.life_intervals.proofs.SimulationLemmas.{cohort-live, ordinals_of, range-cohort, rows_at-rows_of, rows_of-live, simulation-live, with_deletions-live, with_updates-aged}

-- ---- one row

-- the deletions of the next unit don't keep a row exactly where it dies then
unkept-row : (order : Order) (earlier : List Known) (table : TableLayout) (unit ordinal : ℕ) (state : State) → ordinal < born_count table.births unit →
    Finds order earlier state (references_of table) (birth table.births unit ordinal) (index_at table.births unit ordinal) unit →
    option_and_then (λ row. if is_none (kept (suc unit) state table row) then Some row else None) (live_row order (known_by order earlier table) unit ordinal)
    ≡ (if is_at (death_by (known_by order earlier table) (suc unit) ordinal) (suc unit) then Some (row_by order (known_by order earlier table) unit ordinal) else None)
unkept-row order earlier table unit ordinal state born finds =
    let known : Known = known_by order earlier table in
    let row : Row = row_by order known unit ordinal in
    let dies : Option ℕ = death_by known unit ordinal in
    let goal : Option ℕ → Type 0 = λ d. option_and_then (λ row. if is_none (kept (suc unit) state table row) then Some row else None) (live_row order known unit ordinal) ≡ (if is_at d (suc unit) then Some row else None) in
    subst goal (sym (death_by-early known unit ordinal born))
    (elim (cases_Bool (is_after dies unit)) [
      | inr dead ↦ rw (dead, is_at-passed dies unit dead) refl
      | inl alive ↦
          let keeps : kept (suc unit) state table row ≡ aged_row order known unit ordinal = rw alive at (kept-live_row order earlier table unit ordinal state born finds) in
          elim (cases_Bool (is_after dies (suc unit))) [
            | inl on ↦ rw (alive, keeps, on, is_at-later dies (suc unit) on) refl
            | inr over ↦ rw (alive, keeps, over, is_at-now dies unit alive over) refl
          ]
    ])

-- a row that lives on past the next unit is the one that it updates exactly where it changes then
updated-row : (order : Order) (known : Known) (unit ordinal : ℕ) →
    option_and_then (λ (row : Row). if row.changed == unit then Some row else None) (live_row order known unit ordinal)
    ≡ (if is_after (death_by known unit ordinal) unit && (row_by order known unit ordinal).changed == unit then Some (row_by order known unit ordinal) else None)
updated-row order known unit ordinal = elim (cases_Bool (is_after (death_by known unit ordinal) unit)) [
  | inl alive ↦ rw alive refl
  | inr dead ↦ rw dead refl
]

-- what a test lets through is what it is
some-passed : {X : Type 0} (passes : Bool) (x y : X) → Some x ≡ (if passes then Some y else None) → x ≡ y
some-passed true x y same = ap (λ o. unwrap_or o x) same
some-passed false x y same = absurd (none-some x (sym same))

-- ---- a table

module _ (units : ℕ) (generator : Generator) (sound : AreSound units generator.tables) (place : ℕ) (below : place < length generator.tables) where
  -- the rows of the tables before it after the deletions of a unit
  deletions-before : (unit : ℕ) → unit ≤ units →
      take place (with_deletions generator (suc unit) (simulation generator unit)) ≡ map (λ known. aged_rows generator.order known unit) (take place (known_tables generator))
  deletions-before unit within =
      ap (λ state. take place (with_deletions generator (suc unit) state)) (simulation-live units generator sound unit within)
      ∙ ap (take place) (with_deletions-live units generator sound unit within)
      ∙ take-map (λ known. aged_rows generator.order known unit) place (known_tables generator)

  -- and its own, after its updates
  updates-at : (unit : ℕ) → unit ≤ units →
      get_or (with_updates generator (suc unit) (with_deletions generator (suc unit) (simulation generator unit))) place [] ≡ older_rows generator.order (known_of generator place) (suc unit)
  updates-at unit within =
      ap (λ state. get_or (with_updates generator (suc unit) (with_deletions generator (suc unit) state)) place []) (simulation-live units generator sound unit within)
      ∙ ap (λ (state : State). get_or (with_updates generator (suc unit) state) place []) (with_deletions-live units generator sound unit within)
      ∙ ap (λ (state : State). get_or state place []) (with_updates-aged units generator sound unit)
      ∙ get_or-map (λ known. older_rows generator.order known (suc unit)) (known_tables generator) place nothing_known [] (omega (arith, length-known_tables generator, below))
      ∙ ap (λ known. older_rows generator.order known (suc unit)) (known_at-known_of generator place below)

  rows_at-live : (unit : ℕ) → unit ≤ units → rows_at generator place unit ≡ live_rows generator.order (known_of generator place) unit
  rows_at-live unit within = rows_at-rows_of units generator place unit sound within ∙ rows_of-live generator place unit

  pub deleted-dying : (unit : ℕ) → unit ≤ units → deleted generator place unit ≡ map (row_at generator place (unit - 1)) (dying generator place unit)
  unfolding deleted
  deleted-dying zero within = refl
  deleted-dying (suc unit) within =
      let table : TableLayout = table_at generator.tables place in
      let known : Known = known_of generator place in
      let earlier : List Known = take place (known_tables generator) in
      let stepped : State = map (λ known. aged_rows generator.order known unit) earlier in
      let test : Row → Bool = λ row. is_none (kept (suc unit) stepped table row) in
      let keep : Row → Option Row = λ row. if is_none (kept (suc unit) stepped table row) then Some row else None in
      let all : born_count table.births unit ≡ first_ordinal table.births (suc unit) = ap (first_ordinal table.births) (add-one unit) in
      let before : suc unit - 1 ≡ unit = omega arith in
      ap₂ (λ (earlier : State) (rows : List Row). filter (λ row. is_none (kept (suc unit) earlier table row)) rows) (deletions-before unit (omega (arith, within))) (rows_at-live unit (omega (arith, within)))
      ∙ filter-filter_map test (live_rows generator.order known unit)
      ∙ filter_map-filter_map keep (live_row generator.order known unit) (range_with_len 0 (born_count table.births unit))
      ∙ filter_map-range_same (λ ordinal. option_and_then keep (live_row generator.order known unit ordinal))
      (λ ordinal. if is_at (death generator place (suc unit) ordinal) (suc unit) then Some (row_at generator place unit ordinal) else None) 0 (born_count table.births unit)
      (λ ordinal low high.
      let born : ordinal < born_count table.births unit = omega (arith, high) in
      let early : birth table.births unit ordinal ≤ unit = birth-le table.births unit ordinal born in
      unkept-row generator.order earlier table unit ordinal stepped born
      (Finds-aged units generator.order earlier (sure_life generator.tables) table.births (birth table.births unit ordinal) (index_at table.births unit ordinal) (omega (arith, early, within))
      (index_at-below table.births unit ordinal born) unit early (references_of table) (refers-of units generator sound place below)))
      ∙ sym (map-filter (λ ordinal. is_at (death generator place (suc unit) ordinal) (suc unit)) (row_at generator place unit) (range_with_len 0 (born_count table.births unit)))
      ∙ ap₂ (λ (u n : ℕ). map (row_at generator place u) (filter (λ ordinal. is_at (death generator place (suc unit) ordinal) (suc unit)) (range_with_len 0 n))) (sym before) all

  pub updated-changing : (unit : ℕ) → unit ≤ units → updated generator place unit ≡ map (row_at generator place unit) (changing generator place unit)
  unfolding updated
  updated-changing zero within = refl
  updated-changing (suc unit) within =
      let table : TableLayout = table_at generator.tables place in
      let known : Known = known_of generator place in
      let test : Row → Bool = λ row. row.changed == suc unit in
      let keep : Row → Option Row = λ row. if row.changed == suc unit then Some row else None in
      let count : ℕ = first_ordinal table.births (suc unit) in
      let changes : ℕ → Bool = λ ordinal. is_live generator place (suc unit) ordinal && change_unit generator place (suc unit) ordinal == suc unit in
      ap (filter test) (updates-at unit (omega (arith, within)))
      ∙ filter-filter_map test (older_rows generator.order known (suc unit))
      ∙ filter_map-filter_map keep (live_row generator.order known (suc unit)) (range_with_len 0 count)
      ∙ filter_map-range_same (λ ordinal. option_and_then keep (live_row generator.order known (suc unit) ordinal))
      (λ ordinal. if changes ordinal then Some (row_at generator place (suc unit) ordinal) else None) 0 count
      (λ ordinal low high.
      updated-row generator.order known (suc unit) ordinal
      ∙ ap (λ (changed : ℕ). if is_live generator place (suc unit) ordinal && changed == suc unit then Some (row_at generator place (suc unit) ordinal) else None)
      (row_at-changed generator place (suc unit) ordinal below))
      ∙ sym (map-filter changes (row_at generator place (suc unit)) (range_with_len 0 count))

  -- the rows that the tables before it hold after the insertions of a unit
  simulation-before : (unit : ℕ) → unit ≤ units → take place (simulation generator unit) ≡ map (λ known. live_rows generator.order known unit) (take place (known_tables generator))
  simulation-before unit within =
      ap (take place) (simulation-live units generator sound unit within) ∙ take-map (λ known. live_rows generator.order known unit) place (known_tables generator)

  pub inserted-cohort : (unit : ℕ) → unit ≤ units → inserted generator place unit ≡ cohort generator.order unit (take place (simulation generator unit)) (table_at generator.tables place)
  unfolding inserted
  inserted-cohort unit within =
      let table : TableLayout = table_at generator.tables place in
      let known : Known = known_of generator place in
      let state : State = map (λ known. live_rows generator.order known unit) (take place (known_tables generator)) in
      let is_new : Row → Bool = λ row. row.born == unit in
      let keep : Row → Option Row = λ row. if row.born == unit then Some row else None in
      let first : ℕ = first_ordinal table.births unit in
      let old : filter is_new (older_rows generator.order known unit) ≡ [] =
      filter-filter_map is_new (older_rows generator.order known unit)
      ∙ filter_map-filter_map keep (live_row generator.order known unit) (range_with_len 0 first)
      ∙ filter_map-range_none (λ ordinal. option_and_then keep (live_row generator.order known unit ordinal)) 0 first
      (λ ordinal low high. old-row unit ordinal (omega (arith, high))) in
      let new : filter_map (live_row generator.order known unit) (ordinals_of table unit) ≡ cohort generator.order unit state table =
      sym (cohort-live units generator.order (take place (known_tables generator)) (sure_life generator.tables) table unit within (sound place below).life (refers-of units generator sound place below)) in
      ap (filter is_new)
      (rows_at-live unit within
      ∙ ap (filter_map (live_row generator.order known unit)) (range-cohort table unit)
      ∙ filter_map-append (live_row generator.order known unit) (range_with_len 0 first) (ordinals_of table unit)
      ∙ ap (λ rows. older_rows generator.order known unit ++ rows) new)
      ∙ filter-append is_new (older_rows generator.order known unit) (cohort generator.order unit state table)
      ∙ ap₂ (λ (xs ys : List Row). xs ++ ys) old
      (filter-map_all is_new (new_row generator.order unit state table) (range_with_len 0 (cohort_size table.births unit)) (λ index. eq-eqb unit unit refl))
      ∙ ap (λ (state : State). cohort generator.order unit state table) (sym (simulation-before unit within))
    where
      -- a row that is born before a unit isn't new at it
      old-row : (unit ordinal : ℕ) → ordinal < first_ordinal (table_at generator.tables place).births unit →
          option_and_then (λ (row : Row). if row.born == unit then Some row else None) (live_row generator.order (known_of generator place) unit ordinal) ≡ None
      old-row unit ordinal early =
          let births = (table_at generator.tables place).births in
          let before : birth births unit ordinal < unit = birth-before births unit unit ordinal (omega (arith, early, born_count-next births unit)) early in
          elim (cases_Bool (is_after (death_by (known_of generator place) unit ordinal) unit)) [
            | inl alive ↦ rw (alive, ne_eqb (birth births unit ordinal) unit (λ same. omega (arith, before, same))) refl
            | inr dead ↦ rw dead refl
          ]

  -- the rows of a cohort are those of its ordinals
  pub cohort-newborn : (unit : ℕ) → unit ≤ units → cohort generator.order unit (take place (simulation generator unit)) (table_at generator.tables place) ≡ map (row_at generator place unit) (newborn generator place unit)
  cohort-newborn unit within =
      let table : TableLayout = table_at generator.tables place in
      let earlier : List Known = take place (known_tables generator) in
      let state : State = map (λ known. live_rows generator.order known unit) earlier in
      let places : length state ≡ length earlier = length-map earlier (λ known. live_rows generator.order known unit) in
      ap (λ (state : State). cohort generator.order unit state table) (simulation-before unit within)
      ∙ map-range_with_len_same (new_row generator.order unit state table) (row_at generator place unit) 0 (first_ordinal table.births unit) (cohort_size table.births unit)
      (λ index inside.
      let at : 0 + index ≡ index = omega arith in
      ap (new_row generator.order unit state table) at
      ∙ some-passed (is_live generator place unit (first_ordinal table.births unit + index)) _ _
      (new_row-live_row generator.order earlier table unit index state places inside (sound place below).life
      (parent_choice-all units generator.order earlier (sure_life generator.tables) table.births unit index within inside (length state) places (references_of table) (refers-of units generator sound place below))
      (parents-alive_now units generator.order earlier (sure_life generator.tables) table.births unit index within inside (cascades_of table) (cascades-of units generator sound place below))))

  pub inserted-newborn : (unit : ℕ) → unit ≤ units → inserted generator place unit ≡ map (row_at generator place unit) (newborn generator place unit)
  inserted-newborn unit within = inserted-cohort unit within ∙ cohort-newborn unit within
