-- The simulation is its closed form, by induction on units.
use Rattle.std.proofs.Common.{◌≡◌, ℕ, zero, suc, ◌+◌, ◌<◌, ◌≤◌, List, [], ◌∷◌, ◌++◌, filter_map, flat_map, length, map, option_and_then, option_map, take, zip, get_or, Option, inl, inr, add-one, ap, arith, refl, sym, subst, ◌∙◌}
use Rattle.std.specs.Prelude.{IfSome}
use Rattle.std.specs.List.{AllByRecursion, range_with_len}
use Rattle.std.proofs.lemmas.Bool.{cases_lt}
use Rattle.std.proofs.lemmas.List.{append-nil, get_or-map, get_or_past, length-map}
use Rattle.std.proofs.lemmas.List.Elements.{filter_map-append}
use Rattle.std.proofs.lemmas.List.FromFn.{fill_by_all}
use Rattle.cohort_sizes.specs.Births.{birth, born_count, cohort_size, first_ordinal, index_at}
use Rattle.schema_facts.specs.InTurn.{in_turn}
use Rattle.schema_facts.specs.Layout.{TableLayout, no_table, table_at}
use Rattle.schema_facts.specs.Lineage.{sure_life}
use Rattle.life_intervals.specs.Generator.{Generator, Order}
use Rattle.life_intervals.specs.Intervals.{Known, interval_state, is_live, known_by, known_of, known_tables, nothing_known, row_at, rows_of}
use Rattle.schema_facts.specs.References.{cascades_of, references_of}
use Rattle.life_intervals.specs.Rows.{Row, State, cohort, new_row}
use Rattle.life_intervals.specs.Simulation.{kept, rows_at, simulation, step, waited, with_changes, with_cohort, with_deletions, with_insertions, with_updates, without_dead}
use Rattle.schema_plan.specs.Limits.{IsSpan}
use Rattle.life_intervals.specs.Sound.{AreSound}
use Rattle.life_intervals.proofs.CascadeLemmas.{AllByRecursion-filter, is_cascading}
use Rattle.cohort_sizes.proofs.CohortLemmas.{birth-le, born_count-next, first_ordinal-none, index_at-below}
use Rattle.life_intervals.proofs.FilterMaps.{filter_map-filter_map, filter_map-range_same, map-filter, map-filter_map, map-filter_map_range}
use Rattle.life_intervals.proofs.InTurnLemmas.{in_turn-zip_known}
use Rattle.life_intervals.proofs.KnownLemmas.{known_at-known_of, length-known_tables, refers-of}
use Rattle.life_intervals.proofs.ParentLemmas.{Finds-aged, Refers, parent_choice-all, parents-alive_now}
use Rattle.life_intervals.proofs.Ranges.{flat_map-range_with_len_more, range_with_len-add}
use Rattle.life_intervals.proofs.RowLemmas.{aged_row, aged_rows, kept-live_row, live_row, live_rows, new_row-live_row, older_rows, waited-aged_row}

-- ---- the ordinals of cohorts

-- the ordinals that are born by a unit are those of its cohort, after those born before it
pub range-cohort : (table : TableLayout) (unit : ℕ) → range_with_len 0 (born_count table.births unit) ≡ range_with_len 0 (first_ordinal table.births unit) ++ range_with_len (first_ordinal table.births unit) (cohort_size table.births unit)
range-cohort table unit =
    ap (range_with_len 0) (born_count-next table.births unit) ∙ range_with_len-add 0 (first_ordinal table.births unit) (cohort_size table.births unit)
    ∙ ap (λ (a : ℕ). range_with_len 0 (first_ordinal table.births unit) ++ range_with_len a (cohort_size table.births unit)) (omega arith)

-- the ordinals of a unit's cohort
abbrev pub ordinals_of : TableLayout → ℕ → List ℕ
ordinals_of table unit = range_with_len (first_ordinal table.births unit) (cohort_size table.births unit)

-- the ordinals that are born by a unit are those of the cohorts, one after the other
pub range-cohorts : (table : TableLayout) (unit : ℕ) → range_with_len 0 (born_count table.births unit) ≡ flat_map (ordinals_of table) (range_with_len 0 (unit + 1))
range-cohorts table zero =
    let count : born_count table.births 0 ≡ cohort_size table.births 0 = omega (arith, born_count-next table.births 0) in
    ap (range_with_len 0) count ∙ sym (append-nil (ordinals_of table 0))
range-cohorts table (suc unit) =
    range-cohort table (suc unit)
    ∙ ap (λ (n : ℕ). range_with_len 0 n ++ ordinals_of table (suc unit)) (sym (ap (first_ordinal table.births) (add-one unit)))
    ∙ ap (λ (ordinals : List ℕ). ordinals ++ ordinals_of table (suc unit)) (range-cohorts table unit)
    ∙ ap (λ (u : ℕ). flat_map (ordinals_of table) (range_with_len 0 u) ++ ordinals_of table (suc unit)) (add-one unit)
    ∙ sym (flat_map-range_with_len_more (ordinals_of table) (suc unit))

-- ---- the rows of one table through a unit

-- the deletions of the unit after one
pub without_dead-live : (units : ℕ) (order : Order) (earlier : List Known) (sure : ℕ → Option ℕ) (table : TableLayout) (unit : ℕ) → unit ≤ units →
    AllByRecursion (Refers units earlier sure table.births) (references_of table) →
    without_dead (suc unit) (map (λ known. aged_rows order known unit) earlier) (table, live_rows order (known_by order earlier table) unit) ≡ aged_rows order (known_by order earlier table) unit
without_dead-live units order earlier sure table unit within refers =
    let known : Known = known_by order earlier table in
    let stepped : State = map (λ known. aged_rows order known unit) earlier in
    filter_map-filter_map (kept (suc unit) stepped table) (live_row order known unit) (range_with_len 0 (born_count table.births unit))
    ∙ filter_map-range_same (λ ordinal. option_and_then (kept (suc unit) stepped table) (live_row order known unit ordinal)) (aged_row order known unit) 0 (born_count table.births unit)
    (λ ordinal low high.
    let born : ordinal < born_count table.births unit = omega (arith, high) in
    let early : birth table.births unit ordinal ≤ unit = birth-le table.births unit ordinal born in
    kept-live_row order earlier table unit ordinal stepped born
    (Finds-aged units order earlier sure table.births (birth table.births unit ordinal) (index_at table.births unit ordinal) (omega (arith, early, within))
    (index_at-below table.births unit ordinal born) unit early (references_of table) refers))

-- its updates
pub with_changes-aged : (order : Order) (known : Known) (unit : ℕ) (earlier : State) → IfSome known.table.update (λ period. 1 ≤ period) →
    with_changes (suc unit) earlier (known.table, aged_rows order known unit) ≡ older_rows order known (suc unit)
with_changes-aged order known unit earlier some =
    map-filter_map (waited (suc unit) known.table) (aged_row order known unit) (range_with_len 0 (born_count known.table.births unit))
    ∙ filter_map-range_same (λ ordinal. option_map (waited (suc unit) known.table) (aged_row order known unit ordinal)) (live_row order known (suc unit)) 0 (born_count known.table.births unit)
    (λ ordinal low high. waited-aged_row order known unit ordinal some (omega (arith, high)))
    ∙ ap (λ (u : ℕ). filter_map (live_row order known (suc unit)) (range_with_len 0 (first_ordinal known.table.births u))) (add-one unit)

-- the rows that a unit inserts are those of their ordinals
pub cohort-live : (units : ℕ) (order : Order) (earlier : List Known) (sure : ℕ → Option ℕ) (table : TableLayout) (unit : ℕ) → unit ≤ units → IfSome table.life IsSpan →
    AllByRecursion (Refers units earlier sure table.births) (references_of table) →
    cohort order unit (map (λ known. live_rows order known unit) earlier) table ≡ filter_map (live_row order (known_by order earlier table) unit) (ordinals_of table unit)
cohort-live units order earlier sure table unit within life refers =
    let state : State = map (λ known. live_rows order known unit) earlier in
    let known : Known = known_by order earlier table in
    let first : ℕ = first_ordinal table.births unit in
    let places : length state ≡ length earlier = length-map earlier (λ known. live_rows order known unit) in
    map-filter_map_range (new_row order unit state table) (live_row order known unit) first 0 (cohort_size table.births unit)
    (λ index low high.
    let below : index < cohort_size table.births unit = omega (arith, high) in
    new_row-live_row order earlier table unit index state places below life
    (parent_choice-all units order earlier sure table.births unit index within below (length state) places (references_of table) refers)
    (parents-alive_now units order earlier sure table.births unit index within below (cascades_of table)
    (AllByRecursion-filter (Refers units earlier sure table.births) is_cascading (references_of table) refers)))
    ∙ ap (λ (a : ℕ). filter_map (live_row order known unit) (range_with_len a (cohort_size table.births unit))) (omega arith)

-- the insertions of a unit
pub with_cohort-older : (units : ℕ) (order : Order) (earlier : List Known) (sure : ℕ → Option ℕ) (table : TableLayout) (unit : ℕ) → unit ≤ units → IfSome table.life IsSpan →
    AllByRecursion (Refers units earlier sure table.births) (references_of table) →
    with_cohort order unit (map (λ known. live_rows order known unit) earlier) (table, older_rows order (known_by order earlier table) unit) ≡ live_rows order (known_by order earlier table) unit
with_cohort-older units order earlier sure table unit within life refers =
    let known : Known = known_by order earlier table in
    ap (λ rows. older_rows order known unit ++ rows) (cohort-live units order earlier sure table unit within life refers)
    ∙ sym (ap (filter_map (live_row order known unit)) (range-cohort table unit) ∙ filter_map-append (live_row order known unit) (range_with_len 0 (first_ordinal table.births unit)) (ordinals_of table unit))

-- ---- all tables through a unit

-- what tables become in turn, place by place
in_turn-tables : (generator : Generator) (give : State → TableLayout × List Row → List Row) (before after : Known → List Row) →
    ((place : ℕ) → place < length generator.tables →
    give (map after (take place (known_tables generator))) (table_at generator.tables place, before (known_of generator place)) ≡ after (known_of generator place)) →
    in_turn give [] (zip generator.tables (map before (known_tables generator))) ≡ map after (known_tables generator)
in_turn-tables generator give before after each =
    in_turn-zip_known give before after nothing_known no_table generator.tables (known_tables generator) (sym (length-known_tables generator))
    (λ place below.
    let same : known_of generator place ≡ get_or (known_tables generator) place nothing_known = sym (known_at-known_of generator place below) in
    subst (λ (known : Known). give (map after (take place (known_tables generator))) (table_at generator.tables place, before known) ≡ after known) same (each place below))

empty_tables-older : (order : Order) (tables : List TableLayout) (given : List Known) → map (λ (table : TableLayout). let none : List Row = [] in none) tables ≡ map (λ known. older_rows order known 0) (in_turn (known_by order) given tables)
empty_tables-older order [] given = refl
empty_tables-older order (table ∷ tables) given = ap (λ state. [] ∷ state) (empty_tables-older order tables (given ++ known_by order given table ∷ []))

module _ (units : ℕ) (generator : Generator) (sound : AreSound units generator.tables) where
  pub with_deletions-live : (unit : ℕ) → unit ≤ units →
      with_deletions generator (suc unit) (map (λ known. live_rows generator.order known unit) (known_tables generator)) ≡ map (λ known. aged_rows generator.order known unit) (known_tables generator)
  with_deletions-live unit within =
      in_turn-tables generator (without_dead (suc unit)) (λ known. live_rows generator.order known unit) (λ known. aged_rows generator.order known unit)
      (λ place below. without_dead-live units generator.order (take place (known_tables generator)) (sure_life generator.tables) (table_at generator.tables place) unit within (refers-of units generator sound place below))

  pub with_updates-aged : (unit : ℕ) →
      with_updates generator (suc unit) (map (λ known. aged_rows generator.order known unit) (known_tables generator)) ≡ map (λ known. older_rows generator.order known (suc unit)) (known_tables generator)
  with_updates-aged unit =
      in_turn-tables generator (with_changes (suc unit)) (λ known. aged_rows generator.order known unit) (λ known. older_rows generator.order known (suc unit))
      (λ place below.
      with_changes-aged generator.order (known_of generator place) unit (map (λ known. older_rows generator.order known (suc unit)) (take place (known_tables generator))) (sound place below).period)

  with_insertions-older : (unit : ℕ) → unit ≤ units →
      with_insertions generator unit (map (λ known. older_rows generator.order known unit) (known_tables generator)) ≡ map (λ known. live_rows generator.order known unit) (known_tables generator)
  with_insertions-older unit within =
      in_turn-tables generator (with_cohort generator.order unit) (λ known. older_rows generator.order known unit) (λ known. live_rows generator.order known unit)
      (λ place below.
      with_cohort-older units generator.order (take place (known_tables generator)) (sure_life generator.tables) (table_at generator.tables place) unit within (sound place below).life (refers-of units generator sound place below))

  pub simulation-live : (unit : ℕ) → unit ≤ units → simulation generator unit ≡ map (λ known. live_rows generator.order known unit) (known_tables generator)
  unfolding simulation
  simulation-live zero within = ap (with_insertions generator 0) (empty_tables-older generator.order generator.tables []) ∙ with_insertions-older 0 within
  simulation-live (suc unit) within =
      ap (step generator (suc unit)) (simulation-live unit (omega (arith, within)))
      ∙ ap (λ state. with_insertions generator (suc unit) (with_updates generator (suc unit) state)) (with_deletions-live unit (omega (arith, within)))
      ∙ ap (with_insertions generator (suc unit)) (with_updates-aged unit)
      ∙ with_insertions-older (suc unit) within

-- ---- the closed form

pub rows_of-live : (generator : Generator) (place unit : ℕ) → rows_of generator place unit ≡ live_rows generator.order (known_of generator place) unit
rows_of-live generator place unit =
    map-filter (is_live generator place unit) (row_at generator place unit) (range_with_len 0 (born_count (table_at generator.tables place).births unit))

pub interval_state-live : (generator : Generator) (unit : ℕ) → map (λ known. live_rows generator.order known unit) (known_tables generator) ≡ interval_state generator unit
interval_state-live generator unit =
    let known : List Known = known_tables generator in
    let rows : Known → List Row = λ known. live_rows generator.order known unit in
    fill_by_all (λ place. rows_of generator place unit) (map rows known) (length generator.tables) [] (length-map known rows ∙ length-known_tables generator)
    (λ place below.
    get_or-map rows known place nothing_known [] (omega (arith, length-known_tables generator, below))
    ∙ ap rows (known_at-known_of generator place below) ∙ sym (rows_of-live generator place unit))

pub simulation-interval_state : (units : ℕ) (generator : Generator) (unit : ℕ) → AreSound units generator.tables → unit ≤ units → simulation generator unit ≡ interval_state generator unit
simulation-interval_state units generator unit sound within = simulation-live units generator sound unit within ∙ interval_state-live generator unit

-- no table stands past the last one, and none has rows there
rows_of-past : (generator : Generator) (place unit : ℕ) → length generator.tables ≤ place → rows_of generator place unit ≡ []
rows_of-past generator place unit past =
    let none : born_count (table_at generator.tables place).births unit ≡ 0 =
    ap (λ (table : TableLayout). born_count table.births unit) (get_or_past generator.tables place no_table past) ∙ first_ordinal-none (unit + 1) in
    rows_of-live generator place unit ∙ ap (λ (n : ℕ). filter_map (live_row generator.order (known_of generator place) unit) (range_with_len 0 n)) none

-- the rows of the table at a place are those of the living
pub rows_at-rows_of : (units : ℕ) (generator : Generator) (place unit : ℕ) → AreSound units generator.tables → unit ≤ units → rows_at generator place unit ≡ rows_of generator place unit
unfolding rows_at
rows_at-rows_of units generator place unit sound within =
    let known : List Known = known_tables generator in
    let rows : Known → List Row = λ known. live_rows generator.order known unit in
    ap (λ (state : State). get_or state place []) (simulation-live units generator sound unit within)
    ∙ elim (cases_lt place (length generator.tables)) [
      | inl below ↦
          get_or-map rows known place nothing_known [] (omega (arith, length-known_tables generator, below))
          ∙ ap rows (known_at-known_of generator place below) ∙ sym (rows_of-live generator place unit)
      | inr past ↦
          get_or_past (map rows known) place [] (omega (arith, length-map known rows, length-known_tables generator, past))
          ∙ sym (rows_of-past generator place unit past)
    ]
