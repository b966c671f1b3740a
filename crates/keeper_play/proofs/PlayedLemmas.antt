-- Units that are played, one after the other.
use Rattle.std.proofs.Common.{◌≡◌, ◌<◌, ◌≤◌, ℕ, zero, suc, add-one, ◌+◌, ◌-◌, Bool, true, false, ◌&&◌, ◌||◌, ◌==◌, Option, Some, None, List, [], ◌∷◌, ◌++◌, filter, find, get_or, length, map, option_map, reverse, take, inl, inr, eq-eqb, eqb-true, le-ltb, lt-ltb, ltb, ltb-true, ne_eqb, refl, ap, ap₂, arith, subst, sym, ◌∙◌}
use Rattle.std.specs.Prelude.{All, IfSome, IsSome, if◌then◌else◌}
use Rattle.std.specs.List.{flat_map, list_any, range_with_len}
use Rattle.std.specs.Option.{option_and_then}
use Rattle.std.proofs.Math.Path.{fun_ext}
use Rattle.std.proofs.lemmas.Bool.{and_from, and_parts, cases_Bool, cases_eq, cases_lt, false≢true, true≢false}
use Rattle.std.proofs.lemmas.Option.{none-some}
use Rattle.std.proofs.lemmas.List.{append-nil, get_or_past, reverse-append}
use Rattle.std.proofs.lemmas.List.Elements.{All-filter, filter_passes}
use Rattle.std.proofs.lemmas.List.FromFn.{get_or-range_with_len, length-range_with_len}
use Rattle.cohort_sizes.specs.Births.{Births, birth, born_count, cohort_size, first_ordinal}
use Rattle.cohort_sizes.proofs.CohortLemmas.{birth-before, birth-le, born_count-le, born_count-next, first_ordinal-none}
use Rattle.schema_facts.specs.Dictionaries.{Project}
use Rattle.schema_facts.specs.Layout.{TableLayout, no_table, table_at}
use Rattle.schema_plan.specs.Limits.{IsInLimits}
use Rattle.schema_facts.proofs.Lists.{map-map}
use Rattle.life_intervals.specs.Generator.{Generator, generator_of, last_unit, rows_in_all, table_of}
use Rattle.life_intervals.specs.Intervals.{change_unit, changing, death, dying, is_after, is_at, is_live, living, newborn, row_at}
use Rattle.life_intervals.specs.Keys.{key_of}
use Rattle.life_intervals.specs.Rows.{Row}
use Rattle.life_intervals.specs.Simulation.{rows_at}
use Rattle.life_intervals.proofs.AcceptedLemmas.{AreSound-accepted, length-tables}
use Rattle.life_intervals.proofs.DeathLemmas.{is_after-before, is_at-later, is_at-now, is_at-passed}
use Rattle.life_intervals.proofs.LifeLemmas.{death-later}
use Rattle.life_intervals.proofs.Ranges.{filter-range_with_len_all, flat_map-range_with_len_more, range_with_len-add}
use Rattle.life_intervals.proofs.SimulationLemmas.{rows_at-rows_of}
use Rattle.row_lines.specs.Reports.{row_with_key}
use Rattle.row_keeper.specs.Kept.{KeptRow, KeptRows, NoneDangles, Statement, after_statements, drop_row, no_rows, put_row, with_row}
use Rattle.keeper_play.specs.Played.{put_at}
use Rattle.keeper_play.specs.Statements.{deletions, held_statements, insertions, kept_row, places, put_of, refs_of, row_key, rows_after, rows_of_unit, statements_to, unit_statements, updates}
use Rattle.row_keeper.specs.declared.keeper.RefTo.{RefTo}
use Rattle.keeper_play.proofs.RefLemmas.{row_key-at}
use Rattle.keeper_play.proofs.UnitLemmas.{changing-alive, changing-born, changing-early, deletions-at, dying-at, dying-born, insertions-at, map-each, newborn-alive, range-below, unit_statements-first, unit_statements-parts, updates-at}
use Rattle.keeper_play.proofs.OrdinalLemmas.{AreThere, IsThere, by_keys, find-only, key-only, row_with_key-at, row_with_key-has}
use Rattle.keeper_play.proofs.RunLemmas.{CanPut, IsOff, NoneLeads, Plays, plays-both, plays-drops, plays-none, plays-puts, with_rows, without_rows}
use Rattle.keeper_play.proofs.HeldLemmas.{LeadsTo, kept-next, refs-lead}

-- ---- numbers among some

-- rows of a table that are put stand there, and all others stay
with_rows-at : (plan : Project) (table : ℕ) (row : ℕ → KeptRow) (is : List ℕ) (rows : KeptRows) (j : ℕ) →
    with_rows plan table row is rows table j ≡ (if list_any (λ i. i == j) is then Some (row j) else rows table j)
with_rows-at plan table row [] rows j = refl
with_rows-at plan table row (i ∷ is) rows j =
    let rest = with_rows-at plan table row is (with_row table i (Some (row i)) rows) j in
    elim (cases_eq i j) [
      | inl here ↦ elim (cases_Bool (list_any (λ i. i == j) is)) [
        | inl later ↦ rw (eq-eqb i j here) (rest ∙ rw later refl)
        | inr last ↦ rw (eq-eqb i j here) (rest ∙ rw (last, eq-eqb table table refl, eq-eqb i j here) (ap (λ (n : ℕ). Some (row n)) here))
      ]
      | inr apart ↦ rw (ne_eqb i j apart) (rest ∙ rw (eq-eqb table table refl, ne_eqb i j apart) refl)
    ]

with_rows-other : (plan : Project) (table : ℕ) (row : ℕ → KeptRow) (is : List ℕ) (rows : KeptRows) (t j : ℕ) → (table ≡ t → ⊥) → with_rows plan table row is rows t j ≡ rows t j
with_rows-other plan table row [] rows t j other = refl
with_rows-other plan table row (i ∷ is) rows t j other =
    with_rows-other plan table row is (with_row table i (Some (row i)) rows) t j other ∙ rw (ne_eqb table t other) refl

-- rows of a table that are dropped don't
without_rows-at : (plan : Project) (table : ℕ) (is : List ℕ) (rows : KeptRows) (j : ℕ) →
    without_rows plan table is rows table j ≡ (if list_any (λ i. i == j) is then None else rows table j)
without_rows-at plan table [] rows j = refl
without_rows-at plan table (i ∷ is) rows j =
    let rest = without_rows-at plan table is (with_row table i None rows) j in
    elim (cases_eq i j) [
      | inl here ↦ elim (cases_Bool (list_any (λ i. i == j) is)) [
        | inl later ↦ rw (eq-eqb i j here) (rest ∙ rw later refl)
        | inr last ↦ rw (eq-eqb i j here) (rest ∙ rw (last, eq-eqb table table refl, eq-eqb i j here) refl)
      ]
      | inr apart ↦ rw (ne_eqb i j apart) (rest ∙ rw (eq-eqb table table refl, ne_eqb i j apart) refl)
    ]

without_rows-other : (plan : Project) (table : ℕ) (is : List ℕ) (rows : KeptRows) (t j : ℕ) → (table ≡ t → ⊥) → without_rows plan table is rows t j ≡ rows t j
without_rows-other plan table [] rows t j other = refl
without_rows-other plan table (i ∷ is) rows t j other =
    without_rows-other plan table is (with_row table i None rows) t j other ∙ rw (ne_eqb table t other) refl

-- a number is among those of a range that pass a test where it lies in it and passes
outside : (p : ℕ → Bool) (a n j : ℕ) → ((k : ℕ) → k < n → a + k ≡ j → ⊥) → list_any (λ i. i == j) (filter p (range_with_len a n)) ≡ false
outside p a zero j apart = refl
outside p a (suc n) j apart =
    let rest : list_any (λ i. i == j) (filter p (range_with_len (a + 1) n)) ≡ false =
    outside p (a + 1) n j (λ k below same. apart (k + 1) (omega arith) (omega (arith, same))) in
    elim (cases_Bool (p a)) [
      | inl passes ↦ rw (passes, ne_eqb a j (λ e. apart 0 (omega arith) (omega (arith, e)))) rest
      | inr fails ↦ rw fails rest
    ]

inside : (p : ℕ → Bool) (a n j : ℕ) → a ≤ j → j < a + n → list_any (λ i. i == j) (filter p (range_with_len a n)) ≡ p j
inside p a zero j from below = absurd (omega (arith, from, below))
inside p a (suc n) j from below = elim (cases_eq a j) [
  | inr later ↦
      let rest : list_any (λ i. i == j) (filter p (range_with_len (a + 1) n)) ≡ p j = inside p (a + 1) n j (omega (arith, from, later)) (omega (arith, below)) in
      elim (cases_Bool (p a)) [ inl passes ↦ rw (passes, ne_eqb a j later) rest | inr fails ↦ rw fails rest ]
  | inl here ↦ elim (cases_Bool (p a)) [
    | inl passes ↦ rw (passes, eq-eqb a j here) (sym (ap p (sym here) ∙ passes))
    | inr fails ↦ rw fails (outside p (a + 1) n j (λ k below e. omega (arith, e, here)) ∙ sym (ap p (sym here) ∙ fails))
  ]
]

among-front : (p : ℕ → Bool) (n j : ℕ) → list_any (λ i. i == j) (filter p (range_with_len 0 n)) ≡ (ltb j n && p j)
among-front p n j = elim (cases_lt j n) [
  | inl below ↦ inside p 0 n j (omega arith) (omega (arith, below)) ∙ rw (lt-ltb j n below) refl
  | inr past ↦ outside p 0 n j (λ k within same. omega (arith, same, within, past)) ∙ rw (le-ltb j n past) refl
]

-- what is found of what a list is made to
find-map : {X Y : Type 0} (p : Y → Bool) (f : X → Y) (xs : List X) → find p (map f xs) ≡ option_map f (find (λ x. p (f x)) xs)
find-map p f [] = refl
find-map p f (x ∷ xs) = elim (cases_Bool (p (f x))) [ inl passes ↦ rw passes refl | inr fails ↦ rw fails (find-map p f xs) ]

-- of the numbers that pass a test, the one that passes another is found
find-among : (p live : ℕ → Bool) (a n j : ℕ) → a ≤ j → j < a + n → live j ≡ true → p j ≡ true → ((i : ℕ) → a ≤ i → i < a + n → p i ≡ true → i ≡ j) →
    find p (filter live (range_with_len a n)) ≡ Some j
find-among p live a zero j from below alive passes only = absurd (omega (arith, from, below))
find-among p live a (suc n) j from below alive passes only = elim (cases_eq a j) [
  | inl here ↦
      let lives : live a ≡ true = ap live here ∙ alive in
      let passes_here : p a ≡ true = ap p here ∙ passes in
      rw (lives, passes_here) (ap Some here)
  | inr apart ↦
      let rest = find-among p live (a + 1) n j (omega (arith, from, apart)) (omega (arith, below)) alive passes (λ i low high. only i (omega (arith, low)) (omega (arith, high))) in
      elim (cases_Bool (live a)) [
        | inr dead ↦ rw dead rest
        | inl lives ↦ elim (cases_Bool (p a)) [
          | inl same ↦ absurd (apart (only a (omega arith) (omega arith) same))
          | inr fails ↦ rw (lives, fails) rest
        ]
      ]
]

find-nothing : (p live : ℕ → Bool) (a n : ℕ) → ((i : ℕ) → a ≤ i → i < a + n → live i ≡ true → p i ≡ true → ⊥) → find p (filter live (range_with_len a n)) ≡ None
find-nothing p live a zero none = refl
find-nothing p live a (suc n) none =
    let rest = find-nothing p live (a + 1) n (λ i low high. none i (omega (arith, low)) (omega (arith, high))) in
    elim (cases_Bool (live a)) [
      | inr dead ↦ rw dead rest
      | inl lives ↦ elim (cases_Bool (p a)) [
        | inl passes ↦ absurd (none a (omega arith) (omega arith) lives passes)
        | inr fails ↦ rw (lives, fails) rest
      ]
    ]

module _ (plan : Project) (limits : IsInLimits plan) where
  abbrev generator : Generator
  generator = generator_of plan

  abbrev births : ℕ → Births
  births table = (table_of plan table).births

  abbrev tables : ℕ
  tables = length plan.schema.tables

  -- what is kept at a unit of the row of an ordinal
  abbrev kept_at : ℕ → ℕ → ℕ → KeptRow
  kept_at unit table j = kept_row (generator_of plan) unit table (row_at (generator_of plan) table unit j)

  -- the rows at a unit, by ordinals: those that are born and alive
  abbrev at_unit : ℕ → KeptRows
  at_unit unit table j = if ltb j (born_count (births table) unit) && is_live (generator_of plan) table unit j then Some (kept_at unit table j) else None

  -- the older ones of them
  abbrev older : ℕ → KeptRows
  older unit table j = if ltb j (first_ordinal (births table) unit) && is_live (generator_of plan) table unit j then Some (kept_at unit table j) else None

  -- those that a unit updates
  abbrev changes_at : ℕ → ℕ → ℕ → Bool
  changes_at unit table j = is_live (generator_of plan) table unit j && change_unit (generator_of plan) table unit j == unit

  -- those of the unit before, with the updates of the next
  abbrev with_updates : ℕ → KeptRows
  with_updates unit table j =
      if ltb j (first_ordinal (births table) (suc unit)) && changes_at (suc unit) table j then Some (kept_at (suc unit) table j) else at_unit unit table j

  -- ---- past the last table there is no row

  no_births : (table : ℕ) → tables ≤ table → (unit : ℕ) → first_ordinal (births table) unit ≡ 0
  no_births table past unit =
      ap (λ (t : TableLayout). first_ordinal t.births unit) (get_or_past (generator_of plan).tables table no_table (omega (arith, past, length-tables plan))) ∙ first_ordinal-none unit

  none-if : (n j : ℕ) (other : Bool) (x y : Option KeptRow) → n ≡ 0 → (if ltb j n && other then x else y) ≡ y
  none-if n j other x y none = rw (le-ltb j n (omega (arith, none))) refl

  past-at_unit : (unit table j : ℕ) → tables ≤ table → at_unit unit table j ≡ None
  past-at_unit unit table j past = none-if (born_count (births table) unit) j _ _ _ (no_births table past (unit + 1))

  past-older : (unit table j : ℕ) → tables ≤ table → older unit table j ≡ None
  past-older unit table j past = none-if (first_ordinal (births table) unit) j _ _ _ (no_births table past unit)

  -- ---- rows of one stage and of the next

  -- the tables before one are as some rows, and the others as others
  record Stands (rows : KeptRows) (from : ℕ) (low high : KeptRows) : Type 0 where
    before : (t j : ℕ) → t < from → rows t j ≡ low t j
    behind : (t j : ℕ) → from ≤ t → rows t j ≡ high t j

  -- statements play rows to such
  record Comes (statements : List Statement) (rows : KeptRows) (from : ℕ) (low high : KeptRows) : Type 0 where
    now : KeptRows
    plays : Plays plan statements rows now
    stands : Stands now from low high

  -- a table more that has come to the next stage
  next-below : (rows now : KeptRows) (from : ℕ) (low high : KeptRows) → Stands rows from low high → ((t j : ℕ) → (from ≡ t → ⊥) → now t j ≡ rows t j) → ((j : ℕ) → now from j ≡ low from j) → Stands now (suc from) low high
  next-below rows now from low high stands other here = record {
    before = λ t j below. elim (cases_eq from t) [
      | inl same ↦ subst (λ (x : ℕ). now x j ≡ low x j) same (here j)
      | inr apart ↦ other t j apart ∙ stands.before t j (omega (arith, below, apart))
    ];
    behind = λ t j past. other t j (λ same. omega (arith, past, same)) ∙ stands.behind t j (omega (arith, past));
  }

  next-above : (rows now : KeptRows) (from : ℕ) (low high : KeptRows) → Stands rows (suc from) low high → ((t j : ℕ) → (from ≡ t → ⊥) → now t j ≡ rows t j) → ((j : ℕ) → now from j ≡ high from j) → Stands now from low high
  next-above rows now from low high stands other here = record {
    before = λ t j below. other t j (λ same. omega (arith, below, same)) ∙ stands.before t j (omega (arith, below));
    behind = λ t j past. elim (cases_eq from t) [
      | inl same ↦ subst (λ (x : ℕ). now x j ≡ high x j) same (here j)
      | inr apart ↦ other t j apart ∙ stands.behind t j (omega (arith, past, apart))
    ];
  }

  -- ---- living rows are kept

  some-if : (test : Bool) (x y : Option KeptRow) → IsSome x → IsSome y → IsSome (if test then x else y)
  some-if true x y is other = is
  some-if false x y is other = other

  -- a row that is born by a unit and alive at it is among those of the unit
  alive-at_unit : (unit table j : ℕ) → j < born_count (births table) unit → is_live (generator_of plan) table unit j ≡ true → IsSome (at_unit unit table j)
  alive-at_unit unit table j born alive = rw (lt-ltb j (born_count (births table) unit) born, alive) refl

  -- what lives at the next unit lives at this one
  pub alive-before : (unit table j : ℕ) → j < born_count (births table) unit → is_live (generator_of plan) table (suc unit) j ≡ true → is_live (generator_of plan) table unit j ≡ true
  alive-before unit table j born alive =
      is_after-before (death generator table unit j) unit (suc unit) (omega arith)
      (ap (λ (d : Option ℕ). is_after d (suc unit)) (sym (death-later generator table unit (suc unit) j born (omega arith))) ∙ alive)

  alive-with_updates : (unit table j : ℕ) → j < born_count (births table) unit → is_live (generator_of plan) table (suc unit) j ≡ true → IsSome (with_updates unit table j)
  alive-with_updates unit table j born alive =
      some-if (ltb j (first_ordinal (births table) (suc unit)) && changes_at (suc unit) table j) (Some (kept_at (suc unit) table j)) (at_unit unit table j) refl
      (alive-at_unit unit table j born (alive-before unit table j born alive))

  alive-older : (unit table j : ℕ) → j < first_ordinal (births table) unit → is_live (generator_of plan) table unit j ≡ true → IsSome (older unit table j)
  alive-older unit table j early alive = rw (lt-ltb j (first_ordinal (births table) unit) early, alive) refl

  all_before : (unit table : ℕ) → born_count (births table) unit ≡ first_ordinal (births table) (suc unit)
  all_before unit table = ap (first_ordinal (births table)) (add-one unit)

  born_in_all : (unit table j : ℕ) → unit ≤ last_unit plan → j < born_count (births table) unit → j < rows_in_all plan table
  born_in_all unit table j within born = omega (arith, born, born_count-le (births table) unit (last_unit plan) within)

  -- a reference that leads to a row which is kept is there
  is_there : (rows : KeptRows) (place unit at : ℕ) (ref : RefTo) → at ≤ last_unit plan → (to : LeadsTo plan limits place unit at ref) → IsSome (rows ref.table to.ordinal) → IsThere plan rows ref
  is_there rows place unit at ref within to kept = record {
    ordinal = to.ordinal;
    born = born_in_all at ref.table to.ordinal within to.by_birth;
    has = to.has;
    kept = kept;
  }

  -- the statement that puts a row, by its key
  put-keyed : (unit table : ℕ) → unit ≤ last_unit plan → (is : List ℕ) → All (λ j. j < born_count (births table) unit) is →
      map (put_at plan unit table) is ≡ map (λ j. put_row table (key_of (generator_of plan) table (last_unit plan) j) (kept_at unit table j)) is
  put-keyed unit table within is born =
      map-each (put_at plan unit table) (λ j. put_row table (key_of generator table (last_unit plan) j) (kept_at unit table j)) is
      (λ i d below. ap (λ (k : ℕ). put_row table k (kept_at unit table (get_or is i d))) (row_key-at generator (last_unit plan) table unit (get_or is i d) within (born i d below)))

  -- ---- the updates of a unit

  module _ (unit : ℕ) (within : suc unit ≤ last_unit plan) where
    -- each of them can be put, where the tables before have theirs
    can-update : (table : ℕ) → table < tables → (rows : KeptRows) → Stands rows table (with_updates unit) (at_unit unit) →
        All (CanPut plan table (kept_at (suc unit) table) rows) (changing (generator_of plan) table (suc unit))
    can-update table below rows stands i d among =
        let j : ℕ = get_or (changing generator table (suc unit)) i d in
        let born : j < born_count (births table) (suc unit) = changing-born plan limits table below (suc unit) within i d among in
        let early : j < first_ordinal (births table) (suc unit) = changing-early plan limits table below (suc unit) within i d among in
        let alive : is_live generator table (suc unit) j ≡ true = changing-alive plan limits table below (suc unit) within i d among in
        let birth_before : birth (births table) (suc unit) j < suc unit = birth-before (births table) (suc unit) (suc unit) j born early in
        record {
          born = born_in_all (suc unit) table j within born;
          refs = λ k e within_refs.
              let ref : RefTo = get_or (kept_at (suc unit) table j).refs k e in
              let to : LeadsTo plan limits table (suc unit) (birth (births table) (suc unit) j) ref = refs-lead plan limits table below (suc unit) within j born alive k e within_refs in
              is_there rows table (suc unit) (birth (births table) (suc unit) j) ref (omega (arith, birth_before, within)) to
              (subst IsSome (sym (stands.before ref.table to.ordinal to.earlier))
              (alive-with_updates unit ref.table to.ordinal
              (omega (arith, to.by_birth, born_count-le (births ref.table) (birth (births table) (suc unit) j) unit (omega (arith, birth_before)))) to.alive));
        }

    updated-here : (table : ℕ) (rows : KeptRows) → ((j : ℕ) → rows table j ≡ at_unit unit table j) → (j : ℕ) →
        with_rows plan table (kept_at (suc unit) table) (changing (generator_of plan) table (suc unit)) rows table j ≡ with_updates unit table j
    updated-here table rows were j =
        let first : ℕ = first_ordinal (births table) (suc unit) in
        with_rows-at plan table (kept_at (suc unit) table) (changing generator table (suc unit)) rows j
        ∙ ap₂ (λ (test : Bool) (other : Option KeptRow). if test then Some (kept_at (suc unit) table j) else other) (among-front (changes_at (suc unit) table) first j) (were j)

    updates-play : (k from : ℕ) → from + k ≡ tables → (rows : KeptRows) → AreThere plan rows → Stands rows from (with_updates unit) (at_unit unit) →
        Comes (flat_map (updates (generator_of plan) (suc unit)) (range_with_len from k)) rows tables (with_updates unit) (at_unit unit)
    updates-play zero from all rows there stands = record {
      now = rows;
      plays = plays-none plan rows there;
      stands = subst (λ (n : ℕ). Stands rows n (with_updates unit) (at_unit unit)) (omega (arith, all)) stands;
    }
    updates-play (suc k) from all rows there stands =
        let below : from < tables = omega (arith, all) in
        let is : List ℕ = changing generator from (suc unit) in
        let next : KeptRows = with_rows plan from (kept_at (suc unit) from) is rows in
        let here : Plays plan (updates generator (suc unit) from) rows next =
        subst (λ (statements : List Statement). Plays plan statements rows next)
        (sym (updates-at plan limits from below (suc unit) within ∙ put-keyed (suc unit) from within is (changing-born plan limits from below (suc unit) within)))
        (plays-puts plan from (kept_at (suc unit) from) is rows there (can-update from below rows stands)) in
        let after : Stands next (suc from) (with_updates unit) (at_unit unit) =
        next-below rows next from (with_updates unit) (at_unit unit) stands (λ t j other. with_rows-other plan from (kept_at (suc unit) from) is rows t j other)
        (updated-here from rows (λ j. stands.behind from j (omega arith))) in
        let behind : from + 1 ≡ suc from = omega arith in
        let rest = updates-play k (suc from) (omega (arith, all)) next here.there after in
        record {
          now = rest.now;
          plays = plays-both plan (updates generator (suc unit) from) (flat_map (updates generator (suc unit)) (range_with_len (from + 1) k)) rows next rest.now here
              (subst (λ (n : ℕ). Plays plan (flat_map (updates generator (suc unit)) (range_with_len n k)) next rest.now) (sym behind) rest.plays);
          stands = rest.stands;
        }

    -- ---- its deletions

    -- a row's references lead to earlier tables
    earlier-refs : (place unit : ℕ) → place < tables → unit ≤ last_unit plan → (j : ℕ) → j < born_count (births place) unit → is_live (generator_of plan) place unit j ≡ true →
        All (λ (ref : RefTo). ref.table < place) (kept_at unit place j).refs
    earlier-refs place unit below in_units j born alive = λ i d inside. (refs-lead plan limits place below unit in_units j born alive i d inside).earlier

    at_unit-earlier : (table j : ℕ) → table < tables → IfSome (at_unit unit table j) (λ (row : KeptRow). All (λ (ref : RefTo). ref.table < table) row.refs)
    at_unit-earlier table j below = elim (cases_Bool (ltb j (born_count (births table) unit) && is_live generator table unit j)) [
      | inr none ↦ rw none tt
      | inl here ↦
          let parts : (ltb j (born_count (births table) unit) ≡ true) × (is_live generator table unit j ≡ true) = and_parts _ _ here in
          rw here (earlier-refs table unit below (omega (arith, within)) j (ltb-true j _ parts.0) parts.1)
    ]

    with_updates-earlier : (table j : ℕ) → table < tables → IfSome (with_updates unit table j) (λ (row : KeptRow). All (λ (ref : RefTo). ref.table < table) row.refs)
    with_updates-earlier table j below = elim (cases_Bool (ltb j (first_ordinal (births table) (suc unit)) && changes_at (suc unit) table j)) [
      | inr none ↦ rw none (at_unit-earlier table j below)
      | inl here ↦
          let parts : (ltb j (first_ordinal (births table) (suc unit)) ≡ true) × (changes_at (suc unit) table j ≡ true) = and_parts _ _ here in
          let alive : (is_live generator table (suc unit) j ≡ true) × ((change_unit generator table (suc unit) j == suc unit) ≡ true) = and_parts _ _ parts.1 in
          let early : j < first_ordinal (births table) (suc unit) = ltb-true j (first_ordinal (births table) (suc unit)) parts.0 in
          rw here (earlier-refs table (suc unit) below within j (omega (arith, early, born_count-next (births table) (suc unit))) alive.0)
    ]

    -- a row that lives doesn't lead to one that dies
    older-off : (dying_table i table j : ℕ) → i < rows_in_all plan dying_table → is_live (generator_of plan) dying_table (suc unit) i ≡ false → table < tables →
        IfSome (older (suc unit) table j) (λ (row : KeptRow). All (IsOff plan dying_table i) row.refs)
    older-off dying_table i table j in_all dead below = elim (cases_Bool (ltb j (first_ordinal (births table) (suc unit)) && is_live generator table (suc unit) j)) [
      | inr none ↦ rw none tt
      | inl here ↦
          let parts : (ltb j (first_ordinal (births table) (suc unit)) ≡ true) × (is_live generator table (suc unit) j ≡ true) = and_parts _ _ here in
          let early : j < first_ordinal (births table) (suc unit) = ltb-true j (first_ordinal (births table) (suc unit)) parts.0 in
          let born : j < born_count (births table) (suc unit) = omega (arith, early, born_count-next (births table) (suc unit)) in
          rw here (λ k e within_refs.
          let ref : RefTo = get_or (kept_at (suc unit) table j).refs k e in
          let to : LeadsTo plan limits table (suc unit) (birth (births table) (suc unit) j) ref = refs-lead plan limits table below (suc unit) within j born parts.1 k e within_refs in
          λ ordinal in_range has same is.
          let at_birth : birth (births table) (suc unit) j ≤ suc unit = birth-le (births table) (suc unit) j born in
          let one : to.ordinal ≡ ordinal =
          key-only plan ref.table to.ordinal ordinal (born_in_all (birth (births table) (suc unit) j) ref.table to.ordinal (omega (arith, at_birth, within)) to.by_birth) in_range (to.has ∙ sym has) in
          true≢false (sym to.alive ∙ ap₂ (λ (a b : ℕ). is_live generator a (suc unit) b) same (one ∙ is) ∙ dead))
    ]

    earlier-off : (table i other j : ℕ) (kept : Option KeptRow) → other < suc table → IfSome kept (λ (row : KeptRow). All (λ (ref : RefTo). ref.table < other) row.refs) →
        IfSome kept (λ (row : KeptRow). All (IsOff plan table i) row.refs)
    earlier-off table i other j None below are = tt
    earlier-off table i other j (Some row) below are = λ k d inside. λ ordinal in_range has same is. omega (arith, are k d inside, same, below)

    dead-at : (table i : ℕ) → is_at (death (generator_of plan) table (suc unit) i) (suc unit) ≡ true → is_live (generator_of plan) table (suc unit) i ≡ false
    dead-at table i at = elim (cases_Bool (is_live generator table (suc unit) i)) [
      | inr dead ↦ dead
      | inl alive ↦ absurd (true≢false (sym at ∙ is_at-later (death generator table (suc unit) i) (suc unit) alive))
    ]

    none-leads : (table : ℕ) → table < tables → (rows : KeptRows) → Stands rows (suc table) (with_updates unit) (older (suc unit)) →
        All (λ i. NoneLeads plan table i rows) (dying (generator_of plan) table (suc unit))
    unfolding NoneLeads
    none-leads table below rows stands k d inside t j =
        let i : ℕ = get_or (dying generator table (suc unit)) k d in
        let in_all : i < rows_in_all plan table = dying-born plan limits table below (suc unit) within k d inside in
        let dead : is_live generator table (suc unit) i ≡ false = dead-at table i (dying-at plan limits table below (suc unit) within k d inside) in
        elim (cases_lt t (suc table)) [
          | inl before ↦
              subst (λ (kept : Option KeptRow). IfSome kept (λ (row : KeptRow). All (IsOff plan table i) row.refs)) (sym (stands.before t j before))
              (earlier-off table i t j (with_updates unit t j) before (with_updates-earlier t j (omega (arith, before, below))))
          | inr behind ↦
              subst (λ (kept : Option KeptRow). IfSome kept (λ (row : KeptRow). All (IsOff plan table i) row.refs)) (sym (stands.behind t j behind))
              (elim (cases_lt t tables) [
                | inl there ↦ older-off table i t j in_all dead there
                | inr past ↦ subst (λ (kept : Option KeptRow). IfSome kept (λ (row : KeptRow). All (IsOff plan table i) row.refs)) (sym (past-older (suc unit) t j past)) tt
              ])
        ]

    -- of the rows of the unit before, with their updates, those that don't die are the older ones of the unit
    kept-older : (table : ℕ) → table < tables → (j : ℕ) →
        (if ltb j (first_ordinal (births table) (suc unit)) && is_at (death (generator_of plan) table (suc unit) j) (suc unit) then None else with_updates unit table j) ≡ older (suc unit) table j
    kept-older table below j = elim (cases_lt j (first_ordinal (births table) (suc unit))) [
      | inr late ↦
          let no_more : ltb j (born_count (births table) unit) ≡ false = le-ltb j _ (omega (arith, late, all_before unit table)) in
          rw (le-ltb j _ late, no_more) refl
      | inl early ↦
          let born : j < born_count (births table) unit = omega (arith, early, all_before unit table) in
          let same : death generator table (suc unit) j ≡ death generator table unit j = death-later generator table unit (suc unit) j born (omega arith) in
          elim (cases_Bool (is_live generator table (suc unit) j)) [
            | inl alive ↦
                let before : is_live generator table unit j ≡ true = alive-before unit table j born alive in
                let not_at : is_at (death generator table (suc unit) j) (suc unit) ≡ false = is_at-later (death generator table (suc unit) j) (suc unit) alive in
                elim (cases_eq (change_unit generator table (suc unit) j) (suc unit)) [
                  | inl changes ↦ rw (lt-ltb j _ early, not_at, alive, eq-eqb _ _ changes) refl
                  | inr still ↦
                      rw (lt-ltb j _ early, not_at, alive, ne_eqb _ _ still, lt-ltb j _ born, before)
                      (ap Some (sym (kept-next plan limits table below unit within j born before alive still)))
                ]
            | inr dead ↦ elim (cases_Bool (is_live generator table unit j)) [
              | inl before ↦
                  let at : is_at (death generator table (suc unit) j) (suc unit) ≡ true =
                  is_at-now (death generator table (suc unit) j) unit (ap (λ (o : Option ℕ). is_after o unit) same ∙ before) dead in
                  rw (lt-ltb j _ early, at, dead) refl
              | inr gone ↦
                  let not_at : is_at (death generator table (suc unit) j) (suc unit) ≡ false =
                  is_at-passed (death generator table (suc unit) j) unit (ap (λ (o : Option ℕ). is_after o unit) same ∙ gone) in
                  rw (lt-ltb j _ early, not_at, dead, gone, lt-ltb j _ born) refl
            ]
          ]
    ]

    dropped-here : (table : ℕ) → table < tables → (rows : KeptRows) → ((j : ℕ) → rows table j ≡ with_updates unit table j) → (j : ℕ) →
        without_rows plan table (dying (generator_of plan) table (suc unit)) rows table j ≡ older (suc unit) table j
    dropped-here table below rows were j =
        without_rows-at plan table (dying generator table (suc unit)) rows j
        ∙ ap₂ (λ (test : Bool) (other : Option KeptRow). if test then None else other)
        (among-front (λ ordinal. is_at (death generator table (suc unit) ordinal) (suc unit)) (first_ordinal (births table) (suc unit)) j) (were j)
        ∙ kept-older table below j

    deletions-play : (count : ℕ) → count ≤ tables → (rows : KeptRows) → AreThere plan rows → Stands rows count (with_updates unit) (older (suc unit)) →
        Comes (flat_map (deletions (generator_of plan) (suc unit)) (reverse (range_with_len 0 count))) rows 0 (with_updates unit) (older (suc unit))
    deletions-play zero few rows there stands = record { now = rows; plays = plays-none plan rows there; stands = stands }
    deletions-play (suc table) few rows there stands =
        let is : List ℕ = dying generator table (suc unit) in
        let next : KeptRows = without_rows plan table is rows in
        let here : Plays plan (deletions generator (suc unit) table) rows next =
        subst (λ (statements : List Statement). Plays plan statements rows next) (sym (deletions-at plan limits table few (suc unit) within))
        (plays-drops plan table is rows there (dying-born plan limits table few (suc unit) within) (none-leads table few rows stands)) in
        let after : Stands next table (with_updates unit) (older (suc unit)) =
        next-above rows next table (with_updates unit) (older (suc unit)) stands (λ t j other. without_rows-other plan table is rows t j other)
        (dropped-here table few rows (λ j. stands.before table j (omega arith))) in
        let rest = deletions-play table (omega (arith, few)) next here.there after in
        let last : table + 1 ≡ suc table = omega arith in
        let at : 0 + table ≡ table = omega arith in
        let order : reverse (range_with_len 0 (suc table)) ≡ table ∷ reverse (range_with_len 0 table) =
        ap (λ (n : ℕ). reverse (range_with_len 0 n)) (sym last)
        ∙ ap reverse (range_with_len-add 0 table 1)
        ∙ ap (λ (n : ℕ). reverse (range_with_len 0 table ++ n ∷ [])) at
        ∙ reverse-append (range_with_len 0 table) (table ∷ []) in
        record {
          now = rest.now;
          plays = subst (λ (places : List ℕ). Plays plan (flat_map (deletions generator (suc unit)) places) rows rest.now) (sym order)
              (plays-both plan (deletions generator (suc unit) table) (flat_map (deletions generator (suc unit)) (reverse (range_with_len 0 table))) rows next rest.now here rest.plays);
          stands = rest.stands;
        }

  -- ---- the insertions of a unit

  module _ (unit : ℕ) (within : unit ≤ last_unit plan) where
    -- the rows of a cohort are alive, so they are those of it that are
    new-alive : (table : ℕ) → table < tables → filter (is_live (generator_of plan) table unit) (newborn (generator_of plan) table unit) ≡ newborn (generator_of plan) table unit
    new-alive table below =
        filter-range_with_len_all (is_live generator table unit) (first_ordinal (births table) unit) (cohort_size (births table) unit) (newborn-alive plan limits table below unit within)

    new-at : (table : ℕ) → All (λ j. (first_ordinal (births table) unit ≤ j) × (j < first_ordinal (births table) unit + cohort_size (births table) unit)) (newborn (generator_of plan) table unit)
    new-at table i d among =
        let first : ℕ = first_ordinal (births table) unit in
        let size : ℕ = cohort_size (births table) unit in
        let below : i < size = omega (arith, among, length-range_with_len first size) in
        let is : get_or (range_with_len first size) i d ≡ first + i = get_or-range_with_len first size i d below in
        (omega (arith, is), omega (arith, is, below))

    new-born : (table : ℕ) → All (λ j. j < born_count (births table) unit) (newborn (generator_of plan) table unit)
    new-born table i d among = omega (arith, (new-at table i d among).1, born_count-next (births table) unit)

    can-insert : (table : ℕ) → table < tables → (rows : KeptRows) → Stands rows table (at_unit unit) (older unit) →
        All (CanPut plan table (kept_at unit table) rows) (newborn (generator_of plan) table unit)
    can-insert table below rows stands i d among =
        let j : ℕ = get_or (newborn generator table unit) i d in
        let lies = new-at table i d among in
        let born : j < born_count (births table) unit = new-born table i d among in
        let at : first_ordinal (births table) unit + (j - first_ordinal (births table) unit) ≡ j = omega (arith, lies.0) in
        let alive : is_live generator table unit j ≡ true =
        ap (is_live generator table unit) (sym at) ∙ newborn-alive plan limits table below unit within (j - first_ordinal (births table) unit) (omega (arith, lies.0, lies.1)) in
        let at_birth : birth (births table) unit j ≤ unit = birth-le (births table) unit j born in
        record {
          born = born_in_all unit table j within born;
          refs = λ k e within_refs.
              let ref : RefTo = get_or (kept_at unit table j).refs k e in
              let to : LeadsTo plan limits table unit (birth (births table) unit j) ref = refs-lead plan limits table below unit within j born alive k e within_refs in
              is_there rows table unit (birth (births table) unit j) ref (omega (arith, at_birth, within)) to
              (subst IsSome (sym (stands.before ref.table to.ordinal to.earlier))
              (alive-at_unit unit ref.table to.ordinal
              (omega (arith, to.by_birth, born_count-le (births ref.table) (birth (births table) unit j) unit at_birth)) to.alive));
        }

    -- the older rows of a unit with its cohort are those of the unit
    with-cohort : (table : ℕ) → table < tables → (j : ℕ) →
        (if list_any (λ i. i == j) (newborn (generator_of plan) table unit) then Some (kept_at unit table j) else older unit table j) ≡ at_unit unit table j
    with-cohort table below j =
        let first : ℕ = first_ordinal (births table) unit in
        let size : ℕ = cohort_size (births table) unit in
        let all : born_count (births table) unit ≡ first + size = born_count-next (births table) unit in
        let live : ℕ → Bool = is_live generator table unit in
        let among = ap (λ (is : List ℕ). list_any (λ i. i == j) is) (sym (new-alive table below)) in
        elim (cases_lt j first) [
          | inl early ↦
              let off : list_any (λ i. i == j) (newborn generator table unit) ≡ false = among ∙ outside live first size j (λ k inside_it same. omega (arith, early, same)) in
              rw (off, lt-ltb j first early, lt-ltb j (born_count (births table) unit) (omega (arith, early, all))) refl
          | inr from ↦ elim (cases_lt j (first + size)) [
            | inl new ↦
                let here : list_any (λ i. i == j) (newborn generator table unit) ≡ live j = among ∙ inside live first size j from new in
                let at : first + (j - first) ≡ j = omega (arith, from) in
                let alive : live j ≡ true = ap live (sym at) ∙ newborn-alive plan limits table below unit within (j - first) (omega (arith, from, new)) in
                rw (here, alive, lt-ltb j (born_count (births table) unit) (omega (arith, new, all))) refl
            | inr late ↦
                let off : list_any (λ i. i == j) (newborn generator table unit) ≡ false = among ∙ outside live first size j (λ k inside_it same. omega (arith, late, same, inside_it)) in
                rw (off, le-ltb j first (omega (arith, from)), le-ltb j (born_count (births table) unit) (omega (arith, late, all))) refl
          ]
        ]

    insertions-play : (k from : ℕ) → from + k ≡ tables → (rows : KeptRows) → AreThere plan rows → Stands rows from (at_unit unit) (older unit) →
        Comes (flat_map (insertions (generator_of plan) unit) (range_with_len from k)) rows tables (at_unit unit) (older unit)
    insertions-play zero from all rows there stands = record {
      now = rows;
      plays = plays-none plan rows there;
      stands = subst (λ (n : ℕ). Stands rows n (at_unit unit) (older unit)) (omega (arith, all)) stands;
    }
    insertions-play (suc k) from all rows there stands =
        let below : from < tables = omega (arith, all) in
        let is : List ℕ = newborn generator from unit in
        let next : KeptRows = with_rows plan from (kept_at unit from) is rows in
        let here : Plays plan (insertions generator unit from) rows next =
        subst (λ (statements : List Statement). Plays plan statements rows next)
        (sym (insertions-at plan limits from below unit within ∙ put-keyed unit from within is (new-born from)))
        (plays-puts plan from (kept_at unit from) is rows there (can-insert from below rows stands)) in
        let after : Stands next (suc from) (at_unit unit) (older unit) =
        next-below rows next from (at_unit unit) (older unit) stands (λ t j other. with_rows-other plan from (kept_at unit from) is rows t j other)
        (λ j.
        with_rows-at plan from (kept_at unit from) is rows j
        ∙ ap (λ (other : Option KeptRow). if list_any (λ i. i == j) is then Some (kept_at unit from j) else other) (stands.behind from j (omega arith))
        ∙ with-cohort from below j) in
        let behind : from + 1 ≡ suc from = omega arith in
        let rest = insertions-play k (suc from) (omega (arith, all)) next here.there after in
        record {
          now = rest.now;
          plays = plays-both plan (insertions generator unit from) (flat_map (insertions generator unit) (range_with_len (from + 1) k)) rows next rest.now here
              (subst (λ (n : ℕ). Plays plan (flat_map (insertions generator unit) (range_with_len n k)) next rest.now) (sym behind) rest.plays);
          stands = rest.stands;
        }

    -- what all tables come to
    all-stand : (rows : KeptRows) → Stands rows tables (at_unit unit) (older unit) → rows ≡ at_unit unit
    all-stand rows stands =
        fun_ext (λ (t : ℕ). fun_ext (λ (j : ℕ). elim (cases_lt t tables) [
          | inl below ↦ stands.before t j below
          | inr past ↦ stands.behind t j past ∙ past-older unit t j past ∙ sym (past-at_unit unit t j past)
        ]))

  -- ---- units

  abbrev nothing : KeptRows
  nothing table j = None

  nothing-there : AreThere plan nothing
  unfolding AreThere
  nothing-there table j = tt

  as_schema : (n : ℕ) → n ≡ tables → places (generator_of plan) ≡ range_with_len 0 n
  as_schema n all = ap (range_with_len 0) (length-tables plan ∙ sym all)

  -- ---- the rows of a unit, put at once

  module _ (unit : ℕ) (within : unit ≤ last_unit plan) where
    held-born : (table : ℕ) → All (λ j. j < born_count (births table) unit) (living (generator_of plan) table unit)
    held-born table =
        All-filter (is_live generator table unit) (λ j. j < born_count (births table) unit) (range_with_len 0 (born_count (births table) unit)) (range-below (born_count (births table) unit))

    held-at : (table : ℕ) →
        map (put_of (generator_of plan) unit table) (rows_at (generator_of plan) table unit) ≡ map (put_at plan unit table) (living (generator_of plan) table unit)
    held-at table =
        ap (map (put_of generator unit table)) (rows_at-rows_of (last_unit plan) generator table unit (AreSound-accepted plan limits) within)
        ∙ map-map (put_of generator unit table) (row_at generator table unit) (living generator table unit)

    can-hold : (table : ℕ) → table < tables → (rows : KeptRows) → Stands rows table (at_unit unit) nothing →
        All (CanPut plan table (kept_at unit table) rows) (living (generator_of plan) table unit)
    can-hold table below rows stands i d among =
        let j : ℕ = get_or (living generator table unit) i d in
        let born : j < born_count (births table) unit = held-born table i d among in
        let alive : is_live generator table unit j ≡ true = filter_passes (is_live generator table unit) (range_with_len 0 (born_count (births table) unit)) i d among in
        let at_birth : birth (births table) unit j ≤ unit = birth-le (births table) unit j born in
        record {
          born = born_in_all unit table j within born;
          refs = λ k e within_refs.
              let ref : RefTo = get_or (kept_at unit table j).refs k e in
              let to : LeadsTo plan limits table unit (birth (births table) unit j) ref = refs-lead plan limits table below unit within j born alive k e within_refs in
              is_there rows table unit (birth (births table) unit j) ref (omega (arith, at_birth, within)) to
              (subst IsSome (sym (stands.before ref.table to.ordinal to.earlier))
              (alive-at_unit unit ref.table to.ordinal
              (omega (arith, to.by_birth, born_count-le (births ref.table) (birth (births table) unit j) unit at_birth)) to.alive));
        }

    held-here : (table : ℕ) (rows : KeptRows) → ((j : ℕ) → rows table j ≡ None) → (j : ℕ) →
        with_rows plan table (kept_at unit table) (living (generator_of plan) table unit) rows table j ≡ at_unit unit table j
    held-here table rows none j =
        with_rows-at plan table (kept_at unit table) (living generator table unit) rows j
        ∙ ap₂ (λ (test : Bool) (other : Option KeptRow). if test then Some (kept_at unit table j) else other)
        (among-front (is_live generator table unit) (born_count (births table) unit) j) (none j)

    abbrev held : ℕ → List Statement
    held table = map (put_of (generator_of plan) unit table) (rows_at (generator_of plan) table unit)

    held-play : (k from : ℕ) → from + k ≡ tables → (rows : KeptRows) → AreThere plan rows → Stands rows from (at_unit unit) nothing →
        Comes (flat_map held (range_with_len from k)) rows tables (at_unit unit) nothing
    held-play zero from all rows there stands = record {
      now = rows;
      plays = plays-none plan rows there;
      stands = subst (λ (n : ℕ). Stands rows n (at_unit unit) nothing) (omega (arith, all)) stands;
    }
    held-play (suc k) from all rows there stands =
        let below : from < tables = omega (arith, all) in
        let is : List ℕ = living generator from unit in
        let next : KeptRows = with_rows plan from (kept_at unit from) is rows in
        let here : Plays plan (held from) rows next =
        subst (λ (statements : List Statement). Plays plan statements rows next) (sym (held-at from ∙ put-keyed unit from within is (held-born from)))
        (plays-puts plan from (kept_at unit from) is rows there (can-hold from below rows stands)) in
        let after : Stands next (suc from) (at_unit unit) nothing =
        next-below rows next from (at_unit unit) nothing stands (λ t j other. with_rows-other plan from (kept_at unit from) is rows t j other)
        (held-here from rows (λ j. stands.behind from j (omega arith))) in
        let behind : from + 1 ≡ suc from = omega arith in
        let rest = held-play k (suc from) (omega (arith, all)) next here.there after in
        record {
          now = rest.now;
          plays = plays-both plan (held from) (flat_map held (range_with_len (from + 1) k)) rows next rest.now here
              (subst (λ (n : ℕ). Plays plan (flat_map held (range_with_len n k)) next rest.now) (sym behind) rest.plays);
          stands = rest.stands;
        }

    held-plays : Plays plan (held_statements (generator_of plan) unit) nothing (at_unit unit)
    unfolding held_statements
    held-plays =
        let start : Stands nothing 0 (at_unit unit) nothing = record { before = λ t j below. absurd (omega (arith, below)); behind = λ t j from. refl } in
        let comes = held-play tables 0 (omega arith) nothing nothing-there start in
        let all : comes.now ≡ at_unit unit =
        fun_ext (λ (t : ℕ). fun_ext (λ (j : ℕ). elim (cases_lt t tables) [
          | inl below ↦ comes.stands.before t j below
          | inr past ↦ comes.stands.behind t j past ∙ sym (past-at_unit unit t j past)
        ])) in
        subst (λ (statements : List Statement). Plays plan statements nothing (at_unit unit)) (ap (flat_map held) (sym (as_schema tables refl)))
        (subst (Plays plan (flat_map held (range_with_len 0 tables)) nothing) all comes.plays)

  first-plays : Plays plan (unit_statements (generator_of plan) 0) nothing (at_unit 0)
  first-plays =
      let start : Stands nothing 0 (at_unit 0) (older 0) = record {
        before = λ t j below. absurd (omega (arith, below));
        behind = λ t j from. sym (none-if 0 j _ _ _ refl);
      } in
      let comes = insertions-play 0 (omega arith) tables 0 (omega arith) nothing nothing-there start in
      subst (λ (statements : List Statement). Plays plan statements nothing (at_unit 0))
      (sym (unit_statements-first plan limits ∙ ap (flat_map (insertions generator 0)) (as_schema tables refl)))
      (subst (Plays plan (flat_map (insertions generator 0) (range_with_len 0 tables)) nothing) (all-stand 0 (omega arith) comes.now comes.stands) comes.plays)

  next-plays : (unit : ℕ) → suc unit ≤ last_unit plan → AreThere plan (at_unit unit) → Plays plan (unit_statements (generator_of plan) (suc unit)) (at_unit unit) (at_unit (suc unit))
  next-plays unit within there =
      let u : ℕ = suc unit in
      let start : Stands (at_unit unit) 0 (with_updates unit) (at_unit unit) = record { before = λ t j below. absurd (omega (arith, below)); behind = λ t j from. refl } in
      let first = updates-play unit within tables 0 (omega arith) (at_unit unit) there start in
      let changed : Stands first.now tables (with_updates unit) (older u) = record {
        before = first.stands.before;
        behind = λ t j past. first.stands.behind t j past ∙ past-at_unit unit t j past ∙ sym (past-older u t j past);
      } in
      let second = deletions-play unit within tables (omega arith) first.now first.plays.there changed in
      let dropped : Stands second.now 0 (at_unit u) (older u) = record { before = λ t j below. absurd (omega (arith, below)); behind = second.stands.behind } in
      let third = insertions-play u within tables 0 (omega arith) second.now second.plays.there dropped in
      let us : List Statement = flat_map (updates generator u) (range_with_len 0 tables) in
      let ds : List Statement = flat_map (deletions generator u) (reverse (range_with_len 0 tables)) in
      let is : List Statement = flat_map (insertions generator u) (range_with_len 0 tables) in
      let parts : unit_statements generator u ≡ us ++ ds ++ is =
      unit_statements-parts plan limits u
      ∙ ap (λ (all : List ℕ). flat_map (updates generator u) all ++ flat_map (deletions generator u) (reverse all) ++ flat_map (insertions generator u) all) (as_schema tables refl) in
      subst (λ (statements : List Statement). Plays plan statements (at_unit unit) (at_unit u)) (sym parts)
      (subst (Plays plan (us ++ ds ++ is) (at_unit unit)) (all-stand u within third.now third.stands)
      (plays-both plan (us ++ ds) is (at_unit unit) second.now third.now (plays-both plan us ds (at_unit unit) first.now second.now first.plays second.plays) third.plays))

  units-play : (unit : ℕ) → unit ≤ last_unit plan → Plays plan (statements_to (generator_of plan) unit) nothing (at_unit unit)
  units-play zero within =
      subst (λ (statements : List Statement). Plays plan statements nothing (at_unit 0)) (sym (append-nil (unit_statements generator 0))) first-plays
  units-play (suc unit) within =
      let before = units-play unit (omega (arith, within)) in
      let at : suc unit ≡ unit + 1 = omega arith in
      let all : statements_to generator (suc unit) ≡ statements_to generator unit ++ unit_statements generator (suc unit) =
      flat_map-range_with_len_more (unit_statements generator) (suc unit)
      ∙ ap (λ (n : ℕ). flat_map (unit_statements generator) (range_with_len 0 n) ++ unit_statements generator (suc unit)) at in
      subst (λ (statements : List Statement). Plays plan statements nothing (at_unit (suc unit))) (sym all)
      (plays-both plan (statements_to generator unit) (unit_statements generator (suc unit)) nothing (at_unit unit) (at_unit (suc unit)) before (next-plays unit within before.there))

  -- ---- the laws

  no_row : (found : Option ℕ) → option_and_then (nothing 0) found ≡ None
  no_row None = refl
  no_row (Some j) = refl

  begins : by_keys plan nothing ≡ no_rows
  begins = fun_ext (λ (t : ℕ). fun_ext (λ (k : ℕ). no_row (row_with_key plan t k)))

  pub no-reference-dangles : (unit count : ℕ) → unit ≤ last_unit plan → NoneDangles (rows_after (generator_of plan) unit count)
  no-reference-dangles unit count within =
      subst (λ (rows : KeptRows). NoneDangles (after_statements (take count (statements_to generator unit)) rows)) begins ((units-play unit within).safe count)

  pub no-reference-of_rows_dangles : (unit count : ℕ) → unit ≤ last_unit plan → NoneDangles (after_statements (take count (held_statements (generator_of plan) unit)) no_rows)
  no-reference-of_rows_dangles unit count within =
      subst (λ (rows : KeptRows). NoneDangles (after_statements (take count (held_statements generator unit)) rows)) begins ((held-plays unit within).safe count)

  -- the rows of a unit by their ordinals, found by their keys, are those of the simulation
  module _ (unit : ℕ) (within : unit ≤ last_unit plan) (table k : ℕ) where
    abbrev born : ℕ
    born = born_count (births table) unit

    abbrev has_key : ℕ → Bool
    has_key j = row_key (generator_of plan) table (row_at (generator_of plan) table unit j) == k

    key-from : (j : ℕ) → j < born_count (births table) unit → has_key j ≡ true → key_of (generator_of plan) table (last_unit plan) j ≡ k
    key-from j is_born has = sym (row_key-at generator (last_unit plan) table unit j within is_born) ∙ eqb-true _ k has

    key-to : (j : ℕ) → j < born_count (births table) unit → key_of (generator_of plan) table (last_unit plan) j ≡ k → has_key j ≡ true
    key-to j is_born has = eq-eqb _ k (row_key-at generator (last_unit plan) table unit j within is_born ∙ has)

    found-row : (found : Option ℕ) → row_with_key plan table k ≡ found →
        option_and_then (at_unit unit table) found
        ≡ option_map (kept_at unit table) (find has_key (filter (is_live (generator_of plan) table unit) (range_with_len 0 (born_count (births table) unit))))
    found-row None none =
        sym (ap (option_map (kept_at unit table)) (find-nothing has_key (is_live generator table unit) 0 born
        (λ i low high alive passes.
        let is_born : i < born = omega (arith, high) in
        let there : row_with_key plan table k ≡ Some i =
        ap (row_with_key plan table) (sym (key-from i is_born passes)) ∙ row_with_key-at plan table i (born_in_all unit table i within is_born) in
        absurd (none-some i (sym none ∙ there)))))
    found-row (Some j) found =
        let has = row_with_key-has plan table k j found in
        let same : (i : ℕ) → i < born → has_key i ≡ true → i ≡ j = λ i is_born passes.
        key-only plan table i j (born_in_all unit table i within is_born) has.1 (key-from i is_born passes ∙ sym has.0) in
        elim (cases_Bool (ltb j born && is_live generator table unit j)) [
          | inl here ↦
              let parts : (ltb j born ≡ true) × (is_live generator table unit j ≡ true) = and_parts _ _ here in
              let is_born : j < born = ltb-true j born parts.0 in
              rw here
              (sym (ap (option_map (kept_at unit table)) (find-among has_key (is_live generator table unit) 0 born j (omega arith) (omega (arith, is_born)) parts.1 (key-to j is_born has.0)
              (λ i low high passes. same i (omega (arith, high)) passes))))
          | inr none ↦
              rw none
              (sym (ap (option_map (kept_at unit table)) (find-nothing has_key (is_live generator table unit) 0 born
              (λ i low high alive passes.
              let is_born : i < born = omega (arith, high) in
              let is : i ≡ j = same i is_born passes in
              false≢true (sym none ∙ and_from _ _ (lt-ltb j born (omega (arith, is, is_born))) (ap (is_live generator table unit) (sym is) ∙ alive))))))
        ]

    rows-found : by_keys plan (at_unit unit) table k ≡ rows_of_unit (generator_of plan) unit table k
    rows-found =
        let row : ℕ → Row = row_at generator table unit in
        let held : rows_at generator table unit ≡ map row (living generator table unit) = rows_at-rows_of (last_unit plan) generator table unit (AreSound-accepted plan limits) within in
        let find_in : List Row → Option KeptRow = λ (rows : List Row). option_map (kept_row generator unit table) (find (λ (r : Row). row_key generator table r == k) rows) in
        found-row (row_with_key plan table k) refl
        ∙ sym (maps-both (find has_key (living generator table unit)))
        ∙ ap (option_map (kept_row generator unit table)) (sym (find-map (λ (r : Row). row_key generator table r == k) row (living generator table unit)))
        ∙ ap find_in (sym held)
      where
        maps-both : (found : Option ℕ) → option_map (kept_row (generator_of plan) unit table) (option_map (row_at (generator_of plan) table unit) found) ≡ option_map (kept_at unit table) found
        maps-both None = refl
        maps-both (Some j) = refl

  pub statements-give : (unit : ℕ) → unit ≤ last_unit plan → after_statements (statements_to (generator_of plan) unit) no_rows ≡ rows_of_unit (generator_of plan) unit
  statements-give unit within =
      ap (after_statements (statements_to generator unit)) (sym begins)
      ∙ (units-play unit within).ends
      ∙ fun_ext (λ (t : ℕ). fun_ext (λ (k : ℕ). rows-found unit within t k))

  pub held-give : (unit : ℕ) → unit ≤ last_unit plan → after_statements (held_statements (generator_of plan) unit) no_rows ≡ rows_of_unit (generator_of plan) unit
  held-give unit within =
      ap (after_statements (held_statements generator unit)) (sym begins)
      ∙ (held-plays unit within).ends
      ∙ fun_ext (λ (t : ℕ). fun_ext (λ (k : ℕ). rows-found unit within t k))

  -- a row that a table holds at a unit is found by its key
  pub held-found : (unit table j : ℕ) → unit ≤ last_unit plan → j < born_count (table_of plan table).births unit → is_live (generator_of plan) table unit j ≡ true →
      rows_of_unit (generator_of plan) unit table (key_of (generator_of plan) table (last_unit plan) j)
      ≡ Some (kept_row (generator_of plan) unit table (row_at (generator_of plan) table unit j))
  held-found unit table j within is_born alive =
      sym (rows-found unit within table (key_of generator table (last_unit plan) j))
      ∙ ap (option_and_then (at_unit unit table)) (row_with_key-at plan table j (born_in_all unit table j within is_born))
      ∙ rw (lt-ltb j (born_count (births table) unit) is_born, alive) refl
