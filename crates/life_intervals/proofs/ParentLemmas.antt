-- Parents: where their ordinals lie, that they are alive, and that the simulation chooses them.
use Rattle.std.proofs.Common.{◌≡◌, ℕ, zero, suc, ◌+◌, ◌-◌, ◌<◌, ◌≤◌, Bool, true, false, not, ◌&&◌, ◌||◌, Option, Some, None, option_map, unwrap_or, List, [], ◌∷◌, ◌++◌, map, length, get_or, filter_map, inl, inr, arith, refl, sym, ◌∙◌, ap, ap₂, lt-ltb, ltb-true, le-leb, eq-eqb, ne_eqb, subst}
use Rattle.std.specs.Prelude.{if◌then◌else◌}
use Rattle.std.specs.List.{range_with_len, AllByRecursion}
use Rattle.std.proofs.lemmas.Bool.{cases_eq, cases_Bool, lt-leb}
use Rattle.std.proofs.lemmas.List.{get_or-map, map-append}
use Rattle.std.proofs.lemmas.List.Elements.{filter_map-append, filter-append}
use Rattle.std.proofs.lemmas.List.FromFn.{get_or-range_with_len, length-range_with_len}
use Rattle.cohort_sizes.specs.Births.{Births, LiesIn, birth, born_count, cohort_size, first_ordinal, index_at}
use Rattle.life_intervals.specs.Generator.{Order}
use Rattle.life_intervals.specs.Intervals.{Known, death_by, first_death, held_until, is_after, is_at, known_at, nothing_known, parent_by, parent_death_by, row_by}
use Rattle.schema_facts.specs.References.{Reference, count_in_window, first_in_window, window_start}
use Rattle.life_intervals.specs.References.{dealt}
use Rattle.life_intervals.specs.Rows.{Row, State, candidates, is_in_window, parent_choice}
use Rattle.life_intervals.specs.Simulation.{holds_row, is_gone, is_lost}
use Rattle.schema_facts.specs.References.{IsWithinLife}
use Rattle.life_intervals.proofs.CascadeLemmas.{is_after-cascades}
use Rattle.cohort_sizes.proofs.CohortLemmas.{LiesIn-birth, birth-before, birth-from, birth-later, born_count-le}
use Rattle.life_intervals.proofs.DealLemmas.{dealt-below}
use Rattle.life_intervals.proofs.DeathLemmas.{is_after-lesser_from, is_after-suc, is_at-later, is_at-now, is_at-passed}
use Rattle.life_intervals.proofs.Ranges.{range_with_len-add}
use Rattle.life_intervals.proofs.RowLemmas.{Finds, aged_row, aged_rows, held_each, live_row, live_rows}

-- up to a last unit, rows of a known table live at least for a sure life
abbrev pub IsSure : ℕ → Known → Option ℕ → Type 0
IsSure units known sure =
    (unit index age : ℕ) → unit ≤ units → index < cohort_size known.table.births unit → is_after sure age ≡ true →
    is_after (known.death unit index) (unit + age) ≡ true

-- what is left of a sure life after a window
abbrev pub less_window : Option ℕ → Option ℕ → Option ℕ
less_window window sure = option_map (λ life. life - unwrap_or window 0) sure

-- a reference of a table with some births to one of the known tables, whose rows have these sure lives
pub record Refers (units : ℕ) (earlier : List Known) (sure : ℕ → Option ℕ) (births : Births) (reference : Reference) : Type 0 where
  pub is_earlier : reference.parent < length earlier
  pub is_sure : IsSure units (known_at earlier reference.parent) (sure reference.parent)
  pub within_life : IsWithinLife reference.window (sure reference.parent)
  pub some_parent : (unit : ℕ) → unit ≤ units → 0 < cohort_size births unit →
      first_in_window (known_at earlier reference.parent).table.births reference.window unit < born_count (known_at earlier reference.parent).table.births unit

-- ---- the rows of a window are alive

sure-reaches : (window sure : Option ℕ) (unit born age : ℕ) → born ≤ unit → window_start window unit ≤ born → IsWithinLife window sure → is_after (less_window window sure) age ≡ true → is_after sure (unit - born + age) ≡ true
sure-reaches None sure unit born age within from is past = rw is refl
sure-reaches (Some units) None unit born age within from is past = refl
sure-reaches (Some units) (Some life) unit born age within from is past = lt-ltb (unit - born + age) life (omega (arith, ltb-true age (life - units) past))

-- at the end of its window a sure life isn't over
sure-now : (window sure : Option ℕ) → IsWithinLife window sure → is_after (less_window window sure) 0 ≡ true
sure-now None sure is = rw is refl
sure-now (Some units) None is = refl
sure-now (Some units) (Some life) is = lt-ltb 0 (life - units) (omega (arith, is))

-- a row that is born in a window lives on after it for what is left of the sure life
window-alive : (units : ℕ) (known : Known) (sure : Option ℕ) → IsSure units known sure → (window : Option ℕ) (unit ordinal age : ℕ) → unit ≤ units → IsWithinLife window sure →
    first_in_window known.table.births window unit ≤ ordinal → ordinal < born_count known.table.births unit → is_after (less_window window sure) age ≡ true →
    is_after (death_by known unit ordinal) (unit + age) ≡ true
window-alive units known sure is_sure window unit ordinal age within is from born past =
    let births : Births = known.table.births in
    let found = LiesIn-birth births unit ordinal born in
    let lies : LiesIn births (birth births unit ordinal) ordinal = found.1 in
    let start : window_start window unit ≤ birth births unit ordinal = birth-from births (window_start window unit) unit ordinal born from in
    let alive = is_sure (birth births unit ordinal) (index_at births unit ordinal) (unit - birth births unit ordinal + age) (omega (arith, found.0)) (omega (arith, lies.begun, lies.not_ended))
    (sure-reaches window sure unit (birth births unit ordinal) age found.0 start is past) in
    let at : birth births unit ordinal + (unit - birth births unit ordinal + age) ≡ unit + age = omega (arith, found.0) in
    subst (λ (u : ℕ). is_after (death_by known unit ordinal) u ≡ true) at alive

-- ---- the candidates

is_in_window-from : (window : Option ℕ) (unit : ℕ) (row : Row) → window_start window unit ≤ row.born → is_in_window window unit row ≡ true
is_in_window-from None unit row from = refl
is_in_window-from (Some units) unit row from = le-leb unit (row.born + units) (omega (arith, from))

is_in_window-before : (window : Option ℕ) (unit : ℕ) (row : Row) → row.born < window_start window unit → is_in_window window unit row ≡ false
is_in_window-before None unit row before = absurd (omega (arith, before))
is_in_window-before (Some units) unit row before = lt-leb unit (row.born + units) (omega (arith, before))

-- the candidates among the rows of some ordinals
abbrev candidates_of : Order → Known → Reference → ℕ → List ℕ → List ℕ
candidates_of order known reference unit ordinals = candidates reference unit (filter_map (live_row order known unit) ordinals)

candidates-none : (order : Order) (known : Known) (reference : Reference) (unit a n : ℕ) →
    ((j : ℕ) → a ≤ j → j < a + n → is_in_window reference.window unit (row_by order known unit j) ≡ false) → candidates_of order known reference unit (range_with_len a n) ≡ []
candidates-none order known reference unit a zero out = refl
candidates-none order known reference unit a (suc n) out =
    let rest = candidates-none order known reference unit (a + 1) n (λ j low high. out j (omega arith) (omega arith)) in
    elim (cases_Bool (is_after (death_by known unit a) unit)) [
      | inl alive ↦ rw (alive, out a (omega arith) (omega arith)) rest
      | inr dead ↦ rw dead rest
    ]

candidates-all : (order : Order) (known : Known) (reference : Reference) (unit a n : ℕ) →
    ((j : ℕ) → a ≤ j → j < a + n → (is_after (death_by known unit j) unit ≡ true) × (is_in_window reference.window unit (row_by order known unit j) ≡ true)) →
    candidates_of order known reference unit (range_with_len a n) ≡ range_with_len a n
candidates-all order known reference unit a zero within = refl
candidates-all order known reference unit a (suc n) within =
    let here = within a (omega arith) (omega arith) in
    rw (here.0, here.1) (ap (λ xs. a ∷ xs) (candidates-all order known reference unit (a + 1) n (λ j low high. within j (omega arith) (omega arith))))

candidates-append : (order : Order) (known : Known) (reference : Reference) (unit : ℕ) (xs ys : List ℕ) →
    candidates_of order known reference unit (xs ++ ys) ≡ candidates_of order known reference unit xs ++ candidates_of order known reference unit ys
candidates-append order known reference unit xs ys =
    ap (candidates reference unit) (filter_map-append (live_row order known unit) xs ys)
    ∙ ap (map (λ (row : Row). row.ordinal)) (filter-append (is_in_window reference.window unit) (filter_map (live_row order known unit) xs) (filter_map (live_row order known unit) ys))
    ∙ map-append (λ (row : Row). row.ordinal) _ _

-- the candidates are the rows of all ordinals that are born in the window
pub candidates-window : (units : ℕ) (order : Order) (known : Known) (sure : Option ℕ) → IsSure units known sure → (reference : Reference) (unit : ℕ) → unit ≤ units → IsWithinLife reference.window sure →
    first_in_window known.table.births reference.window unit ≤ born_count known.table.births unit →
    candidates reference unit (live_rows order known unit)
    ≡ range_with_len (first_in_window known.table.births reference.window unit) (count_in_window known.table.births reference.window unit)
candidates-window units order known sure is_sure reference unit within is some =
    let births : Births = known.table.births in
    let from : ℕ = first_in_window births reference.window unit in
    let count : ℕ = count_in_window births reference.window unit in
    let all : born_count births unit ≡ from + count = omega (arith, some) in
    let start : 0 + from ≡ from = omega arith in
    let before : candidates_of order known reference unit (range_with_len 0 from) ≡ [] =
    candidates-none order known reference unit 0 from
    (λ j low high.
    is_in_window-before reference.window unit (row_by order known unit j)
    (birth-before births (window_start reference.window unit) unit j (omega (arith, high, some)) (omega (arith, high)))) in
    let inside : candidates_of order known reference unit (range_with_len (0 + from) count) ≡ range_with_len from count =
    ap (λ (a : ℕ). candidates_of order known reference unit (range_with_len a count)) start
    ∙ candidates-all order known reference unit from count
    (λ j low high.
    let born : j < born_count births unit = omega (arith, all, high) in
    let at : unit + 0 ≡ unit = omega arith in (
      subst (λ (u : ℕ). is_after (death_by known unit j) u ≡ true) at (window-alive units known sure is_sure reference.window unit j 0 within is low born (sure-now reference.window sure is)),
      is_in_window-from reference.window unit (row_by order known unit j) (birth-from births (window_start reference.window unit) unit j born low),
    )) in
    ap (candidates_of order known reference unit) (ap (range_with_len 0) all ∙ range_with_len-add 0 from count)
    ∙ candidates-append order known reference unit (range_with_len 0 from) (range_with_len (0 + from) count)
    ∙ ap₂ (λ xs ys. xs ++ ys) before inside

-- ---- whether a table holds a row after the deletions of a unit

holds_row-none : (order : Order) (known : Known) (unit ordinal a n : ℕ) → ordinal < a → holds_row (filter_map (aged_row order known unit) (range_with_len a n)) ordinal ≡ false
holds_row-none order known unit ordinal a zero before = refl
holds_row-none order known unit ordinal a (suc n) before =
    elim (cases_Bool (is_after (death_by known unit a) (suc unit))) [
      | inl alive ↦ rw (alive, ne_eqb a ordinal (λ e. omega arith)) (holds_row-none order known unit ordinal (a + 1) n (omega arith))
      | inr dead ↦ rw dead (holds_row-none order known unit ordinal (a + 1) n (omega arith))
    ]

holds_row-aged : (order : Order) (known : Known) (unit ordinal a n : ℕ) → a ≤ ordinal → ordinal < a + n →
    holds_row (filter_map (aged_row order known unit) (range_with_len a n)) ordinal ≡ is_after (death_by known unit ordinal) (suc unit)
holds_row-aged order known unit ordinal a zero from born = absurd (omega arith)
holds_row-aged order known unit ordinal a (suc n) from born =
    elim (cases_eq a ordinal) [
      | inl same ↦ elim (cases_Bool (is_after (death_by known unit a) (suc unit))) [
        | inl alive ↦ rw (← same) (rw (alive, eq-eqb a a refl) refl)
        | inr dead ↦ rw (← same) (rw dead (holds_row-none order known unit a (a + 1) n (omega arith)))
      ]
      | inr other ↦
          let rest = holds_row-aged order known unit ordinal (a + 1) n (omega arith) (omega arith) in
          elim (cases_Bool (is_after (death_by known unit a) (suc unit))) [
            | inl alive ↦ rw (alive, ne_eqb a ordinal other) rest
            | inr dead ↦ rw dead rest
          ]
    ]

-- the death of an ordinal is the same, whatever the unit by which it is born
pub death_by-later : (known : Known) (unit last ordinal : ℕ) → ordinal < born_count known.table.births unit → unit ≤ last → death_by known last ordinal ≡ death_by known unit ordinal
death_by-later known unit last ordinal born within =
    ap (λ (b : ℕ). known.death b (ordinal - first_ordinal known.table.births b)) (birth-later known.table.births unit last ordinal born within)

-- ---- one parent, which its table holds exactly while it is alive

-- what the deletions of the unit after `last` find of it
pub record FindsOne (state : State) (reference : Reference) (death : Option ℕ) (parent last : ℕ) : Type 0 where
  pub held : (reference.nulls || not (is_gone state (reference, held_until (if reference.nulls then death else None) last parent))) ≡ (reference.nulls || is_after death (suc last))
  pub lost : is_lost state (reference, held_until (if reference.nulls then death else None) last parent) ≡ is_at (if reference.nulls then death else None) (suc last)
  pub left : (if is_lost state (reference, held_until (if reference.nulls then death else None) last parent) then None else held_until (if reference.nulls then death else None) last parent)
      ≡ held_until (if reference.nulls then death else None) (suc last) parent

not-not : (x : Bool) → not (not x) ≡ x
not-not true = refl
not-not false = refl

find_one : (state : State) (column place : ℕ) (window : Option ℕ) (spread : List ℕ) (nulls drawn : Bool) (death : Option ℕ) (parent last : ℕ) → holds_row (get_or state place []) parent ≡ is_after death (suc last) →
    FindsOne state (record { column = column; parent = place; window = window; spread = spread; nulls = nulls; drawn = drawn }) death parent last
find_one state column place window spread false drawn death parent last holds = record { held = not-not _ ∙ holds; lost = refl; left = refl }
find_one state column place window spread true drawn death parent last holds = elim (cases_Bool (is_after death last)) [
  | inr passed ↦ record { held = refl; lost = rw passed (sym (is_at-passed death last passed)); left = rw (passed, is_after-suc death last passed) refl }
  | inl alive ↦ elim (cases_Bool (is_after death (suc last))) [
    | inl on ↦
        let gone : not (holds_row (get_or state place []) parent) ≡ false = ap not (holds ∙ on) in
        record { held = refl; lost = rw (alive, gone) (sym (is_at-later death (suc last) on)); left = rw (alive, gone, on) refl }
    | inr over ↦
        let gone : not (holds_row (get_or state place []) parent) ≡ true = ap not (holds ∙ over) in
        record { held = refl; lost = rw (alive, gone) (sym (is_at-now death last alive over)); left = rw (alive, gone, over) refl }
  ]
]

-- it isn't lost while it is alive
held-unlost : (nulls : Bool) (death : Option ℕ) (parent unit : ℕ) → is_after death unit ≡ true → held_until (if nulls then death else None) unit parent ≡ Some parent
held-unlost false death parent unit alive = refl
held-unlost true death parent unit alive = rw alive refl

-- ---- the parents of the row with an index in a unit's cohort

module _ (units : ℕ) (order : Order) (earlier : List Known) (sure : ℕ → Option ℕ) (births : Births) (unit index : ℕ) (in_units : unit ≤ units) (below : index < cohort_size births unit) where
  -- they are born in the window
  pub parent_by-lies : (reference : Reference) → Refers units earlier sure births reference →
      (first_in_window (known_at earlier reference.parent).table.births reference.window unit ≤ parent_by order earlier unit index reference)
      × (parent_by order earlier unit index reference < born_count (known_at earlier reference.parent).table.births unit)
  parent_by-lies reference refers =
      let parent : Births = (known_at earlier reference.parent).table.births in
      let some = refers.some_parent unit in_units (omega (arith, below)) in
      let chosen : dealt reference (order.deal (length earlier) reference.column unit) (count_in_window parent reference.window unit) (order.place (length earlier) reference.column unit index) < count_in_window parent reference.window unit =
      dealt-below reference _ (count_in_window parent reference.window unit) _ (omega (arith, some)) in
      (omega arith, omega (arith, chosen, some))

  -- they live on for what is left of their sure lives
  pub parents-alive : (age : ℕ) (references : List Reference) → AllByRecursion (Refers units earlier sure births) references →
      AllByRecursion (λ (reference : Reference). is_after (less_window reference.window (sure reference.parent)) age ≡ true) references →
      is_after (first_death (map (parent_death_by order earlier unit index) references)) (unit + age) ≡ true
  parents-alive age [] refers past = refl
  parents-alive age (reference ∷ others) refers past =
      let lies = parent_by-lies reference refers.0 in
      is_after-lesser_from _ _ (unit + age)
      (window-alive units (known_at earlier reference.parent) (sure reference.parent) refers.0.is_sure reference.window unit
      (parent_by order earlier unit index reference) age in_units refers.0.within_life lies.0 lies.1 past.0)
      (parents-alive age others refers.1 past.1)

  sure-all_now : (references : List Reference) → AllByRecursion (Refers units earlier sure births) references →
      AllByRecursion (λ (reference : Reference). is_after (less_window reference.window (sure reference.parent)) 0 ≡ true) references
  sure-all_now [] refers = tt
  sure-all_now (reference ∷ others) refers = (sure-now reference.window (sure reference.parent) refers.0.within_life, sure-all_now others refers.1)

  -- they are alive when it is born
  pub parents-alive_now : (references : List Reference) → AllByRecursion (Refers units earlier sure births) references →
      is_after (first_death (map (parent_death_by order earlier unit index) references)) unit ≡ true
  parents-alive_now references refers =
      let at : unit + 0 ≡ unit = omega arith in
      subst (λ (u : ℕ). is_after (first_death (map (parent_death_by order earlier unit index) references)) u ≡ true) at
      (parents-alive 0 references refers (sure-all_now references refers))

  -- their tables hold them after the deletions of a unit exactly while they are alive
  holds_row-parent : (last : ℕ) → unit ≤ last → (reference : Reference) → Refers units earlier sure births reference →
      holds_row (get_or (map (λ known. aged_rows order known last) earlier) reference.parent []) (parent_by order earlier unit index reference)
      ≡ is_after (parent_death_by order earlier unit index reference) (suc last)
  holds_row-parent last within reference refers =
      let parent : Known = known_at earlier reference.parent in
      let ordinal : ℕ = parent_by order earlier unit index reference in
      let lies = parent_by-lies reference refers in
      let later : born_count parent.table.births unit ≤ born_count parent.table.births last = born_count-le parent.table.births unit last within in
      ap (λ rows. holds_row rows ordinal) (get_or-map (λ known. aged_rows order known last) earlier reference.parent nothing_known [] refers.is_earlier)
      ∙ holds_row-aged order parent last ordinal 0 (born_count parent.table.births last) (omega arith) (omega (arith, lies.1, later))
      ∙ ap (λ (death : Option ℕ). is_after death (suc last)) (death_by-later parent unit last ordinal lies.1 within)

  -- so the deletions find which of them die
  pub Finds-aged : (last : ℕ) → unit ≤ last → (references : List Reference) → AllByRecursion (Refers units earlier sure births) references →
      Finds order earlier (map (λ known. aged_rows order known last) earlier) references unit index last
  Finds-aged last within [] refers = record { held = refl; lost = refl; left = refl }
  Finds-aged last within (reference ∷ others) refers =
      let state : State = map (λ known. aged_rows order known last) earlier in
      let death : Option ℕ = parent_death_by order earlier unit index reference in
      let ordinal : ℕ = parent_by order earlier unit index reference in
      let here : FindsOne state reference death ordinal last =
      find_one state reference.column reference.parent reference.window reference.spread reference.nulls reference.drawn death ordinal last (holds_row-parent last within reference refers.0) in
      let rest = Finds-aged last within others refers.1 in
      record {
        held = ap₂ (λ x y. x && y) here.held rest.held ∙ sym (is_after-cascades (parent_death_by order earlier unit index) reference others (suc last));
        lost = ap₂ (λ x y. x || y) here.lost rest.lost;
        left = ap₂ (λ x xs. x ∷ xs) here.left rest.left;
      }

  -- each of them is alive when the row is born
  each-alive_now : (reference : Reference) → Refers units earlier sure births reference → is_after (parent_death_by order earlier unit index reference) unit ≡ true
  each-alive_now reference refers =
      let at : unit + 0 ≡ unit = omega arith in
      let lies = parent_by-lies reference refers in
      subst (λ (u : ℕ). is_after (parent_death_by order earlier unit index reference) u ≡ true) at
      (window-alive units (known_at earlier reference.parent) (sure reference.parent) refers.is_sure reference.window unit
      (parent_by order earlier unit index reference) 0 in_units refers.within_life lies.0 lies.1 (sure-now reference.window (sure reference.parent) refers.within_life))

  -- the simulation chooses them
  parent_choice-live : (reference : Reference) → Refers units earlier sure births reference →
      parent_choice reference (order.deal (length earlier) reference.column unit) unit (live_rows order (known_at earlier reference.parent) unit) (order.place (length earlier) reference.column unit index)
      ≡ parent_by order earlier unit index reference
  parent_choice-live reference refers =
      let parent : Births = (known_at earlier reference.parent).table.births in
      let seed : ℕ = order.deal (length earlier) reference.column unit in
      let place : ℕ = order.place (length earlier) reference.column unit index in
      let from : ℕ = first_in_window parent reference.window unit in
      let count : ℕ = count_in_window parent reference.window unit in
      let some : from < born_count parent unit = refers.some_parent unit in_units (omega (arith, below)) in
      ap (λ (found : List ℕ). get_or found (dealt reference seed (length found) place) 0)
      (candidates-window units order (known_at earlier reference.parent) (sure reference.parent) refers.is_sure reference unit in_units refers.within_life (omega (arith, some)))
      ∙ ap (λ (n : ℕ). get_or (range_with_len from count) (dealt reference seed n place) 0) (length-range_with_len from count)
      ∙ get_or-range_with_len from count (dealt reference seed count place) 0 (dealt-below reference seed count place (omega (arith, some)))

  pub parent_choice-all : (last : ℕ) → last ≡ length earlier → (references : List Reference) → AllByRecursion (Refers units earlier sure births) references →
      map (λ (reference : Reference). Some (parent_choice reference (order.deal last reference.column unit) unit (get_or (map (λ known. live_rows order known unit) earlier) reference.parent []) (order.place last reference.column unit index))) references
      ≡ held_each order earlier unit index unit references
  parent_choice-all last is [] refers = refl
  parent_choice-all last is (reference ∷ others) refers =
      ap₂ (λ x xs. x ∷ xs)
      (ap Some
      (ap (λ (place : ℕ). parent_choice reference (order.deal place reference.column unit) unit (get_or (map (λ known. live_rows order known unit) earlier) reference.parent []) (order.place place reference.column unit index)) is
      ∙ ap (λ rows. parent_choice reference (order.deal (length earlier) reference.column unit) unit rows (order.place (length earlier) reference.column unit index))
      (get_or-map (λ known. live_rows order known unit) earlier reference.parent nothing_known [] refers.0.is_earlier)
      ∙ parent_choice-live reference refers.0)
      ∙ sym (held-unlost reference.nulls (parent_death_by order earlier unit index reference) (parent_by order earlier unit index reference) unit (each-alive_now reference refers.0)))
      (parent_choice-all last is others refers.1)
