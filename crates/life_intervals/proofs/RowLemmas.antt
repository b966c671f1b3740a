-- A row through the deletions, the updates and the insertions of a unit.
use Rattle.std.proofs.Common.{◌≡◌, ℕ, suc, ◌+◌, ◌-◌, ◌<◌, ◌≤◌, not, Bool, true, false, ◌&&◌, Option, Some, None, option_map, option_and_then, List, [], ◌∷◌, filter, filter_map, map, zip, length, get_or, inl, inr, arith, refl, sym, ◌∙◌, ap, ap₂, lt-ltb}
use Rattle.std.specs.Prelude.{IfSome, if◌then◌else◌}
use Rattle.std.specs.List.{list_any, range_with_len}
use Rattle.std.proofs.lemmas.Bool.{cases_Bool}
use Rattle.philox_seeds.specs.SeedTree.{life_column, update_column}
use Rattle.schema_facts.specs.declared.layout.Span.{Span}
use Rattle.cohort_sizes.specs.Births.{birth, born_count, cohort_size, first_ordinal, index_at}
use Rattle.schema_facts.specs.Layout.{TableLayout}
use Rattle.life_intervals.specs.Changes.{change_by, due_by, first_due, last_change, wait_by}
use Rattle.life_intervals.specs.Generator.{Order}
use Rattle.life_intervals.specs.Intervals.{Known, death_by, first_death, held_until, is_after, is_at, known_by, loss_by, own_death_by, parent_by, parent_death_by, row_by}
use Rattle.schema_facts.specs.References.{Reference, cascades_of, references_of}
use Rattle.life_intervals.specs.Rows.{Row, State, first_age_by, life_by, new_row, parent_choice}
use Rattle.life_intervals.specs.Simulation.{hold_parents, is_due, is_over, kept, lose_parents, one_less, parents_left, waited}
use Rattle.schema_plan.specs.Limits.{IsSpan}
use Rattle.life_intervals.proofs.CascadeLemmas.{is_cascading}
use Rattle.life_intervals.proofs.ChangeLemmas.{NextChange, NextChange-update, change-born, change-le, last_change-next, last_change-now, wait-born}
use Rattle.cohort_sizes.proofs.CohortLemmas.{birth-early, birth-first_ordinal, birth-le}
use Rattle.life_intervals.proofs.DeathLemmas.{is_after-lesser_from, is_after-lesser_life, is_after-lesser_parts, is_after-suc, is_over-left, one_less-left}

-- the row of an ordinal that is born by a unit, where it is alive then
abbrev pub live_row : Order → Known → ℕ → ℕ → Option Row
live_row order known unit ordinal = if is_after (death_by known unit ordinal) unit then Some (row_by order known unit ordinal) else None

-- the parents that a row holds at a unit, by its birth unit and its index, and when it loses each
abbrev pub parents_held : Known → ℕ → ℕ → ℕ → List (Option ℕ)
parents_held known born index unit =
    map (λ (at : ℕ × Option ℕ). held_until at.1 unit at.0) (zip (known.parents born index) (known.losses born index))

abbrev pub losses_from : Known → ℕ → ℕ → List (Option ℕ)
losses_from known unit ordinal = known.losses (birth known.table.births unit ordinal) (index_at known.table.births unit ordinal)

-- the last unit at which it is due
abbrev pub due_of : Order → Known → ℕ → ℕ → ℕ
due_of order known unit ordinal =
    due_by order known.place known.table (birth known.table.births unit ordinal) (index_at known.table.births unit ordinal) unit

-- the end of its own life
abbrev pub own_end : Order → Known → ℕ → ℕ → Option ℕ
own_end order known unit ordinal =
    own_death_by order known.place known.table (birth known.table.births unit ordinal) (index_at known.table.births unit ordinal)

-- the row after the deletions of the next unit, but for what it is kept by
abbrev pub aged : Order → Known → ℕ → ℕ → Row
aged order known unit ordinal =
    let row = row_by order known unit ordinal in
    record row {
      changed = last_change (suc unit) (due_of order known unit ordinal) (losses_from known unit ordinal);
      left = option_map (λ death. death - suc unit) (own_end order known unit ordinal);
      parents = parents_held known (birth known.table.births unit ordinal) (index_at known.table.births unit ordinal) (suc unit);
    }

-- the same, where it is alive then
abbrev pub aged_row : Order → Known → ℕ → ℕ → Option Row
aged_row order known unit ordinal = if is_after (death_by known unit ordinal) (suc unit) then Some (aged order known unit ordinal) else None

-- the first death of the parents with which the row dies that has an index in a unit's cohort
abbrev pub parents_death : Order → List Known → TableLayout → ℕ → ℕ → Option ℕ
parents_death order earlier table unit index = first_death (map (parent_death_by order earlier unit index) (cascades_of table))

-- the parents that it holds at a unit by some references
abbrev pub held_each : Order → List Known → ℕ → ℕ → ℕ → List Reference → List (Option ℕ)
held_each order earlier born index unit references =
    map (λ (reference : Reference). held_until (loss_by order earlier born index reference) unit (parent_by order earlier born index reference)) references

-- what the deletions of the unit after one find of the parents of the row with an index in the cohort of unit `born`
pub record Finds (order : Order) (earlier : List Known) (state : State) (references : List Reference) (born index unit : ℕ) : Type 0 where
  pub held : hold_parents state references (held_each order earlier born index unit references)
      ≡ is_after (first_death (map (parent_death_by order earlier born index) (filter is_cascading references))) (suc unit)
  pub lost : lose_parents state references (held_each order earlier born index unit references)
      ≡ list_any (λ loss. is_at loss (suc unit)) (map (loss_by order earlier born index) references)
  pub left : parents_left state references (held_each order earlier born index unit references)
      ≡ held_each order earlier born index (suc unit) references

-- the parents that a row holds, reference by reference
pub parents_held-references : (order : Order) (earlier : List Known) (born index unit : ℕ) (references : List Reference) →
    map (λ (at : ℕ × Option ℕ). held_until at.1 unit at.0) (zip (map (parent_by order earlier born index) references) (map (loss_by order earlier born index) references))
    ≡ held_each order earlier born index unit references
parents_held-references order earlier born index unit [] = refl
parents_held-references order earlier born index unit (reference ∷ others) =
    ap (λ held. held_until (loss_by order earlier born index reference) unit (parent_by order earlier born index reference) ∷ held)
    (parents_held-references order earlier born index unit others)

-- the last due unit is no later than the unit
pub due_of-le : (order : Order) (known : Known) (unit ordinal : ℕ) → ordinal < born_count known.table.births unit → due_of order known unit ordinal ≤ unit
due_of-le order known unit ordinal born =
    change-le known.table.update unit (birth known.table.births unit ordinal)
    (first_due order known.place (birth known.table.births unit ordinal) (index_at known.table.births unit ordinal)) (birth-le known.table.births unit ordinal born)

-- where its parents stand in their tables exactly while they are alive, the deletions of the next unit keep a row while it is alive
pub kept-live_row : (order : Order) (earlier : List Known) (table : TableLayout) (unit ordinal : ℕ) (state : State) → ordinal < born_count table.births unit →
    Finds order earlier state (references_of table) (birth table.births unit ordinal) (index_at table.births unit ordinal) unit →
    option_and_then (kept (suc unit) state table) (live_row order (known_by order earlier table) unit ordinal) ≡ aged_row order (known_by order earlier table) unit ordinal
kept-live_row order earlier table unit ordinal state early finds =
    let references : List Reference = references_of table in
    let known : Known = known_by order earlier table in
    let born : ℕ = birth table.births unit ordinal in
    let index : ℕ = index_at table.births unit ordinal in
    let own : Option ℕ = own_death_by order (length earlier) table born index in
    let others : Option ℕ = parents_death order earlier table born index in
    elim (cases_Bool (is_after (death_by known unit ordinal) unit)) [
      | inr dead ↦ rw (dead, is_after-suc (death_by known unit ordinal) unit dead) refl
      | inl alive ↦
          let both = is_after-lesser_parts own others unit alive in
          let now : List (Option ℕ) = parents_held known born index unit in
          let same = parents_held-references order earlier born index unit references in
          let test : (not (is_over (option_map (λ d. d - suc unit) own)) && hold_parents state references now) ≡ is_after (death_by known unit ordinal) (suc unit) =
          ap₂ (λ x y. x && y) (is_over-left own unit both.0) (ap (hold_parents state references) same ∙ finds.held) ∙ sym (is_after-lesser_life own others (suc unit)) in
          let changed : (if lose_parents state references now then suc unit else last_change unit (due_of order known unit ordinal) (losses_from known unit ordinal))
          ≡ last_change (suc unit) (due_of order known unit ordinal) (losses_from known unit ordinal) =
          ap (λ (lost : Bool). if lost then suc unit else last_change unit (due_of order known unit ordinal) (losses_from known unit ordinal))
          (ap (lose_parents state references) same ∙ finds.lost)
          ∙ sym (last_change-next unit (due_of order known unit ordinal) (losses_from known unit ordinal) (due_of-le order known unit ordinal early)) in
          let parents : parents_left state references now ≡ parents_held known born index (suc unit) =
          ap (parents_left state references) same ∙ finds.left ∙ sym (parents_held-references order earlier born index (suc unit) references) in
          rw (alive, one_less-left own unit, test, changed, parents) refl
    ]

-- the updates make of a row what it is where it is due, and where it isn't
waited-cases : (unit : ℕ) (table : TableLayout) (row to : Row) →
    (is_due row ≡ true → record row { changed = unit; wait = table.update } ≡ to) →
    (is_due row ≡ false → record row { wait = one_less row.wait } ≡ to) → waited unit table row ≡ to
waited-cases unit table row to due not_due = elim (cases_Bool (is_due row)) [
  | inl y ↦ rw y (due y)
  | inr n ↦ rw n (not_due n)
]

-- what a row's wait and last due unit are at the next unit
pub NextChange-row : (order : Order) (known : Known) (unit ordinal : ℕ) → IfSome known.table.update (λ period. 1 ≤ period) →
    (let births = known.table.births in
    NextChange known.table.update unit (due_by order known.place known.table (birth births unit ordinal) (index_at births unit ordinal))
    (wait_by order known.place known.table (birth births unit ordinal) (index_at births unit ordinal)))
NextChange-row order known unit ordinal some =
    NextChange-update known.table.update unit (birth known.table.births unit ordinal)
    (first_due order known.place (birth known.table.births unit ordinal) (index_at known.table.births unit ordinal)) some

-- the updates of the next unit make of a row that is born by a unit and kept the row that it is then
pub waited-aged : (order : Order) (known : Known) (unit ordinal : ℕ) → IfSome known.table.update (λ period. 1 ≤ period) → ordinal < born_count known.table.births unit →
    waited (suc unit) known.table (aged order known unit ordinal) ≡ row_by order known (suc unit) ordinal
waited-aged order known unit ordinal some early =
    let change : NextChange known.table.update unit _ _ = NextChange-row order known unit ordinal some in
    rw (birth-early known.table.births unit ordinal early)
    (waited-cases (suc unit) known.table (aged order known unit ordinal) _
    (λ due. let e = change.ends due in
    let losses : List (Option ℕ) = losses_from known unit ordinal in
    ap₂ (λ (changed : ℕ) (wait : Option ℕ). let row : Row = record (aged order known unit ordinal) { changed = changed; wait = wait } in row)
    (sym (ap (λ (c : ℕ). last_change (suc unit) c losses) e.0 ∙ last_change-now (suc unit) losses)) (sym e.1))
    (λ on. let e = change.goes_on on in
    let losses : List (Option ℕ) = losses_from known unit ordinal in
    ap₂ (λ (changed : ℕ) (wait : Option ℕ). let row : Row = record (aged order known unit ordinal) { changed = changed; wait = wait } in row)
    (sym (ap (λ (c : ℕ). last_change (suc unit) c losses) e.0)) (sym e.1)))

pub death_by-early : (known : Known) (unit ordinal : ℕ) → ordinal < born_count known.table.births unit → death_by known (suc unit) ordinal ≡ death_by known unit ordinal
death_by-early known unit ordinal early =
    ap (λ (born : ℕ). known.death born (ordinal - first_ordinal known.table.births born)) (birth-early known.table.births unit ordinal early)

pub waited-aged_row : (order : Order) (known : Known) (unit ordinal : ℕ) → IfSome known.table.update (λ period. 1 ≤ period) → ordinal < born_count known.table.births unit →
    option_map (waited (suc unit) known.table) (aged_row order known unit ordinal) ≡ live_row order known (suc unit) ordinal
waited-aged_row order known unit ordinal some early =
    rw (death_by-early known unit ordinal early)
    (elim (cases_Bool (is_after (death_by known unit ordinal) (suc unit))) [
      | inr dead ↦ rw dead refl
      | inl alive ↦ rw alive (ap Some (waited-aged order known unit ordinal some early))
    ])

-- ---- births

same_row : (ordinal b b' c c' : ℕ) (l l' w w' : Option ℕ) (ps ps' : List (Option ℕ)) → b ≡ b' → c ≡ c' → l ≡ l' → w ≡ w' → ps ≡ ps' →
    (let row : Row = record { ordinal = ordinal; born = b; changed = c; left = l; wait = w; parents = ps } in row)
    ≡ record { ordinal = ordinal; born = b'; changed = c'; left = l'; wait = w'; parents = ps' }
same_row ordinal b b' c c' l l' w w' ps ps' eb ec el ew eps = rw (eb, ec, el, ew, eps) refl

-- what is left of a life at the birth
left-born : (unit : ℕ) (life : Option ℕ) → life ≡ option_map (λ d. d - unit) (option_map (λ l. unit + l) life)
left-born unit None = refl
left-born unit (Some life) = ap Some (omega arith)

-- a row lives past its birth
own_death-born : (unit place : ℕ) (life : Option Span) → IfSome life IsSpan → is_after (option_map (λ l. unit + l) (life_by life place)) unit ≡ true
own_death-born unit place None is = refl
own_death-born unit place (Some life) is = lt-ltb unit _ (omega (arith, is.some_unit))

index-first_ordinal : (first index : ℕ) → first + index - first ≡ index
index-first_ordinal first index = omega arith

-- the death of the row with an index in a cohort
pub death_by-first_ordinal : (known : Known) (last unit index : ℕ) → unit ≤ last → index < cohort_size known.table.births unit →
    death_by known last (first_ordinal known.table.births unit + index) ≡ known.death unit index
death_by-first_ordinal known last unit index within below =
    let ordinal : ℕ = first_ordinal known.table.births unit + index in
    ap (λ (born : ℕ). known.death born (ordinal - first_ordinal known.table.births born)) (birth-first_ordinal known.table.births last unit index within below)
    ∙ ap (known.death unit) (index-first_ordinal (first_ordinal known.table.births unit) index)

-- a row by its birth unit and its index
abbrev row_from : Order → Known → ℕ → ℕ → ℕ → ℕ → Row
row_from order known unit ordinal born index = record {
  ordinal = ordinal;
  born = born;
  changed = change_by order known.place known.table (known.losses born index) born index unit;
  left = option_map (λ death. death - unit) (own_death_by order known.place known.table born index);
  wait = wait_by order known.place known.table born index unit;
  parents = parents_held known born index unit;
}

row_by-first_ordinal : (order : Order) (known : Known) (last unit index : ℕ) → unit ≤ last → index < cohort_size known.table.births unit →
    row_by order known last (first_ordinal known.table.births unit + index) ≡ row_from order known last (first_ordinal known.table.births unit + index) unit index
row_by-first_ordinal order known last unit index within below =
    let ordinal : ℕ = first_ordinal known.table.births unit + index in
    ap (λ (born : ℕ). row_from order known last ordinal born (ordinal - first_ordinal known.table.births born)) (birth-first_ordinal known.table.births last unit index within below)
    ∙ ap (row_from order known last ordinal unit) (index-first_ordinal (first_ordinal known.table.births unit) index)

-- a row as it is born is the row of its ordinal, where it has the same parents and they are alive
pub new_row-live_row : (order : Order) (earlier : List Known) (table : TableLayout) (unit index : ℕ) (state : State) → length state ≡ length earlier → index < cohort_size table.births unit →
    IfSome table.life IsSpan →
    map (λ (reference : Reference). Some (parent_choice reference (order.deal (length state) reference.column unit) unit (get_or state reference.parent []) (order.place (length state) reference.column unit index))) (references_of table)
    ≡ held_each order earlier unit index unit (references_of table) →
    is_after (parents_death order earlier table unit index) unit ≡ true →
    Some (new_row order unit state table index) ≡ live_row order (known_by order earlier table) unit (first_ordinal table.births unit + index)
new_row-live_row order earlier table unit index state places below life chosen alive =
    let known : Known = known_by order earlier table in
    let ordinal : ℕ = first_ordinal table.births unit + index in
    let here : unit ≤ unit = omega arith in
    let lives_on : is_after (known.death unit index) unit ≡ true =
    is_after-lesser_from _ _ unit (own_death-born unit (order.place (length earlier) life_column unit index) table.life life) alive in
    let row : new_row order unit state table index ≡ row_from order known unit ordinal unit index =
    same_row ordinal unit unit unit _ _ _ _ _ _ _ refl
    (sym (
    ap (λ (due : ℕ). last_change unit due (known.losses unit index)) (change-born table.update unit (order.place (length earlier) update_column unit index))
    ∙ last_change-now unit (known.losses unit index)))
    (ap (λ (place : ℕ). life_by table.life (order.place place life_column unit index)) places ∙ left-born unit (life_by table.life (order.place (length earlier) life_column unit index)))
    (ap (λ (place : ℕ). first_age_by table.update (order.place place update_column unit index)) places ∙ sym (wait-born table.update unit (order.place (length earlier) update_column unit index)))
    (chosen ∙ sym (parents_held-references order earlier unit index unit (references_of table))) in
    ap₂ (λ (alive : Bool) (row : Row). if alive then Some row else None) (sym lives_on) row
    ∙ sym (ap₂ (λ (death : Option ℕ) (row : Row). if is_after death unit then Some row else None)
    (death_by-first_ordinal known unit unit index here below) (row_by-first_ordinal order known unit unit index here below))

-- ---- all rows of a known table

-- those that are born by a unit and alive then
abbrev pub live_rows : Order → Known → ℕ → List Row
live_rows order known unit = filter_map (live_row order known unit) (range_with_len 0 (born_count known.table.births unit))

-- the same after the deletions of the next unit
abbrev pub aged_rows : Order → Known → ℕ → List Row
aged_rows order known unit = filter_map (aged_row order known unit) (range_with_len 0 (born_count known.table.births unit))

-- those that are born before a unit, at the unit
abbrev pub older_rows : Order → Known → ℕ → List Row
older_rows order known unit = filter_map (live_row order known unit) (range_with_len 0 (first_ordinal known.table.births unit))
