-- What sound tables come to: the candidates of each reference, and change units.
use Rattle.std.proofs.Common.{◌≡◌, ℕ, zero, suc, ◌+◌, ◌<◌, ◌≤◌, Option, Some, List, filter, length, map, inl, inr, ap, arith, subst, sym, ◌∙◌}
use Rattle.std.specs.Prelude.{All}
use Rattle.std.specs.List.{AllByRecursion, range_with_len}
use Rattle.std.specs.Option.{option_map_or}
use Rattle.std.proofs.lemmas.Bool.{cases_Bool}
use Rattle.std.proofs.lemmas.List.Elements.{All-from_recursion}
use Rattle.cohort_sizes.specs.Births.{birth, born_count, cohort_size, index_at}
use Rattle.schema_facts.specs.Layout.{TableLayout, table_at}
use Rattle.schema_facts.specs.Lineage.{sure_life}
use Rattle.life_intervals.specs.Changes.{IsLastChange, IsLastDue, due_by, first_due, last_due}
use Rattle.life_intervals.specs.Generator.{Generator, Order}
use Rattle.life_intervals.specs.Intervals.{Known, change_unit, is_live, known_of, loss_of, row_at, rows_of}
use Rattle.schema_facts.specs.References.{Reference, count_in_window, first_in_window, references_of}
use Rattle.life_intervals.specs.Rows.{Row, candidates}
use Rattle.life_intervals.specs.Simulation.{rows_at}
use Rattle.life_intervals.specs.Sound.{AreSound, IsSoundReference}
use Rattle.life_intervals.proofs.AcceptedLemmas.{row_at-changed}
use Rattle.life_intervals.proofs.ChangeLemmas.{IsLastChange-last_change, IsLastDue-last_due}
use Rattle.life_intervals.proofs.KnownLemmas.{IsSure-known_of}
use Rattle.life_intervals.proofs.LifeLemmas.{change_unit-le}
use Rattle.life_intervals.proofs.ParentLemmas.{candidates-window}
use Rattle.life_intervals.proofs.SimulationLemmas.{rows_at-rows_of, rows_of-live}

-- the candidates of a reference are the rows of all ordinals that are born in its window
pub candidates-rows_at : (units : ℕ) (generator : Generator) → AreSound units generator.tables → (place : ℕ) → place < length generator.tables → (unit : ℕ) → unit ≤ units →
    0 < cohort_size (table_at generator.tables place).births unit → (reference : Reference) → IsSoundReference units generator.tables place reference →
    candidates reference unit (rows_at generator reference.parent unit)
    ≡ range_with_len (first_in_window (table_at generator.tables reference.parent).births reference.window unit) (count_in_window (table_at generator.tables reference.parent).births reference.window unit)
candidates-rows_at units generator sound place below unit within some reference is =
    let parent : Known = known_of generator reference.parent in
    let first : first_in_window parent.table.births reference.window unit < born_count parent.table.births unit = is.some_parent unit within some in
    ap (candidates reference unit) (rows_at-rows_of units generator reference.parent unit sound within ∙ rows_of-live generator reference.parent unit)
    ∙ candidates-window units generator.order parent (sure_life generator.tables reference.parent) (IsSure-known_of units generator sound reference.parent (omega (arith, below, is.earlier))) reference unit within is.within_life (omega (arith, first))

-- there are some
pub count_in_window-some : (units : ℕ) (tables : List TableLayout) (place unit : ℕ) → unit ≤ units → 0 < cohort_size (table_at tables place).births unit → (reference : Reference) → IsSoundReference units tables place reference →
    0 < count_in_window (table_at tables reference.parent).births reference.window unit
count_in_window-some units tables place unit within some reference is =
    let first : first_in_window (table_at tables reference.parent).births reference.window unit < born_count (table_at tables reference.parent).births unit = is.some_parent unit within some in
    omega (arith, first)

-- a due unit is the last of these up to the unit
pub due_by-last : (order : Order) (place : ℕ) (table : TableLayout) (born index unit period : ℕ) → table.update ≡ Some period → 1 ≤ period →
    IsLastDue born (first_due order place born index period) period unit (due_by order place table born index unit)
due_by-last order place table born index unit period update some =
    subst (λ (last : ℕ). IsLastDue born (first_due order place born index period) period unit last)
    (sym (ap (λ (update : Option ℕ). option_map_or (λ (p : ℕ). last_due born (first_due order place born index p) p unit) update born) update))
    (IsLastDue-last_due born (first_due order place born index period) period unit some)

-- a change unit is the last of the due units and the losses
pub change_unit-last : (generator : Generator) (place unit ordinal : ℕ) →
    (let table = table_at generator.tables place in
    let due = due_by generator.order place table (birth table.births unit ordinal) (index_at table.births unit ordinal) unit in
    IsLastChange unit due (map (loss_of generator place unit ordinal) (references_of table)) (change_unit generator place unit ordinal))
change_unit-last generator place unit ordinal =
    let table : TableLayout = table_at generator.tables place in
    IsLastChange-last_change unit (due_by generator.order place table (birth table.births unit ordinal) (index_at table.births unit ordinal) unit)
    (map (loss_of generator place unit ordinal) (references_of table))

-- the rows that a table holds have changed by the unit
module _ (units : ℕ) (generator : Generator) (sound : AreSound units generator.tables) (place : ℕ) (below : place < length generator.tables) (unit : ℕ) (within : unit ≤ units) where
  changed-by : (from count : ℕ) → from + count ≤ born_count (table_at generator.tables place).births unit →
      AllByRecursion (λ (row : Row). row.changed ≤ unit) (map (row_at generator place unit) (filter (is_live generator place unit) (range_with_len from count)))
  changed-by from zero all = tt
  changed-by from (suc count) all =
      let rest = changed-by (from + 1) count (omega (arith, all)) in
      elim (cases_Bool (is_live generator place unit from)) [
        | inl alive ↦ rw alive (omega (arith, row_at-changed generator place unit from below, change_unit-le generator place unit from (omega (arith, all))), rest)
        | inr dead ↦ rw dead rest
      ]

  pub rows-changed : All (λ (row : Row). row.changed ≤ unit) (rows_at generator place unit)
  rows-changed =
      subst (All (λ (row : Row). row.changed ≤ unit)) (sym (rows_at-rows_of units generator place unit sound within))
      (All-from_recursion (λ (row : Row). row.changed ≤ unit) (rows_of generator place unit) (changed-by 0 (born_count (table_at generator.tables place).births unit) (omega arith)))
