use Rattle.std.proofs.Common.{◌≡◌, ◌≤◌, ◌+◌, ◌%◌, ℕ, Some, get_or, map, ap, arith, sym, ◌∙◌}
use Rattle.std.specs.Prelude.{All}
use Rattle.std.proofs.lemmas.Simd.{map-map}
use Rattle.schema_facts.specs.Dictionaries.{Project}
use Rattle.life_intervals.specs.declared.orders.Purpose.TheVariants.{Updates}
use Rattle.life_intervals.specs.Changes.{last_due}
use Rattle.life_intervals.specs.CohortOrders.{due_for, place_for}
use Rattle.life_intervals.specs.Generator.{last_unit, table_of}
use Rattle.life_intervals.proofs.PartLemmas.{due_for-birth, due_for-never, place_for-due}
use Rattle.life_intervals.proofs.RunLemmas.{map-all, map-same_value}
use Rattle.life_intervals.proofs.rows.Rows.put_part_due.Goals as goal
use Rattle.life_intervals.proofs.rows.Rows.put_part_due.Goals.{in_default-via-in-Some+else-born-t, in_default-via-in_default}

pub returns-in-Some-clause-changes : goal.returns-in-Some-clause-changes
returns-in-Some-clause-changes g c =
    let plan : Project = c.args.self.now in
    let period : ℕ = c.in-Some.period in
    let within : c.args.born ≤ last_unit plan = omega (arith, c.requires.born, c.requires.unit) in
    let is : (table_of plan c.args.table).update ≡ Some period =
    sym (c.in-Some.ensures.update ∙ ap (λ (p : Project). (table_of p c.args.table).update) c.plan-2.ensures) in
    let by : ℕ → ℕ = λ place. last_due c.args.born (c.args.born + (1 + place % period)) period c.args.t in
    c.put_due_units.ensures
    ∙ ap (map by) c.put_places.ensures.places
    ∙ map-map by (place_for plan c.args.table Updates c.args.born) c.args.ordinals.now
    ∙ map-all (λ j. by (place_for plan c.args.table Updates c.args.born j)) (due_for plan c.args.table c.args.t c.args.born) c.args.ordinals.now (λ k d inside.
    place_for-due plan c.args.table c.args.born within (get_or c.args.ordinals.now k d) (c.requires.lie k d inside) c.args.t period is c.in-Some.ensures.limits.some_unit)

pub returns-in_default-clause-changes : goal.returns-in_default-clause-changes
returns-in_default-clause-changes g c =
    let plan : Project = c.args.self.now in
    let within : c.args.born ≤ last_unit plan = omega (arith, c.requires.born, c.requires.unit) in
    let each : All (λ j. c.args.born ≡ due_for plan c.args.table c.args.t c.args.born j) c.args.ordinals.now = elim c.in_default.branch [
      | in_default-via-in-Some+else-born-t w ↦ λ k d inside.
          due_for-birth plan c.args.table c.args.born within (get_or c.args.ordinals.now k d) (c.requires.lie k d inside) c.args.t (omega (arith, w.if-born-t.false, c.requires.born))
      | in_default-via-in_default w ↦ λ k d inside.
          due_for-never plan c.args.table c.args.born within (get_or c.args.ordinals.now k d) (c.requires.lie k d inside) c.args.t
          (sym (sym w.in_default.is ∙ c.update.ensures.update ∙ ap (λ (p : Project). (table_of p c.args.table).update) c.plan-2.ensures))
    ] in
    map-same_value (due_for plan c.args.table c.args.t c.args.born) c.args.born c.args.ordinals.now c.put_unit.new.units 0
    (omega (arith, c.put_unit.ensures.same_length, c.requires.same_length))
    (λ i below. c.put_unit.ensures.same i (omega (arith, below, c.requires.same_length))) each
