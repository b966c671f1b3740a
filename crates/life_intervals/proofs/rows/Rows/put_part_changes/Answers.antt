use Rattle.std.proofs.Common.{◌≡◌, ◌≤◌, false, get_or, ap, arith, sym, ◌∙◌}
use Rattle.std.specs.Prelude.{All}
use Rattle.schema_facts.specs.Dictionaries.{Project}
use Rattle.life_intervals.specs.Changes.{has_nullings}
use Rattle.life_intervals.specs.CohortOrders.{due_for}
use Rattle.life_intervals.specs.Generator.{generator_of, last_unit, table_of}
use Rattle.life_intervals.specs.Intervals.{change_unit}
use Rattle.life_intervals.proofs.PartLemmas.{due_for-change, due_for-change_at}
use Rattle.life_intervals.proofs.RunLemmas.{map-all}
use Rattle.life_intervals.proofs.rows.Rows.put_part_changes.Goals as goal
use Rattle.life_intervals.proofs.rows.Rows.put_part_changes.Goals.{else-born-t-via-then-born-t+else-has_nullings, else-born-t-via-else-born-t}

pub returns-else-born-t-clause-changes : goal.returns-else-born-t-clause-changes
returns-else-born-t-clause-changes g c =
    let plan : Project = c.args.self.now in
    let within : c.args.born ≤ last_unit plan = omega (arith, c.requires.born, c.requires.unit) in
    let due = due_for plan c.args.table c.args.t c.args.born in
    let change = change_unit (generator_of plan) c.args.table c.args.t in
    let each : All (λ j. due j ≡ change j) c.args.ordinals.now = elim c.else-born-t.branch [
      | else-born-t-via-then-born-t+else-has_nullings w ↦ λ k d inside.
          let none : has_nullings (table_of plan c.args.table) ≡ false =
          ap (λ (p : Project). has_nullings (table_of p c.args.table)) (sym w.plan.ensures) ∙ sym w.has_nullings.ensures ∙ w.if-has_nullings.false in
          due_for-change plan c.args.table c.args.born within (get_or c.args.ordinals.now k d) (c.requires.lie k d inside) c.args.t c.requires.born none
      | else-born-t-via-else-born-t w ↦ λ k d inside.
          due_for-change_at plan c.args.table c.args.born within (get_or c.args.ordinals.now k d) (c.requires.lie k d inside) c.args.t c.requires.born w.if-born-t.false
    ] in
    c.put_part_due.ensures.changes ∙ map-all due change c.args.ordinals.now each
