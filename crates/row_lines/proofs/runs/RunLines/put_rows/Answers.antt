use Rattle.std.proofs.Common.{◌≡◌, ◌≤◌, ℕ, List, length, length-take, take, arith, subst}
use Rattle.std.specs.Prelude.{All}
use Rattle.std.proofs.Math.Nat.{mul-le-mul_left, mul-le-mul_right}
use Rattle.schema_facts.specs.Layout.{layout_of}
use Rattle.schema_facts.specs.TableFacts.{line_cost}
use Rattle.life_intervals.specs.CohortParents.{asked_for_death}
use Rattle.life_intervals.proofs.CohortParentLemmas.{asked_for_death-cost}
use Rattle.row_lines.specs.RunFields.{HasSizes}
use Rattle.row_lines.specs.Runs.{RunLinesOf, living_from}
use Rattle.row_lines.proofs.RunPieceLemmas.{AreRunLines-view}
use Rattle.row_lines.proofs.runs.RunLines.put_rows.Goals as goal

pub returns-clause-steps : goal.returns-clause-steps
returns-clause-steps g c =
    let lines : RunLinesOf = c.args.self.now in
    let known = AreRunLines-view _ lines c.self.inside.lines.now c.self.view_is c.self.invariant in
    let rows : List ℕ = take c.args.count c.args.work.now.rows.ordinals in
    let all : length rows ≤ c.args.count = omega (arith, length-take c.args.count c.args.work.now.rows.ordinals) in
    let living : List ℕ = take c.find_living-living.result.count c.find_living-living.new.ordinals in
    let some : length living ≤ c.args.count = omega (arith, all, c.find_living-living.ensures.few, length-take c.find_living-living.result.count c.find_living-living.new.ordinals) in
    omega (
      arith,
      c.find_living-living.ensures.steps,
      c.put_living.ensures.steps,
      mul-le-mul_right (asked_for_death lines.plan lines.table) all,
      mul-le-mul_left c.args.count (asked_for_death-cost lines.plan known.sound lines.table known.table),
      mul-le-mul_right (line_cost (layout_of lines.plan) lines.table) some,
    )

pub returns-clause-fields : goal.returns-clause-fields
returns-clause-fields g c =
    let lines : RunLinesOf = c.args.self.now in
    let rows : List ℕ = take c.args.count c.args.work.now.rows.ordinals in
    let many : length rows ≡ c.args.count = omega (arith, length-take c.args.count c.args.work.now.rows.ordinals) in
    subst (λ (n : ℕ). All (HasSizes lines) (living_from lines c.args.first n)) many
    (subst (All (HasSizes lines)) c.find_living-living.ensures.ordinals c.put_living.ensures.fields)
