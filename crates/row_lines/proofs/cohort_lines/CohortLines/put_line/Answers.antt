use Rattle.std.proofs.Common.{arith}
use Rattle.row_lines.proofs.CohortLineLemmas.{AreLinesOf-view, steps-line_cost}
use Rattle.row_lines.proofs.cohort_lines.CohortLines.put_line.Goals as goal

pub returns-clause-steps : goal.returns-clause-steps
returns-clause-steps g c =
    let known = AreLinesOf-view _ c.args.self.now c.self.inside.columns.now c.self.inside.fields c.self.inside.delimiter c.self.view_is c.self.invariant in
    omega (
      arith,
      c.key-key.ensures.steps,
      c.changed-changed.ensures.steps,
      c.put_changed_line.ensures.steps,
      steps-line_cost c.args.self.now known.sound known.table known.limits,
    )
