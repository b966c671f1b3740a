use Rattle.std.proofs.Common.{◌≤◌, ◌+◌, ap, subst, ◌∙◌}
use Rattle.life_intervals.specs.CohortParents.{asked_for_change}
use Rattle.life_intervals.specs.Generator.{generator_of}
use Rattle.life_intervals.specs.Intervals.{change_unit}
use Rattle.row_lines.specs.CohortLines.{LinesOf, ordinal_of}
use Rattle.row_lines.proofs.CohortLineLemmas.{AreLinesOf-view}
use Rattle.row_lines.proofs.cohort_lines.CohortLines.changed.Goals as goal

pub returns-clause-unit : goal.returns-clause-unit
returns-clause-unit g c =
    let known = AreLinesOf-view _ c.args.self.now c.self.inside.columns.now c.self.inside.fields c.self.inside.delimiter c.self.view_is c.self.invariant in
    c.found_change.ensures.unit
    ∙ ap (λ (of : LinesOf). change_unit (generator_of of.plan) of.table of.unit c.found-row.result.ordinal) c.self.view_is
    ∙ ap (change_unit (generator_of c.args.self.now.plan) c.args.self.now.table c.args.self.now.unit) (c.found-row.ensures.ordinal ∙ ap (λ (of : LinesOf). ordinal_of of c.args.index) known.fields_are)

pub returns-clause-within : goal.returns-clause-within
returns-clause-within g c = subst (λ (of : LinesOf). c.found_change.result ≤ of.unit) c.self.view_is c.found_change.ensures.within

pub returns-clause-steps : goal.returns-clause-steps
returns-clause-steps g c = subst (λ (of : LinesOf). c.found_change.new.steps ≤ c.args.steps.now + asked_for_change of.plan of.table) c.self.view_is c.found_change.ensures.steps
