use Rattle.std.proofs.Common.{ap, arith, ◌∙◌}
use Rattle.schema_facts.specs.Dictionaries.{Project}
use Rattle.life_intervals.specs.Generator.{last_unit}
use Rattle.row_lines.specs.CohortLines.{LinesOf, values_at}
use Rattle.row_lines.proofs.CohortLineLemmas.{AreLinesOf-view, change_for-le}
use Rattle.row_lines.proofs.cohort_lines.CohortLines.put_changed_line.Goals as goal

pub new-values-requires-clause-changed : goal.new-values-requires-clause-changed
new-values-requires-clause-changed g c =
    let known = AreLinesOf-view _ c.args.self.now c.self.inside.columns.now c.self.inside.fields c.self.inside.delimiter c.self.view_is c.self.invariant in
    omega (
      arith,
      c.requires.changed,
      change_for-le c.args.self.now c.args.index known.born c.requires.row,
      known.unit,
      ap (λ (plan : Project). last_unit plan) c.plan-plan.ensures,
      ap (λ (lines : LinesOf). last_unit lines.plan) c.self.view_is,
    )

pub put_fields-requires-clause-values : goal.put_fields-requires-clause-values
put_fields-requires-clause-values g c =
    c.new-values.ensures
    ∙ ap (λ (plan : Project). record { plan = plan; table = c.self.inside.place; born = c.self.inside.born; changed = c.args.changed }) c.plan-plan.ensures
    ∙ ap (λ (of : LinesOf). values_at of c.args.changed) c.self.view_is
    ∙ ap (values_at c.args.self.now) c.requires.changed
