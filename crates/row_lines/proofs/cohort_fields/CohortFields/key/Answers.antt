use Rattle.std.proofs.Common.{ℕ, ap, ◌∙◌}
use Rattle.life_intervals.specs.Generator.{generator_of}
use Rattle.life_intervals.specs.Keys.{key_in_cohort}
use Rattle.row_lines.specs.CohortLines.{LinesOf}
use Rattle.row_lines.proofs.cohort_fields.CohortFields.key.Goals as goal

pub returns-in-None-clause-key : goal.returns-in-None-clause-key
returns-in-None-clause-key g c =
    c.found_key.ensures.in_cohort
    ∙ ap (λ (index : ℕ). key_in_cohort (generator_of c.self.inside.rows.now) c.self.inside.table c.found.result.born index) c.found.ensures.index
    ∙ ap (λ (born : ℕ). key_in_cohort (generator_of c.self.inside.rows.now) c.self.inside.table born c.args.index) c.found.ensures.born
    ∙ ap (λ (of : LinesOf). key_in_cohort (generator_of of.plan) of.table c.args.self.now.born c.args.index) c.self.view_is
