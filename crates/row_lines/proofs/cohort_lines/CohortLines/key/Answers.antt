use Rattle.std.proofs.Common.{◌+◌, ℕ, ap, ◌∙◌}
use Rattle.schema_facts.specs.Lineage.{one_if}
use Rattle.life_intervals.specs.Generator.{generator_of, table_of}
use Rattle.life_intervals.specs.Keys.{key_in_cohort}
use Rattle.row_lines.specs.CohortLines.{LinesOf}
use Rattle.row_lines.proofs.CohortLineLemmas.{AreLinesOf-view}
use Rattle.row_lines.proofs.cohort_lines.CohortLines.key.Goals as goal

pub returns-clause-key : goal.returns-clause-key
returns-clause-key g c =
    let lines : LinesOf = c.args.self.now in
    let known = AreLinesOf-view _ lines c.self.inside.columns.now c.self.inside.fields c.self.inside.delimiter c.self.view_is c.self.invariant in
    c.found_key.ensures.in_cohort
    ∙ ap (λ (of : LinesOf). key_in_cohort (generator_of of.plan) of.table c.found-row.result.born c.found-row.result.index) c.self.view_is
    ∙ ap (λ (index : ℕ). key_in_cohort (generator_of lines.plan) lines.table c.found-row.result.born index) c.found-row.ensures.index
    ∙ ap (λ (born : ℕ). key_in_cohort (generator_of lines.plan) lines.table born c.args.index) (c.found-row.ensures.born ∙ ap (λ (of : LinesOf). of.born) known.fields_are)

pub returns-clause-steps : goal.returns-clause-steps
returns-clause-steps g c = c.found_key.ensures.steps ∙ ap (λ (of : LinesOf). c.args.steps.now + one_if (table_of of.plan of.table).key.scramble) c.self.view_is
