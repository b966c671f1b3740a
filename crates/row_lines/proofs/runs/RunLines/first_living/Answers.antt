use Rattle.std.proofs.Common.{◌≡◌, ap, arith, ◌∙◌}
use Rattle.cohort_sizes.specs.Births.{first_ordinal}
use Rattle.cohort_sizes.proofs.CohortLemmas.{cohort-within}
use Rattle.schema_facts.specs.Dictionaries.{Project}
use Rattle.life_intervals.specs.Generator.{table_of}
use Rattle.row_lines.specs.Runs.{RunLinesOf, layout_for, run_text}
use Rattle.row_lines.proofs.RunPieceLemmas.{AreRunLines-view}
use Rattle.row_lines.proofs.RunTextLemmas.{run_text-over}
use Rattle.row_lines.proofs.runs.RunLines.first_living.Goals as goal
use Rattle.row_lines.proofs.runs.RunLines.first_living.Goals.{After-cohort}

-- the ordinal is the first of its unit's cohort
first_is : (c : After-cohort) → c.cohort.result.first ≡ first_ordinal (layout_for c.args.self.now).births c.first_unit-born.result
first_is c =
    c.cohort.ensures.first
    ∙ ap (λ (plan : Project). first_ordinal (table_of plan c.self.inside.table).births c.first_unit-born.result) c.plan.ensures
    ∙ ap (λ (of : RunLinesOf). first_ordinal (table_of of.plan of.table).births c.first_unit-born.result) c.self.view_is

pub returns : goal.returns
returns c =
    let lines : RunLinesOf = c.args.self.now in
    let known = AreRunLines-view _ lines c.self.inside.lines.now c.self.view_is c.self.invariant in
    let here = (goal.at.returns c).After-cohort in
    record {
      within = omega (arith, first_is here, cohort-within (layout_for lines).births c.first_unit-born.result lines.unit c.first_unit-born.ensures.within);
      none = ap (run_text lines 0) (first_is here) ∙ run_text-over lines known.sound known.table known.unit c.first_unit-born.result c.first_unit-born.ensures.within c.first_unit-born.ensures.over;
    }
