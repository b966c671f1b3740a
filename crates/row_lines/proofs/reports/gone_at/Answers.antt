use Rattle.std.proofs.Common.{◌≡◌, ℕ, Option, Some, None, ap, arith, sym, ◌∙◌}
use Rattle.schema_facts.specs.Dictionaries.{Project}
use Rattle.life_intervals.specs.Generator.{generator_of, last_unit}
use Rattle.row_lines.specs.Reports.{gone_at}
use Rattle.row_lines.proofs.ReportLemmas.{by_last, by_last-early, by_last-late, gone_at-death}
use Rattle.row_lines.proofs.reports.gone_at.Goals as goal
use Rattle.row_lines.proofs.reports.gone_at.Goals.{After-death}

-- a row is gone at its death, where that comes by the last unit
gone_is : (g : _) (c : After-death g) (found : Option ℕ) → c.death.result ≡ found →
    by_last (last_unit c.args.plan.now) found ≡ gone_at (generator_of c.args.plan.now) (last_unit c.args.plan.now) c.args.table c.args.j
gone_is g c found is =
    let plan : Project = c.args.plan.now in
    ap (by_last (last_unit plan)) (sym is ∙ c.death.ensures.death)
    ∙ sym (gone_at-death plan c.schema-sound.ensures.limits c.args.table c.requires.table c.args.j c.requires.row)

pub returns-in-Some-clause-unit : goal.returns-in-Some-clause-unit
returns-in-Some-clause-unit g c =
    sym (by_last-early (last_unit c.args.plan.now) c.in-Some.unit (omega (arith, c.units-last.ensures, c.if-unit-last.true)))
    ∙ gone_is g (goal.at.returns-in-Some-clause-unit g c).After-death (Some c.in-Some.unit) c.in-Some.is

pub returns-in_default-clause-unit : goal.returns-in_default-clause-unit
returns-in_default-clause-unit g c =
    sym (by_last-late (last_unit c.args.plan.now) c.in-Some.unit (omega (arith, c.units-last.ensures, c.if-unit-last.false)))
    ∙ gone_is g (goal.at.returns-in_default-clause-unit g c).After-death (Some c.in-Some.unit) c.in-Some.is

pub returns-in_default-2-clause-unit : goal.returns-in_default-2-clause-unit
returns-in_default-2-clause-unit g c = gone_is g (goal.at.returns-in_default-2-clause-unit g c).After-death None c.in_default.is
