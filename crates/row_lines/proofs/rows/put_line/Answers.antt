use Rattle.std.proofs.Common.{◌≡◌, ◌≤◌, ◌-◌, ◌++◌, ℕ, List, length, ap, arith, subst, ◌∙◌}
use Rattle.schema_facts.specs.Dictionaries.{Project}
use Rattle.schema_facts.specs.Layout.{layout_of}
use Rattle.schema_facts.specs.TableFacts.{max_line}
use Rattle.life_intervals.specs.Generator.{generator_of, last_unit, table_of}
use Rattle.life_intervals.specs.Intervals.{is_live}
use Rattle.cohort_sizes.proofs.CohortLemmas.{born_count-le}
use Rattle.std.specs.Option.{option_map}
use Rattle.life_intervals.proofs.AcceptedLemmas.{AreSound-accepted}
use Rattle.row_lines.specs.Lines.{line}
use Rattle.row_lines.proofs.HeldRowLemmas.{held_row-live}
use Rattle.row_lines.specs.CohortLines.{LinesOf, line_in_cohort, ordinal_of}
use Rattle.row_lines.proofs.CohortLineLemmas.{line_in_cohort-line_of, ordinal_of-index}
use Rattle.row_lines.proofs.LineLemmas.{birth-within}
use Rattle.row_lines.proofs.rows.put_line.Goals as goal
use Rattle.row_lines.proofs.rows.put_line.Goals.{After-new}

-- the lines are those of the row's cohort
lines_are : (g : _) (c : After-new g) → c.new.result ≡ record { plan = c.args.plan.now; table = c.args.table; born = c.birth-born.result; unit = c.args.t }
lines_are g c = c.new.ensures ∙ ap (λ (plan : Project). record { plan = plan; table = c.args.table; born = c.birth-born.result; unit = c.args.t }) c.of-rows.ensures

pub birth-born-requires-clause-row : goal.birth-born-requires-clause-row
birth-born-requires-clause-row g c =
    omega (arith, c.requires.born, born_count-le (table_of c.args.plan.now c.args.table).births c.args.t (last_unit c.args.plan.now) c.requires.unit)

pub new-requires-clause-born : goal.new-requires-clause-born
new-requires-clause-born g c =
    omega (
      arith,
      c.birth-born.ensures.unit,
      birth-within (table_of c.args.plan.now c.args.table).births (last_unit c.args.plan.now) c.args.t c.args.j c.requires.unit c.requires.born,
    )

pub put_line-requires-clause-alive : goal.put_line-requires-clause-alive
put_line-requires-clause-alive g c =
    let here = (goal.at.put_line-requires-clause-alive g c).After-new in
    ap (λ (lines : LinesOf). is_live (generator_of lines.plan) lines.table lines.unit (ordinal_of lines (c.args.j - c.cohort.result.first))) (lines_are g here)
    ∙ ap (is_live (generator_of c.args.plan.now) c.args.table c.args.t) (ordinal_of-index _ _ _ c.cohort.ensures.first c.birth-born.ensures.lies.begun)
    ∙ c.requires.alive

pub returns-clause-line : goal.returns-clause-line
returns-clause-line g c =
    let here = (goal.at.returns-clause-line g c).After-new in
    c.put_line.ensures.line
    ∙ ap (λ (line : List ℕ). record { text = c.args.buf.now.text ++ line; room = c.args.buf.now.room })
    (line_in_cohort-line_of c.new.result _ (c.args.j - c.cohort.result.first) c.args.j (lines_are g here) (ordinal_of-index _ _ _ c.cohort.ensures.first c.birth-born.ensures.lies.begun))

pub returns-clause-size : goal.returns-clause-size
returns-clause-size g c =
    let here = (goal.at.returns-clause-size g c).After-new in
    subst (λ (line : List ℕ). length line ≤ max_line (layout_of c.args.plan.now) c.args.table)
    (line_in_cohort-line_of c.new.result _ (c.args.j - c.cohort.result.first) c.args.j (lines_are g here) (ordinal_of-index _ _ _ c.cohort.ensures.first c.birth-born.ensures.lies.begun))
    (subst (λ (lines : LinesOf). length (line_in_cohort c.new.result (c.args.j - c.cohort.result.first)) ≤ max_line (layout_of lines.plan) lines.table) (lines_are g here) c.put_line.ensures.size)

pub returns-clause-simulated : goal.returns-clause-simulated
returns-clause-simulated g c =
    ap (option_map (line (generator_of c.args.plan.now) c.args.t c.args.table))
    (held_row-live (last_unit c.args.plan.now) (generator_of c.args.plan.now) c.args.table c.args.t c.args.j
    (AreSound-accepted c.args.plan.now c.schema-sound.ensures.limits) c.requires.unit c.requires.born c.requires.alive)
