use Rattle.std.proofs.Common.{◌≡◌, ◌≤◌, ◌+◌, ◌-◌, ◌++◌, ℕ, List, length, ap, arith, codes, decimal, sym, subst, ◌∙◌, append_assoc, length-append}
use Rattle.line_pages.specs.Pages.{Page}
use Rattle.schema_facts.specs.Dictionaries.{Project}
use Rattle.schema_facts.specs.Layout.{layout_of}
use Rattle.schema_facts.specs.TableFacts.{max_line}
use Rattle.life_intervals.specs.Generator.{generator_of, last_unit, table_of}
use Rattle.life_intervals.specs.Intervals.{change_unit, is_live}
use Rattle.life_intervals.proofs.AcceptedLemmas.{place-below}
use Rattle.cohort_sizes.proofs.CohortLemmas.{born_count-le}
use Rattle.life_intervals.proofs.KeyLemmas.{key_of-found}
use Rattle.row_lines.specs.CohortLines.{LinesOf, asked_for_line, change_for, is_live_for, key_for, line_in_cohort}
use Rattle.row_lines.specs.Lines.{line_of}
use Rattle.row_lines.proofs.CohortLineLemmas.{line_in_cohort-line_of, ordinal_of-index, steps-line_cost}
use Rattle.row_lines.proofs.LineLemmas.{birth-within}
use Rattle.row_lines.proofs.ReportLemmas.{held_text-line}
use Rattle.row_lines.proofs.reports.put_held.Goals as goal
use Rattle.row_lines.proofs.reports.put_held.Goals.{After-new-lines}

-- the lines are those of the row's cohort
lines_are : (g : _) (c : After-new-lines g) → c.new-lines.result ≡ record { plan = c.args.plan.now; table = c.args.table; born = c.birth-born.result; unit = c.args.t }
lines_are g c = c.new-lines.ensures ∙ ap (λ (plan : Project). record { plan = plan; table = c.args.table; born = c.birth-born.result; unit = c.args.t }) c.of-rows.ensures

pub birth-born-requires-clause-row : goal.birth-born-requires-clause-row
birth-born-requires-clause-row g c =
    omega (arith, c.requires.born, born_count-le (table_of c.args.plan.now c.args.table).births c.args.t (last_unit c.args.plan.now) c.requires.unit)

pub new-lines-requires-clause-born : goal.new-lines-requires-clause-born
new-lines-requires-clause-born g c =
    omega (
      arith,
      c.birth-born.ensures.unit,
      birth-within (table_of c.args.plan.now c.args.table).births (last_unit c.args.plan.now) c.args.t c.args.j c.requires.unit c.requires.born,
    )

pub put_changed_line-requires-clause-alive : goal.put_changed_line-requires-clause-alive
put_changed_line-requires-clause-alive g c =
    let here = (goal.at.put_changed_line-requires-clause-alive g c).After-new-lines in
    ap (λ (lines : LinesOf). is_live_for lines (c.args.j - c.cohort.result.first)) (lines_are g here)
    ∙ ap (is_live (generator_of c.args.plan.now) c.args.table c.args.t) (ordinal_of-index _ _ _ c.cohort.ensures.first c.birth-born.ensures.lies.begun)
    ∙ c.requires.alive

pub put_changed_line-requires-clause-key : goal.put_changed_line-requires-clause-key
put_changed_line-requires-clause-key g c =
    let here = (goal.at.put_changed_line-requires-clause-key g c).After-new-lines in
    let plan : Project = c.args.plan.now in
    sym c.requires.key
    ∙ sym (key_of-found (generator_of plan) c.args.table (last_unit plan) c.args.j c.birth-born.result c.cohort.result.first c.birth-born.ensures.unit c.cohort.ensures.first)
    ∙ sym (ap (λ (lines : LinesOf). key_for lines (c.args.j - c.cohort.result.first)) (lines_are g here))

pub put_changed_line-requires-clause-changed : goal.put_changed_line-requires-clause-changed
put_changed_line-requires-clause-changed g c =
    let here = (goal.at.put_changed_line-requires-clause-changed g c).After-new-lines in
    c.last_change-changed.ensures.unit
    ∙ sym (ap (change_unit (generator_of c.args.plan.now) c.args.table c.args.t) (ordinal_of-index _ _ _ c.cohort.ensures.first c.birth-born.ensures.lies.begun))
    ∙ sym (ap (λ (lines : LinesOf). change_for lines (c.args.j - c.cohort.result.first)) (lines_are g here))

-- the line that is put is the row's
line_is : (g : _) (c : After-new-lines g) → line_in_cohort c.new-lines.result (c.args.j - c.cohort.result.first) ≡ line_of (generator_of c.args.plan.now) c.args.t c.args.table c.args.j
line_is g c =
    line_in_cohort-line_of c.new-lines.result _ (c.args.j - c.cohort.result.first) c.args.j (lines_are g c)
    (ordinal_of-index _ _ _ c.cohort.ensures.first c.birth-born.ensures.lies.begun)

pub returns-clause-text : goal.returns-clause-text
returns-clause-text g c =
    let here = (goal.at.returns-clause-text g c).After-new-lines in
    let changed : List ℕ = codes "changed " ++ decimal c.last_change-changed.result ++ codes "\n" in
    let line : List ℕ = line_of (generator_of c.args.plan.now) c.args.t c.args.table c.args.j in
    c.put_changed_line.ensures.line
    ∙ ap (λ (text : List ℕ). record { text = c.put_number_line.new.buf.text ++ text; room = c.put_number_line.new.buf.room }) (line_is g here)
    ∙ ap (λ (page : Page). record { text = page.text ++ line; room = page.room }) c.put_number_line.ensures.text
    ∙ ap (λ (text : List ℕ). record { text = text; room = c.args.buf.now.room })
    (append_assoc c.args.buf.now.text changed line
    ∙ ap (λ (text : List ℕ). c.args.buf.now.text ++ text)
    (held_text-line (generator_of c.args.plan.now) c.args.t c.args.table c.args.j c.last_change-changed.result (place-below c.args.plan.now c.args.table c.requires.table) c.last_change-changed.ensures.unit))

pub returns-clause-size : goal.returns-clause-size
returns-clause-size g c =
    let here = (goal.at.returns-clause-size g c).After-new-lines in
    let plan : Project = c.args.plan.now in
    let changed : List ℕ = codes "changed " ++ decimal c.last_change-changed.result ++ codes "\n" in
    let line : List ℕ = line_of (generator_of plan) c.args.t c.args.table c.args.j in
    subst (λ (text : List ℕ). length text ≤ 29 + max_line (layout_of plan) c.args.table)
    (held_text-line (generator_of plan) c.args.t c.args.table c.args.j c.last_change-changed.result (place-below plan c.args.table c.requires.table) c.last_change-changed.ensures.unit)
    (omega (
      arith,
      length-append changed line,
      c.put_number_line.ensures.size,
      c.put_changed_line.ensures.size,
      ap (λ (text : List ℕ). length text) (line_is g here),
      ap (λ (lines : LinesOf). max_line (layout_of lines.plan) lines.table) (lines_are g here),
    ))

pub returns-clause-steps : goal.returns-clause-steps
returns-clause-steps g c =
    let here = (goal.at.returns-clause-steps g c).After-new-lines in
    omega (
      arith,
      c.last_change-changed.ensures.most,
      c.put_changed_line.ensures.steps,
      ap asked_for_line (lines_are g here),
      steps-line_cost (record { plan = c.args.plan.now; table = c.args.table; born = c.birth-born.result; unit = c.args.t }) c.schema-sound.ensures.limits c.requires.table c.table-limits.ensures.limits,
    )
