use Rattle.std.proofs.Common.{◌≡◌, ◌<◌, ◌≤◌, ◌∷◌, ◌++◌, ℕ, List, [], length, get_or, ap, arith, subst, sym, ◌∙◌}
use Rattle.line_pages.specs.Rows.{piece_text_at}
use Rattle.row_text.specs.Fields.{field_text}
use Rattle.schema_facts.specs.Dictionaries.{Project}
use Rattle.schema_facts.specs.Layout.{layout_of, no_table}
use Rattle.draw_values.specs.declared.runs.RunRows.{RunRows}
use Rattle.draw_values.specs.Runs.{RunColumnOf, run_row, run_field}
use Rattle.draw_values.specs.Values.{size_at, value_at}
use Rattle.life_intervals.proofs.AcceptedLemmas.{place-below}
use Rattle.row_lines.specs.Lookups.{text_held}
use Rattle.row_lines.specs.Runs.{RunLinesOf}
use Rattle.row_lines.proofs.RunFieldLemmas.{run-birth}
use Rattle.row_lines.proofs.RunLookupLemmas.{text_held-own}
use Rattle.row_lines.proofs.RunPieceLemmas.{AreRunLines-view}
use Rattle.row_lines.proofs.runs.RunLines.put_shown.Goals as goal
use Rattle.row_lines.proofs.runs.RunLines.put_shown.Goals.{After-fill}

plan_is : (c : After-fill) → c.plan.result.now ≡ c.args.self.now.plan
plan_is c = c.plan.ensures ∙ ap (λ (of : RunLinesOf). of.plan) c.self.view_is

abbrev rows_of : (c : After-fill) → RunRows
rows_of c = record { ordinals = c.args.ordinals; births = c.args.births; changes = c.args.births }

-- what is made of a row is what it holds
is_held : (c : After-fill) (i : ℕ) → i < length c.args.ordinals.now →
    field_text (layout_of c.args.self.now.plan).delimiter (value_at (layout_of c.args.self.now.plan) c.args.shown.now.table c.args.shown.now.column (run_row (rows_of c) i))
    ≡ text_held c.args.self.now.plan c.args.shown.now.table c.args.self.now.unit (get_or c.args.ordinals.now i 0) c.args.shown.now.column
is_held c i below =
    let lines : RunLinesOf = c.args.self.now in
    let run : RunColumnOf = c.args.shown.now in
    let known = AreRunLines-view _ lines c.self.inside.lines.now c.self.view_is c.self.invariant in
    text_held-own lines.plan run.table lines.unit (get_or c.args.ordinals.now i 0) run.column (get_or c.args.births.now i 0) known.sound c.requires.table
    (known.sound.tables run.table no_table (place-below lines.plan run.table c.requires.table)) c.requires.still
    (sym (ap (λ (of : RunColumnOf). of.short) c.requires.shown) ∙ c.requires.short)
    (run-birth lines.plan run.table lines.unit c.args.ordinals.now c.args.births.now c.requires.rows i below)

pub returns-clause-text : goal.returns-clause-text
returns-clause-text c = λ i below.
    let here = (goal.at.returns-clause-text c).After-fill in
    subst (λ (plan : Project). piece_text_at c.fill.new.pieces i ≡ run_field plan c.args.shown.now (rows_of here) i) (plan_is here) (c.fill.ensures.text i (omega (arith, below, c.requires.pieces)))
    ∙ ap (λ (text : List ℕ). text ++ c.args.shown.now.behind ∷ []) (is_held here i below)

pub returns-clause-size : goal.returns-clause-size
returns-clause-size c = λ i below.
    let here = (goal.at.returns-clause-size c).After-fill in
    subst (λ (text : List ℕ). length text ≤ size_at (layout_of c.args.self.now.plan) c.args.shown.now.table c.args.shown.now.column) (is_held here i below)
    (subst (λ (plan : Project). length (field_text (layout_of plan).delimiter (value_at (layout_of plan) c.args.shown.now.table c.args.shown.now.column (run_row (rows_of here) i))) ≤ size_at (layout_of plan) c.args.shown.now.table c.args.shown.now.column)
    (plan_is here) (c.fill.ensures.size i (omega (arith, below, c.requires.pieces))))
