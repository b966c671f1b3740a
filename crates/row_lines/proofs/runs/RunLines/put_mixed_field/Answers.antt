use Rattle.std.proofs.Common.{◌≡◌, ◌≤◌, ◌++◌, ◌∷◌, [], ℕ, Bool, true, false, List, if◌then◌else◌, length, length-append, get_or, ap, arith, subst, sym, ◌∙◌}
use Rattle.row_text.specs.Fields.{field_text}
use Rattle.schema_facts.specs.Dictionaries.{Project}
use Rattle.schema_facts.specs.Layout.{layout_of}
use Rattle.draw_values.specs.Items.{field_behind, itemized_field}
use Rattle.draw_values.specs.Runs.{IsRunColumn, RunColumnOf, run_row}
use Rattle.draw_values.specs.Values.{size_at, value_at}
use Rattle.row_lines.specs.RunFields.{AreRunLines, asked_for, asked_long}
use Rattle.row_lines.specs.Runs.{RunLinesOf, behind, layout_for, text_at}
use Rattle.row_lines.specs.TableLines.{TableLinesOf, column_of, is_short_at, table_lines}
use Rattle.row_lines.proofs.ItemizedLemmas.{itemized-behind, itemized-size, itemized-text}
use Rattle.row_lines.proofs.RunPieceLemmas.{AreRunLines-view, column_of-is, columns-at, length-columns, length-short, short-at}
use Rattle.row_lines.proofs.runs.RunLines.put_mixed_field.Goals as goal
use Rattle.row_lines.proofs.runs.RunLines.put_mixed_field.Goals.{After-columns-columns, After-index-columns-column, After-plan}

-- ---- the columns

known : (g : _) (c : After-columns-columns g) → AreRunLines c.args.self.now c.self.inside.lines.now
known g c = AreRunLines-view _ c.args.self.now c.self.inside.lines.now c.self.view_is c.self.invariant

shorts_are : (g : _) (c : After-columns-columns g) → c.short-short.result.now ≡ (table_lines c.args.self.now.plan c.args.self.now.table).short
shorts_are g c = c.short-short.ensures ∙ ap (λ (kept : TableLinesOf). kept.short) (known g c).kept_are

kept_are : (g : _) (c : After-columns-columns g) → c.columns-columns.result.now ≡ (table_lines c.args.self.now.plan c.args.self.now.table).columns
kept_are g c = c.columns-columns.ensures ∙ ap (λ (kept : TableLinesOf). kept.columns) (known g c).kept_are

-- whether the fields of the one at the place are made as pieces
short_is : (g : _) (c : After-columns-columns g) → get_or c.short-short.result.now c.args.column false ≡ is_short_at c.args.self.now.plan c.args.self.now.table c.args.column
short_is g c = short-at c.args.self.now.plan c.args.self.now.table c.args.column c.short-short.result.now (shorts_are g c) c.requires.column

column_is : (g : _) (c : After-index-columns-column g) → c.index-columns-column.result ≡ column_of c.args.self.now.plan c.args.self.now.table c.args.column
column_is g c =
    let known = AreRunLines-view _ c.args.self.now c.self.inside.lines.now c.self.view_is c.self.invariant in
    columns-at c.args.self.now.plan c.args.self.now.table c.args.column c.columns-columns.result.now c.index-columns-column.result
    (c.columns-columns.ensures ∙ ap (λ (kept : TableLinesOf). kept.columns) known.kept_are) c.requires.column c.index-columns-column.is

pub bounds-columns-column : goal.bounds-columns-column
bounds-columns-column g c =
    let here = (goal.at.bounds-columns-column g c).After-columns-columns in
    omega (arith, c.requires.column, length-columns c.args.self.now.plan c.args.self.now.table c.columns-columns.result.now (kept_are g here))

pub bounds-short-column : goal.bounds-short-column
bounds-short-column g c =
    let here = (goal.at.bounds-short-column g c).After-columns-columns in
    omega (arith, c.requires.column, length-short c.args.self.now.plan c.args.self.now.table c.short-short.result.now (shorts_are g here))

-- ---- a piece

pub put_piece-requires : goal.put_piece-requires
put_piece-requires g c =
    let lines : RunLinesOf = c.args.self.now in
    let here = (goal.at.put_piece-requires g c).After-columns-columns in
    let short : is_short_at lines.plan lines.table c.args.column ≡ true = sym (short_is g here) ∙ c.if-short-column.true in
    let text : List ℕ = text_at lines (get_or c.args.rows.ordinals.now c.args.row 0) c.args.column in
    omega (
      arith,
      c.requires.room,
      c.requires.size short,
      ap (λ (t : List ℕ). length t) (c.requires.text short),
      length-append text (behind (layout_of lines.plan).delimiter (length (layout_for lines).columns) c.args.column ∷ []),
    )

pub returns-then-short-column-clause-text : goal.returns-then-short-column-clause-text
returns-then-short-column-clause-text g c =
    let here = (goal.at.returns-then-short-column-clause-text g c).After-columns-columns in
    c.put_piece.ensures
    ∙ ap (λ (text : List ℕ). record { text = c.args.page.now.text ++ text; room = c.args.page.now.room }) (c.requires.text (sym (short_is g here) ∙ c.if-short-column.true))

pub returns-then-short-column-clause-size : goal.returns-then-short-column-clause-size
returns-then-short-column-clause-size g c =
    let here = (goal.at.returns-then-short-column-clause-size g c).After-columns-columns in
    c.requires.size (sym (short_is g here) ∙ c.if-short-column.true)

-- ---- several items

plan_is : (g : _) (c : After-plan g) → c.plan.result.now ≡ c.args.self.now.plan
plan_is g c = c.plan.ensures ∙ ap (λ (of : RunLinesOf). of.plan) c.self.view_is

itemized : (g : _) (c : After-plan g) → c.index-columns-column.result.itemized ≡ true
itemized g c = sym c.is_itemized.ensures ∙ c.if-is_itemized.true

pub put_itemized-requires-clause-column : goal.put_itemized-requires-clause-column
put_itemized-requires-clause-column g c =
    let lines : RunLinesOf = c.args.self.now in
    let at = goal.at.put_itemized-requires-clause-column g c in
    subst (λ (plan : Project). IsRunColumn plan c.index-columns-column.result) (sym (plan_is g at.After-plan))
    (column_of-is lines.plan lines.table c.args.column c.index-columns-column.result (known g at.After-columns-columns).table c.requires.column (column_is g at.After-index-columns-column))

pub put_itemized-requires-clause-field : goal.put_itemized-requires-clause-field
put_itemized-requires-clause-field g c =
    let at = goal.at.put_itemized-requires-clause-field g c in
    let is = column_is g at.After-index-columns-column in (
      run_row c.args.rows c.args.row,
      c.requires.itemized (sym (ap (λ (run : RunColumnOf). run.itemized) is) ∙ itemized g at.After-plan)
          ∙ sym (ap (λ (run : RunColumnOf). itemized_field c.args.self.now.plan run (run_row c.args.rows c.args.row)) is)
          ∙ sym (ap (λ (plan : Project). itemized_field plan c.index-columns-column.result (run_row c.args.rows c.args.row)) (plan_is g at.After-plan)),
    )

pub put_itemized-requires-clause-room : goal.put_itemized-requires-clause-room
put_itemized-requires-clause-room g c =
    let at = goal.at.put_itemized-requires-clause-room g c in
    let run : RunColumnOf = c.index-columns-column.result in
    omega (
      arith,
      c.requires.room,
      ap (λ (plan : Project). size_at (layout_of plan) run.table run.column) (plan_is g at.After-plan),
      itemized-size c.args.self.now c.args.column run (column_is g at.After-index-columns-column),
    )

pub returns-then-is_itemized-clause-text : goal.returns-then-is_itemized-clause-text
returns-then-is_itemized-clause-text g c =
    let lines : RunLinesOf = c.args.self.now in
    let at = goal.at.returns-then-is_itemized-clause-text g c in
    let run : RunColumnOf = c.index-columns-column.result in
    let is = column_is g at.After-index-columns-column in
    let field = c.requires.itemized (sym (ap (λ (r : RunColumnOf). r.itemized) is) ∙ itemized g at.After-plan)
    ∙ sym (ap (λ (r : RunColumnOf). itemized_field lines.plan r (run_row c.args.rows c.args.row)) is)
    ∙ sym (ap (λ (plan : Project). itemized_field plan run (run_row c.args.rows c.args.row)) (plan_is g at.After-plan)) in
    c.put_itemized.ensures.text (run_row c.args.rows c.args.row) field
    ∙ ap (λ (text : List ℕ). record { text = c.args.page.now.text ++ text; room = c.args.page.now.room })
    (ap (λ (plan : Project). field_behind plan run (run_row c.args.rows c.args.row)) (plan_is g at.After-plan)
    ∙ itemized-behind lines c.args.rows c.args.column c.args.row run (known g at.After-columns-columns).table c.requires.rows is (itemized g at.After-plan) c.requires.row)

pub returns-then-is_itemized-clause-size : goal.returns-then-is_itemized-clause-size
returns-then-is_itemized-clause-size g c =
    let lines : RunLinesOf = c.args.self.now in
    let at = goal.at.returns-then-is_itemized-clause-size g c in
    let run : RunColumnOf = c.index-columns-column.result in
    let is = column_is g at.After-index-columns-column in
    let row = run_row c.args.rows c.args.row in
    let field = c.requires.itemized (sym (ap (λ (r : RunColumnOf). r.itemized) is) ∙ itemized g at.After-plan)
    ∙ sym (ap (λ (r : RunColumnOf). itemized_field lines.plan r row) is)
    ∙ sym (ap (λ (plan : Project). itemized_field plan run row) (plan_is g at.After-plan)) in
    let size : length (field_text (layout_of lines.plan).delimiter (value_at (layout_of lines.plan) run.table run.column row)) ≤ size_at (layout_of lines.plan) run.table run.column =
    subst (λ (plan : Project). length (field_text (layout_of plan).delimiter (value_at (layout_of plan) run.table run.column row)) ≤ size_at (layout_of plan) run.table run.column)
    (plan_is g at.After-plan) (c.put_itemized.ensures.size row field) in
    omega (
      arith,
      size,
      ap (λ (text : List ℕ). length text) (itemized-text lines c.args.rows c.args.column c.args.row run (known g at.After-columns-columns).table c.requires.rows is (itemized g at.After-plan) c.requires.row),
      itemized-size lines c.args.column run is,
    )

-- ---- any other

pub returns-else-is_itemized-clause-steps : goal.returns-else-is_itemized-clause-steps
returns-else-is_itemized-clause-steps g c =
    let lines : RunLinesOf = c.args.self.now in
    let here = (goal.at.returns-else-is_itemized-clause-steps g c).After-columns-columns in
    let asked : asked_long lines c.args.column ≡ asked_for lines c.args.column =
    ap (λ (test : Bool). if test then 0 else asked_for lines c.args.column) (sym (short_is g here) ∙ c.if-short-column.false) in
    omega (arith, asked, c.put_other_field.ensures.steps)
