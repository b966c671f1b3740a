use Rattle.std.proofs.Common.{◌≡◌, ◌<◌, ◌≤◌, ℕ, ap, get_or, length, length-take, refl, take, arith, subst, sym, ◌∙◌}
use Rattle.line_pages.specs.Rows.{piece_text_at}
use Rattle.row_text.specs.Fields.{field_text}
use Rattle.schema_facts.specs.Dictionaries.{Project}
use Rattle.schema_facts.specs.Layout.{layout_of}
use Rattle.draw_values.specs.declared.runs.RunRows.{RunRows}
use Rattle.draw_values.specs.declared.values.RowAt.{RowAt}
use Rattle.draw_values.specs.Runs.{AreRunRows, IsRunColumn, RunColumnOf, run_column, run_field, run_row, with_behind}
use Rattle.draw_values.specs.Values.{size_at, value_at}
use Rattle.life_intervals.specs.Generator.{last_unit}
use Rattle.detail_lines.specs.declared.line_run.LineRun.{LineRun}
use Rattle.detail_lines.specs.Made.{LinesOver, behind_over, place_over}
use Rattle.detail_lines.proofs.LineParentLemmas.{below-shown, made-shown, parents-run, row-picked, shown-is, shown-run}
use Rattle.detail_lines.proofs.LineRunLemmas.{prepared-length, prepared-of, ready-of}
use Rattle.detail_lines.proofs.detail_lines.DetailLines.put_shown.Goals as goal
use Rattle.detail_lines.proofs.detail_lines.DetailLines.put_shown.Goals.{In-Some}

-- the column of the parent
shown_here : (c : In-Some) → c.in-Some.shown ≡ run_column c.args.self.now.plan (place_over c.args.self.now) c.args.lookup.now.column (behind_over c.args.self.now c.args.column)
shown_here c =
    shown-run c.args.self.now c.ready-columns.ensures.keeps c.ready-columns.ensures.limits c.args.column c.requires.column c.args.lookup.now c.requires.lookup
    c.shown-shown.result.now c.index-shown-column.result c.in-Some.shown c.shown-shown.ensures c.index-shown-column.is c.in-Some.is

pub bounds-shown-column : goal.bounds-shown-column
bounds-shown-column c =
    below-shown c.args.self.now c.ready-columns.ensures.keeps c.ready-columns.ensures.limits c.args.column c.requires.column c.shown-shown.result.now c.shown-shown.ensures

pub fill-requires-clause-column : goal.fill-requires-clause-column
fill-requires-clause-column c =
    let here = (goal.at.fill-requires-clause-column c).In-Some in
    subst (λ (plan : Project). IsRunColumn plan c.in-Some.shown) (sym c.plan.ensures.value)
    (shown-is c.args.self.now c.ready-columns.ensures.keeps c.ready-columns.ensures.limits c.args.column c.requires.column c.args.lookup.now c.requires.lookup c.in-Some.shown (shown_here here))

pub fill-requires-clause-rows : goal.fill-requires-clause-rows
fill-requires-clause-rows c =
    subst (λ (plan : Project). AreRunRows (last_unit plan) (length (take (length c.args.run.now.parents.ordinals.now) c.args.parents.now)) c.drawn_rows-rows.result) (sym c.plan.ensures.value)
    (subst (λ (many : ℕ). AreRunRows (last_unit c.args.self.now.plan) many c.drawn_rows-rows.result) (omega (arith, c.requires.parents, c.requires.lines.parents.few, length-take (length c.args.run.now.parents.ordinals.now) c.args.parents.now))
    (parents-run c.args.self.now c.ready-columns.ensures.keeps c.ready-columns.ensures.limits c.args.column c.requires.column c.args.lookup.now c.requires.lookup
    c.args.at.now.unit c.args.run.now.parents c.requires.lines.parents c.drawn_rows-rows.result
    c.drawn_rows-rows.ensures.lengths
    c.drawn_rows-rows.ensures.rows c.requires.at.unit))

pub bounds-prepared-column : goal.bounds-prepared-column
bounds-prepared-column c = omega (arith, c.requires.column, prepared-length c.args.self.now c.prepared-prepared.result.now c.prepared-prepared.ensures)

pub returns : goal.returns
returns c = λ _.
    let here = (goal.at.returns c).In-Some in
    let over : LinesOver = c.args.self.now in
    let keeps = c.ready-columns.ensures.keeps in
    let limits = c.ready-columns.ensures.limits in
    let shown : RunColumnOf = c.in-Some.shown in
    let run : LineRun = c.args.run.now in
    let rows = c.drawn_rows-rows.result in
    let by_line : RunRows = record { ordinals = run.rows.ordinals; births = run.rows.births; changes = run.rows.changes } in
    let same : (k : ℕ) → k < c.args.count → run_row rows (get_or run.places.now k 0) ≡ run_row by_line k = (λ k inside. row-picked over c.args.at.now.unit c.args.count run c.requires.lines rows
    c.drawn_rows-rows.ensures.rows k inside) in
    made-shown over keeps limits c.args.column c.requires.column c.args.lookup.now c.requires.lookup c.args.at.now.unit c.args.count run c.requires.lines by_line
    (record { ordinals = c.requires.lines.many.ordinals; births = c.requires.lines.many.births; changes = c.requires.lines.many.changes }) (λ k inside. refl) c.plan.ensures.sound shown (shown_here here) (sym c.if-not-is_short.ensures) c.fill_kept.new.pieces c.null_out.new.pieces
    c.drawn_rows.result c.drawn_rows.ensures.rows
    (λ k inside.
    c.fill_kept.ensures k (omega (arith, inside, c.requires.pieces))
    ∙ subst (λ (plan : Project). piece_text_at c.fill.new.pieces (get_or run.places.now k 0) ≡ run_field plan shown rows (get_or run.places.now k 0)) c.plan.ensures.value
    (c.fill.ensures.text (get_or run.places.now k 0) (omega (arith, c.requires.lines.placed k inside, c.requires.parents, c.requires.lines.parents.few, length-take (length c.args.run.now.parents.ordinals.now) c.args.parents.now)))
    ∙ ap (λ (row : RowAt). with_behind shown.behind (field_text (layout_of over.plan).delimiter (value_at (layout_of over.plan) shown.table shown.column row))) (same k inside))
    (λ k inside. subst (λ (row : RowAt). length (field_text (layout_of over.plan).delimiter (value_at (layout_of over.plan) shown.table shown.column row)) ≤ size_at (layout_of over.plan) shown.table shown.column) (same k inside)
    (subst (λ (plan : Project). length (field_text (layout_of plan).delimiter (value_at (layout_of plan) shown.table shown.column (run_row rows (get_or run.places.now k 0)))) ≤ size_at (layout_of plan) shown.table shown.column) c.plan.ensures.value
    (c.fill.ensures.size (get_or run.places.now k 0) (omega (arith, c.requires.lines.placed k inside, c.requires.parents, c.requires.lines.parents.few, length-take (length c.args.run.now.parents.ordinals.now) c.args.parents.now)))))
    c.index-prepared-column.result c.index-columns-column.result
    (prepared-of over c.args.column c.requires.column c.prepared-prepared.result.now c.index-prepared-column.result c.prepared-prepared.ensures c.index-prepared-column.is)
    (ready-of over keeps limits c.args.column c.requires.column c.ready-columns.result.now c.index-columns-column.result c.ready-columns.ensures.value c.index-columns-column.is)
    (λ k inside. c.null_out.ensures k (omega (arith, inside, c.requires.pieces)))
