use Rattle.std.proofs.Common.{◌≡◌, ◌<◌, ℕ, List, if◌then◌else◌, get_or, length, pos, arith, ap, ◌∙◌}
use Rattle.philox_seeds.specs.SeedTree.{draw}
use Rattle.line_pages.specs.Rows.{piece_text_at}
use Rattle.schema_plan.specs.declared.ready.ReadyColumn.{ReadyColumn}
use Rattle.draw_values.specs.Dates.{date_text}
use Rattle.draw_values.specs.Runs.{DrawnColumnOf, null_behind, run_seed, with_behind}
use Rattle.draw_values.specs.Values.{is_null}
use Rattle.row_lines.specs.Runs.{behind}
use Rattle.detail_lines.specs.Made.{LinesOver, behind_over, delimiter_over, place_over, prepared_column, ready_over}
use Rattle.detail_lines.proofs.LineRunLemmas.{dates-calendar, made-dates, prepared-length, prepared-of, ready-of}
use Rattle.detail_lines.proofs.detail_lines.DetailLines.put_dates.Goals as goal

pub fill_dates_of-requires-clause-days : goal.fill_dates_of-requires-clause-days
fill_dates_of-requires-clause-days c = λ i inside.
    let over : LinesOver = c.args.self.now in
    let below : place_over over < length over.plan.schema.tables = omega (arith, c.requires.at.table, c.requires.at.within) in
    let shown = dates-calendar over c.args.at.now.unit c.args.count c.args.run.now c.requires.lines c.declared-limits.ensures.keeps c.declared-limits.ensures.limits below c.args.column c.requires.column c.requires.dated.0 c.requires.dated.1
    c.put_days.new.days (c.put_days.ensures c.if-not-put_days.false) i (omega (arith, inside, c.put_days.auto.days, c.requires.days)) in
    record { from = shown.first_day; to = shown.last_day }

pub bounds-prepared-column : goal.bounds-prepared-column
bounds-prepared-column c = omega (arith, c.requires.column, prepared-length c.args.self.now c.prepared-prepared.result.now c.prepared-prepared.ensures)

pub returns : goal.returns
returns c = λ made.
    let over : LinesOver = c.args.self.now in
    let column : ℕ = c.args.column in
    let below : place_over over < length over.plan.schema.tables = omega (arith, c.requires.at.table, c.requires.at.within) in
    let ready = ready-of over c.ready-columns.ensures.keeps c.ready-columns.ensures.limits column c.requires.column c.ready-columns.result.now c.index-columns-column.result c.ready-columns.ensures.value c.index-columns-column.is in
    let prepared = prepared-of over column c.requires.column c.prepared-prepared.result.now c.index-prepared-column.result c.prepared-prepared.ensures c.index-prepared-column.is in
    let byte : c.byte_behind-behind.result ≡ behind_over over column =
    c.byte_behind-behind.ensures ∙ ap (λ (d : ℕ). behind d c.columns.result column) c.delimiter.ensures ∙ ap (λ (n : ℕ). behind (delimiter_over over) n column) c.columns.ensures.many in
    made-dates over c.args.at.now.unit c.args.count c.args.run.now c.requires.lines c.ready-columns.ensures.keeps c.ready-columns.ensures.limits below column c.requires.column c.drawn_rows.result c.drawn_rows.ensures.rows
    c.requires.dated.0 c.requires.dated.1 c.put_days.new.days (c.put_days.ensures c.if-not-put_days.false) c.null_out.new.pieces
    (λ k inside.
    let rows = c.drawn_rows.result in
    let before : List ℕ = piece_text_at c.fill_dates_of.new.pieces k in
    c.null_out.ensures k (omega (arith, inside, c.fill_dates_of.auto.pieces, c.requires.pieces))
    ∙ ap (λ (p : DrawnColumnOf). if is_null c.index-columns-column.result.null (draw (run_seed p.seed c.index-columns-column.result.changes rows k)) then null_behind p.behind else before) prepared
    ∙ ap (λ (one : ReadyColumn). if is_null one.null (draw (run_seed (prepared_column over column).seed one.changes rows k)) then null_behind (behind_over over column) else before) ready
    ∙ ap (λ (text : List ℕ). if is_null (ready_over over column).null (draw (run_seed (prepared_column over column).seed (ready_over over column).changes rows k)) then null_behind (behind_over over column) else text)
    (c.fill_dates_of.ensures k (omega (arith, inside, c.requires.pieces)) ∙ ap (λ (b : ℕ). with_behind b (date_text (get_or c.put_days.new.days k (pos 0)))) byte))
