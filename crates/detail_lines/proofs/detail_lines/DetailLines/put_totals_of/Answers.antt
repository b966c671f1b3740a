use Rattle.std.proofs.Common.{ℕ, List, ap, arith, get_or, if◌then◌else◌, pos, ◌∙◌}
use Rattle.philox_seeds.specs.SeedTree.{column_seed, draw}
use Rattle.line_pages.specs.Rows.{piece_text_at}
use Rattle.schema_plan.specs.declared.ready.ReadyColumn.{ReadyColumn}
use Rattle.draw_values.specs.Runs.{DrawnColumnOf, null_behind, run_seed, with_behind}
use Rattle.draw_values.specs.Values.{is_null, number_text}
use Rattle.row_lines.specs.Runs.{behind}
use Rattle.detail_lines.specs.LineRuns.{digits_over}
use Rattle.detail_lines.specs.Made.{LinesOver, behind_over, delimiter_over, detail_seed, ready_over}
use Rattle.detail_lines.proofs.DeclaredLemmas.{parent-below}
use Rattle.detail_lines.proofs.LineRunLemmas.{prepared-length, prepared-of, ready-of}
use Rattle.detail_lines.proofs.LineTotalLemmas.{made-totals}
use Rattle.detail_lines.proofs.detail_lines.DetailLines.put_totals_of.Goals as goal

pub bounds-prepared-column : goal.bounds-prepared-column
bounds-prepared-column c =
    omega (arith, c.requires.column, prepared-length c.args.self.now c.prepared-prepared.result.now c.prepared-prepared.ensures)

pub returns : goal.returns
returns c =
    let over : LinesOver = c.args.self.now in
    let limits = c.ready-columns.ensures in
    let column : ℕ = c.args.column in
    let seed : ℕ = column_seed (detail_seed over.kept) column in
    let ready = ready-of over limits.keeps limits.limits column c.requires.column c.ready-columns.result.now c.index-columns-column.result limits.value c.index-columns-column.is in
    let prepared = prepared-of over column c.requires.column c.prepared-prepared.result.now c.index-prepared-column.result c.prepared-prepared.ensures c.index-prepared-column.is in
    let byte =
    c.byte_behind-behind.ensures ∙ ap (λ (delimiter : ℕ). behind delimiter c.columns.result column) c.delimiter.ensures
    ∙ ap (λ (many : ℕ). behind (delimiter_over over) many column) c.columns.ensures.many in
    made-totals over c.args.at.now.unit c.args.count c.args.run.now c.requires.lines limits.keeps limits.limits (parent-below over.plan over.kept limits.keeps) column c.requires.column c.requires.total.0 c.requires.total.1 c.requires.total.2
    c.drawn_rows.result c.drawn_rows.ensures.rows c.args.totals.now c.requires.totals c.requires.small c.null_out.new.pieces
    (λ k inside.
    c.null_out.ensures k (omega (arith, inside, c.fill_numbers.auto.pieces, c.requires.pieces))
    ∙ ap (λ (of : DrawnColumnOf). if is_null c.index-columns-column.result.null (draw (run_seed of.seed c.index-columns-column.result.changes c.drawn_rows.result k)) then null_behind of.behind else piece_text_at c.fill_numbers.new.pieces k) prepared
    ∙ ap (λ (own : ReadyColumn). if is_null own.null (draw (run_seed seed own.changes c.drawn_rows.result k)) then null_behind (behind_over over column) else piece_text_at c.fill_numbers.new.pieces k) ready
    ∙ ap (λ (text : List ℕ). if is_null (ready_over over column).null (draw (run_seed seed (ready_over over column).changes c.drawn_rows.result k)) then null_behind (behind_over over column) else text)
    (c.fill_numbers.ensures k (omega (arith, inside, c.requires.pieces))
    ∙ ap (λ (digits : ℕ). with_behind c.byte_behind-behind.result (number_text (record { value = get_or c.args.totals.now k (pos 0); decimals = digits }))) c.decimals-decimals.ensures.digits
    ∙ ap (λ (b : ℕ). with_behind b (number_text (record { value = get_or c.args.totals.now k (pos 0); decimals = digits_over over column }))) byte))
