use Rattle.std.proofs.Common.{◌≡◌, ◌++◌, ℕ, List, [], ◌∷◌, get_or, if◌then◌else◌, length, length-append, arith, ap, ◌∙◌}
use Rattle.philox_seeds.specs.SeedTree.{column_seed, draw, row_seed, unit_seed}
use Rattle.line_pages.specs.Pages.{Page}
use Rattle.line_pages.specs.Pieces.{piece_text}
use Rattle.schema_plan.specs.declared.ready.ReadyColumn.{ReadyColumn}
use Rattle.draw_values.specs.ReadyValues.{row_draws}
use Rattle.draw_values.specs.Runs.{DrawnColumnOf, with_behind}
use Rattle.row_lines.specs.Runs.{behind}
use Rattle.detail_lines.specs.declared.parent_row.ParentRow.{ParentRow}
use Rattle.detail_lines.specs.LineRuns.{line_of, text_or_null, text_over}
use Rattle.detail_lines.specs.Made.{LinesOver, behind_over, delimiter_over, detail_seed, ready_over}
use Rattle.detail_lines.proofs.LineMixedLemmas.{leaf-fits, null-fits, text-long}
use Rattle.detail_lines.proofs.LineRunLemmas.{prepared-length, prepared-of, ready-of}
use Rattle.detail_lines.proofs.LineValueLemmas.{drawn_ready}
use Rattle.detail_lines.proofs.TextLemmas.{put-twice}
use Rattle.detail_lines.proofs.detail_lines.DetailLines.put_long.Goals as goal
use Rattle.detail_lines.proofs.detail_lines.DetailLines.put_long.Goals.{After-put_leaf_or_null}

pub bounds-prepared-column : goal.bounds-prepared-column
bounds-prepared-column c = omega (arith, c.requires.column, prepared-length c.args.self.now c.prepared-prepared.result.now c.prepared-prepared.ensures)

pub put_leaf_or_null-requires-clause-ready : goal.put_leaf_or_null-requires-clause-ready
put_leaf_or_null-requires-clause-ready c =
    drawn_ready (line_of c.args.self.now c.args.at.now.unit c.args.run.now c.args.k) c.ready-columns.ensures.keeps c.ready-columns.ensures.limits c.args.column c.requires.column c.args.leaf.now c.requires.drawn

pub put_leaf_or_null-requires-clause-room : goal.put_leaf_or_null-requires-clause-room
put_leaf_or_null-requires-clause-room c =
    let over : LinesOver = c.args.self.now in
    omega (
      arith,
      c.requires.room,
      leaf-fits over c.args.at.now.unit c.args.count c.args.run.now c.requires.lines c.ready-columns.ensures.keeps c.ready-columns.ensures.limits (omega (arith, c.requires.at.table, c.requires.at.within)) c.args.column c.requires.column c.args.k c.requires.line c.args.leaf.now c.requires.drawn,
      null-fits over c.args.at.now.unit c.args.count c.args.run.now c.requires.lines c.ready-columns.ensures.keeps c.ready-columns.ensures.limits (omega (arith, c.requires.at.table, c.requires.at.within)) c.args.column c.requires.column c.args.k c.requires.line c.args.leaf.now c.requires.drawn,
    )

-- what is put is the field
text_is : (c : After-put_leaf_or_null) → text_or_null c.index-columns-column.result.null c.args.leaf.now (row_draws c.at-seed.result (get_or c.args.run.now.drawn.now c.args.k 0)) ≡ text_over (line_of c.args.self.now c.args.at.now.unit c.args.run.now c.args.k) c.args.column
text_is c =
    let over : LinesOver = c.args.self.now in
    let k : ℕ = c.args.k in
    let leaf = c.args.leaf.now in
    let drawn : ℕ = get_or c.args.run.now.drawn.now k 0 in
    ap (λ (n : ℕ). text_or_null c.index-columns-column.result.null leaf (draw (row_seed n drawn))) c.at-seed.ensures
    ∙ ap (λ (one : ReadyColumn). text_or_null one.null leaf (draw (row_seed (unit_seed c.seeds.result.now c.draw_unit.result) drawn))) (ready-of c.args.self.now c.ready-columns.ensures.keeps c.ready-columns.ensures.limits c.args.column c.requires.column c.ready-columns.result.now c.index-columns-column.result c.ready-columns.ensures.value c.index-columns-column.is)
    ∙ ap (λ (n : ℕ). text_or_null (ready_over over c.args.column).null leaf (draw (row_seed (unit_seed n c.draw_unit.result) drawn))) (c.seeds.ensures ∙ ap (λ (p : DrawnColumnOf). p.seed) (prepared-of c.args.self.now c.args.column c.requires.column c.prepared-prepared.result.now c.index-prepared-column.result c.prepared-prepared.ensures c.index-prepared-column.is))
    ∙ ap (λ (n : ℕ). text_or_null (ready_over over c.args.column).null leaf (draw (row_seed (unit_seed (column_seed (detail_seed over.kept) c.args.column) n) drawn)))
    (c.draw_unit.ensures ∙ ap (λ (one : ReadyColumn). if one.changes then c.row-row.result.changed else c.row-row.result.born) (ready-of c.args.self.now c.ready-columns.ensures.keeps c.ready-columns.ensures.limits c.args.column c.requires.column c.ready-columns.result.now c.index-columns-column.result c.ready-columns.ensures.value c.index-columns-column.is)
    ∙ ap (λ (row : ParentRow). if (ready_over over c.args.column).changes then row.changed else row.born) c.row-row.ensures)
    ∙ text-long over c.args.at.now.unit c.args.count c.args.run.now c.requires.lines c.ready-columns.ensures.keeps c.ready-columns.ensures.limits (omega (arith, c.requires.at.table, c.requires.at.within)) c.args.column c.requires.column k c.requires.line leaf c.requires.drawn

pub put_piece-requires : goal.put_piece-requires
put_piece-requires c =
    let over : LinesOver = c.args.self.now in
    let text : List ℕ = text_or_null c.index-columns-column.result.null c.args.leaf.now (row_draws c.at-seed.result (get_or c.args.run.now.drawn.now c.args.k 0)) in
    omega (
      arith,
      c.requires.room,
      ap (λ (page : Page). length page.text) c.put_leaf_or_null.ensures.text,
      ap (λ (page : Page). page.room) c.put_leaf_or_null.ensures.text,
      length-append c.args.page.now.text text,
      c.put_leaf_or_null.ensures.size,
      ap (λ (t : List ℕ). length t) c.of_byte.ensures,
      leaf-fits over c.args.at.now.unit c.args.count c.args.run.now c.requires.lines c.ready-columns.ensures.keeps c.ready-columns.ensures.limits (omega (arith, c.requires.at.table, c.requires.at.within)) c.args.column c.requires.column c.args.k c.requires.line c.args.leaf.now c.requires.drawn,
      null-fits over c.args.at.now.unit c.args.count c.args.run.now c.requires.lines c.ready-columns.ensures.keeps c.ready-columns.ensures.limits (omega (arith, c.requires.at.table, c.requires.at.within)) c.args.column c.requires.column c.args.k c.requires.line c.args.leaf.now c.requires.drawn,
    )

pub returns-clause-text : goal.returns-clause-text
returns-clause-text c =
    let over : LinesOver = c.args.self.now in
    let here = (goal.at.returns-clause-text c).After-put_leaf_or_null in
    let byte : c.byte_behind-behind.result ≡ behind_over over c.args.column =
    c.byte_behind-behind.ensures ∙ ap (λ (d : ℕ). behind d c.columns.result c.args.column) c.delimiter.ensures ∙ ap (λ (n : ℕ). behind (delimiter_over over) n c.args.column) c.columns.ensures.many in
    put-twice c.args.page.now c.put_leaf_or_null.new.page c.put_piece.new.self _ (piece_text c.of_byte.result) _ c.put_leaf_or_null.ensures.text c.put_piece.ensures
    (ap (λ (end : List ℕ). text_or_null c.index-columns-column.result.null c.args.leaf.now (row_draws c.at-seed.result (get_or c.args.run.now.drawn.now c.args.k 0)) ++ end) (c.of_byte.ensures ∙ ap (λ (b : ℕ). b ∷ []) byte)
    ∙ ap (with_behind (behind_over over c.args.column)) (text_is here))

pub returns-clause-size : goal.returns-clause-size
returns-clause-size c =
    let over : LinesOver = c.args.self.now in
    let here = (goal.at.returns-clause-size c).After-put_leaf_or_null in
    omega (
      arith,
      c.put_leaf_or_null.ensures.size,
      ap (λ (t : List ℕ). length t) (text_is here),
      leaf-fits over c.args.at.now.unit c.args.count c.args.run.now c.requires.lines c.ready-columns.ensures.keeps c.ready-columns.ensures.limits (omega (arith, c.requires.at.table, c.requires.at.within)) c.args.column c.requires.column c.args.k c.requires.line c.args.leaf.now c.requires.drawn,
      null-fits over c.args.at.now.unit c.args.count c.args.run.now c.requires.lines c.ready-columns.ensures.keeps c.ready-columns.ensures.limits (omega (arith, c.requires.at.table, c.requires.at.within)) c.args.column c.requires.column c.args.k c.requires.line c.args.leaf.now c.requires.drawn,
    )
