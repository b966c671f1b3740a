use Rattle.std.proofs.Common.{◌≡◌, ◌<◌, ◌≤◌, ℕ, length, arith, ap, subst, sym, true, ◌∙◌}
use Rattle.schema_plan.specs.declared.ready.ReadyColumn.{ReadyColumn}
use Rattle.schema_plan.specs.declared.ready.ReadyKind.{ReadyKind}
use Rattle.draw_values.specs.ReadyValues.{HasDay}
use Rattle.draw_values.specs.Runs.{AreRunRows, DrawnColumnOf, IsReadyDrawn, drawn_field, is_short, is_short_alone, kept_texts, run_row, short_value}
use Rattle.detail_lines.specs.Made.{LinesOver, behind_over, place_over, prepared_column, ready_over}
use Rattle.detail_lines.proofs.LineRunLemmas.{drawn-ready, made-drawn, prepared-length, prepared-of, ready-of, run-rows}
use Rattle.detail_lines.proofs.detail_lines.DetailLines.put_drawn.Goals as goal
use Rattle.detail_lines.proofs.detail_lines.DetailLines.put_drawn.Goals.{After-index-columns-column}

pub bounds-prepared-column : goal.bounds-prepared-column
bounds-prepared-column c = omega (arith, c.requires.column, prepared-length c.args.self.now c.prepared-prepared.result.now c.prepared-prepared.ensures)

ready_is : (c : After-index-columns-column) → c.index-columns-column.result ≡ ready_over c.args.self.now c.args.column
ready_is c =
    ready-of c.args.self.now c.ready-columns.ensures.keeps c.ready-columns.ensures.limits c.args.column c.requires.column c.ready-columns.result.now c.index-columns-column.result c.ready-columns.ensures.value c.index-columns-column.is

prepared_is : (c : After-index-columns-column) → c.index-prepared-column.result ≡ prepared_column c.args.self.now c.args.column
prepared_is c = prepared-of c.args.self.now c.args.column c.requires.column c.prepared-prepared.result.now c.index-prepared-column.result c.prepared-prepared.ensures c.index-prepared-column.is

short : (c : After-index-columns-column) → is_short_alone (ready_over c.args.self.now c.args.column).kind ≡ true
short c =
    ap is_short_alone c.requires.drawn ∙ sym (ap is_short c.requires.drawn) ∙ sym (ap (λ (p : DrawnColumnOf). p.short) (prepared_is c)) ∙ sym c.is_short.ensures ∙ c.if-not-is_short.false

pub fill-requires-clause-ready : goal.fill-requires-clause-ready
fill-requires-clause-ready c =
    subst (λ (ready : ReadyColumn). IsReadyDrawn ready.kind) (sym (ready_is (goal.at.fill-requires-clause-ready c).After-index-columns-column))
    (drawn-ready c.args.self.now c.ready-columns.ensures.keeps c.ready-columns.ensures.limits c.args.column c.requires.column)

pub fill-requires-clause-short : goal.fill-requires-clause-short
fill-requires-clause-short c =
    let at = (goal.at.fill-requires-clause-short c).After-index-columns-column in
    ap (λ (ready : ReadyColumn). is_short_alone ready.kind) (ready_is at) ∙ short at

pub fill-requires-clause-kept : goal.fill-requires-clause-kept
fill-requires-clause-kept c =
    let at = (goal.at.fill-requires-clause-kept c).After-index-columns-column in
    ap (λ (p : DrawnColumnOf). p.texts) (prepared_is at)
    ∙ ap (λ (ready : ReadyColumn). kept_texts (behind_over c.args.self.now c.args.column) ready.kind) (sym (ready_is at))
    ∙ ap (λ (p : DrawnColumnOf). kept_texts p.behind c.index-columns-column.result.kind) (sym (prepared_is at))

pub fill-requires-clause-rows : goal.fill-requires-clause-rows
fill-requires-clause-rows c =
    subst (λ (n : ℕ). AreRunRows 10000 n c.drawn_rows-rows.result) (sym c.requires.pieces)
    (run-rows c.args.self.now c.args.at.now.unit c.args.count c.args.run.now c.drawn_rows-rows.result c.declared-limits.ensures.sound c.requires.at.unit c.requires.lines c.drawn_rows-rows.ensures.lengths c.drawn_rows-rows.ensures.rows)

pub fill-requires-clause-days : goal.fill-requires-clause-days
fill-requires-clause-days c = λ i inside.
    let at = (goal.at.fill-requires-clause-days c).After-index-columns-column in
    subst (λ (held : ReadyKind). HasDay held (run_row c.drawn_rows-rows.result i)) (sym (ap (λ (ready : ReadyColumn). ready.kind) (ready_is at) ∙ c.requires.drawn)) tt

pub returns : goal.returns
returns c = λ made.
    let at = (goal.at.returns c).After-index-columns-column in
    let over : LinesOver = c.args.self.now in
    let below : place_over over < length over.plan.schema.tables = omega (arith, c.requires.at.table, c.requires.at.within) in
    made-drawn over c.args.at.now.unit c.args.count c.args.run.now c.requires.lines c.ready-columns.ensures.keeps c.ready-columns.ensures.limits below c.args.column c.requires.column c.drawn_rows-rows.result c.drawn_rows-rows.ensures.rows
    c.args.leaf.now c.requires.drawn (sym (ap is_short_alone c.requires.drawn) ∙ short at) c.fill.new.pieces
    (λ k inside.
    c.fill.ensures.text k (omega (arith, inside, c.requires.pieces))
    ∙ ap (λ (p : DrawnColumnOf). drawn_field p c.index-columns-column.result c.drawn_rows-rows.result k) (prepared_is at)
    ∙ ap (λ (ready : ReadyColumn). drawn_field (prepared_column over c.args.column) ready c.drawn_rows-rows.result k) (ready_is at))
    (λ k inside.
    subst (λ (ready : ReadyColumn). length (short_value (prepared_column over c.args.column).seed ready.changes ready.kind c.drawn_rows-rows.result k) ≤ 15) (ready_is at)
    (subst (λ (p : DrawnColumnOf). length (short_value p.seed c.index-columns-column.result.changes c.index-columns-column.result.kind c.drawn_rows-rows.result k) ≤ 15) (prepared_is at)
    (c.fill.ensures.short k (omega (arith, inside, c.requires.pieces)))))
