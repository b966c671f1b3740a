use Rattle.std.proofs.Common.{◌≡◌, ◌+◌, ℕ, true, false, if◌then◌else◌, get_or, arith, ap, subst, sym, ◌∙◌}
use Rattle.philox_seeds.specs.SeedTree.{row_seed, unit_seed}
use Rattle.schema_plan.specs.declared.ready.ReadyColumn.{ReadyColumn}
use Rattle.draw_values.specs.declared.values.RowAt.{RowAt}
use Rattle.draw_values.specs.Items.{itemized_by}
use Rattle.draw_values.specs.Runs.{DrawnColumnOf, IsReadyDrawn, is_itemized, run_seed}
use Rattle.detail_lines.specs.Made.{LinesOver, prepared_column, ready_over}
use Rattle.detail_lines.proofs.LineRunLemmas.{drawn-ready, prepared-length, prepared-of, ready-of}
use Rattle.detail_lines.proofs.detail_lines.DetailLines.itemize_column.Goals as goal

pub bounds-prepared-column : goal.bounds-prepared-column
bounds-prepared-column c = omega (arith, c.requires.column, prepared-length c.args.self.now c.prepared-prepared.result.now c.prepared-prepared.ensures)

pub itemize-requires-clause-ready : goal.itemize-requires-clause-ready
itemize-requires-clause-ready c =
    let ready = ready-of c.args.self.now c.ready-columns.ensures.keeps c.ready-columns.ensures.limits c.args.column c.requires.column c.ready-columns.result.now c.index-columns-column.result c.ready-columns.ensures.value c.index-columns-column.is in
    subst (λ (one : ReadyColumn). IsReadyDrawn one.kind) (sym ready) (drawn-ready c.args.self.now c.ready-columns.ensures.keeps c.ready-columns.ensures.limits c.args.column c.requires.column)

pub itemize-requires-clause-itemized : goal.itemize-requires-clause-itemized
itemize-requires-clause-itemized c =
    let ready = ready-of c.args.self.now c.ready-columns.ensures.keeps c.ready-columns.ensures.limits c.args.column c.requires.column c.ready-columns.result.now c.index-columns-column.result c.ready-columns.ensures.value c.index-columns-column.is in
    let prepared = prepared-of c.args.self.now c.args.column c.requires.column c.prepared-prepared.result.now c.index-prepared-column.result c.prepared-prepared.ensures c.index-prepared-column.is in
    ap (λ (one : ReadyColumn). is_itemized one.kind) ready ∙ sym (ap (λ (p : DrawnColumnOf). p.itemized) prepared) ∙ sym c.is_itemized.ensures ∙ c.if-is_itemized.true

pub returns-then-is_itemized : goal.returns-then-is_itemized
returns-then-is_itemized c = λ itemized.
    let over : LinesOver = c.args.self.now in
    let ready = ready-of over c.ready-columns.ensures.keeps c.ready-columns.ensures.limits c.args.column c.requires.column c.ready-columns.result.now c.index-columns-column.result c.ready-columns.ensures.value c.index-columns-column.is in
    let prepared = prepared-of over c.args.column c.requires.column c.prepared-prepared.result.now c.index-prepared-column.result c.prepared-prepared.ensures c.index-prepared-column.is in
    let rows = c.drawn_rows.result in
    record {
      each = λ k none inside.
          let begun : 0 + k ≡ k = omega arith in
          ap (λ (place : ℕ). get_or c.itemize.new.fields place none) begun
          ∙ c.itemize.ensures k none (omega (arith, inside, c.requires.fields))
          ∙ ap (λ (p : DrawnColumnOf). itemized_by c.index-columns-column.result (run_seed p.seed c.index-columns-column.result.changes rows k)) prepared
          ∙ ap (λ (one : ReadyColumn). itemized_by one (run_seed (prepared_column over c.args.column).seed one.changes rows k)) ready
          ∙ ap (λ (row : RowAt). itemized_by (ready_over over c.args.column) (row_seed (unit_seed (prepared_column over c.args.column).seed (if (ready_over over c.args.column).changes then row.changed else row.born)) row.ordinal))
          (c.drawn_rows.ensures.rows k inside);
    }

pub returns-else-is_itemized : goal.returns-else-is_itemized
returns-else-is_itemized c = λ itemized.
    let prepared = prepared-of c.args.self.now c.args.column c.requires.column c.prepared-prepared.result.now c.index-prepared-column.result c.prepared-prepared.ensures c.index-prepared-column.is in
    absurd (no (sym itemized ∙ sym (ap (λ (p : DrawnColumnOf). p.itemized) prepared) ∙ sym c.is_itemized.ensures ∙ c.if-is_itemized.false))
  where
    no : true ≡ false → ⊥
    no p = absurd (cc)
