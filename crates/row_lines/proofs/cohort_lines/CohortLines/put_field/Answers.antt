use Rattle.std.proofs.Common.{◌≡◌, ◌++◌, ℕ, List, false, true, length, ap, arith, sym, ◌∙◌}
use Rattle.schema_plan.specs.declared.ready.ReadyColumn.{ReadyColumn}
use Rattle.schema_facts.specs.Layout.{column_at, layout_of}
use Rattle.schema_plan.specs.Limits.{is_lookup_kind}
use Rattle.draw_values.specs.CohortValues.{ValuesOf}
use Rattle.row_lines.specs.CohortLines.{LinesOf, asked_for, layout_for, size_for, text_in_cohort, text_in_table}
use Rattle.row_lines.proofs.CohortFieldLemmas.{ready_at}
use Rattle.row_lines.proofs.CohortLineLemmas.{AreLinesOf-view}
use Rattle.row_lines.proofs.LookupLemmas.{no_lookup-ready, text-in_table}
use Rattle.row_lines.proofs.cohort_lines.CohortLines.put_field.Goals as goal

pub returns-in_default : goal.returns-in_default
returns-in_default g c =
    let lines : LinesOf = c.args.self.now in
    let known = AreLinesOf-view _ c.args.self.now c.self.inside.columns.now c.self.inside.fields c.self.inside.delimiter c.self.view_is c.self.invariant in
    let is = ready_at lines _ known.columns_are c.args.column c.index-columns-column.result c.requires.column c.index-columns-column.is in
    let no_lookup : is_lookup_kind (column_at (layout_for lines).columns c.args.column).kind ≡ false =
    no_lookup-ready (layout_of lines.plan).delimiter (column_at (layout_for lines).columns c.args.column).kind
    (λ lookup held. c.in_default.not-Lookup lookup (ap (λ (column : ReadyColumn). column.kind) (sym (is ∙ c.index-columns-column.is)) ∙ held)) in
    let text_is : text_in_table c.self.inside.fields c.args.index c.args.values.now.changed c.args.column ≡ text_in_cohort lines c.args.index c.args.column =
    ap (λ (of : LinesOf). text_in_table of c.args.index c.args.values.now.changed c.args.column) known.fields_are
    ∙ ap (λ (of : ValuesOf). text_in_table lines c.args.index of.changed c.args.column) c.requires.values
    ∙ text-in_table lines c.args.index c.args.column known.table no_lookup in
    record {
      text = c.put.ensures.text ∙ ap (λ (text : List ℕ). record { text = c.args.buf.now.text ++ text; room = c.args.buf.now.room }) text_is;
      size = omega (arith, c.put.ensures.size, ap (λ (text : List ℕ). length text) text_is, ap (λ (of : LinesOf). size_for of c.args.column) known.fields_are);
      steps = omega (arith, c.put.ensures.steps, ap (λ (of : LinesOf). asked_for true of c.args.column) known.fields_are);
    }
