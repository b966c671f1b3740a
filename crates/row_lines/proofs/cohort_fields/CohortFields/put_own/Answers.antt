use Rattle.std.proofs.Common.{◌≡◌, ◌≤◌, ◌++◌, ℕ, List, ap, sym, subst, ◌∙◌, codes, length}
use Rattle.std.proofs.lemmas.List.{append-nil}
use Rattle.line_pages.specs.Pages.{Page}
use Rattle.row_text.specs.Fields.{field_text}
use Rattle.schema_facts.specs.Layout.{layout_of}
use Rattle.draw_values.specs.CohortValues.{ValuesOf, value_size_for, value_for}
use Rattle.draw_values.specs.Values.{written}
use Rattle.row_lines.specs.CohortLines.{LinesOf, text_in_table, values_at}
use Rattle.row_lines.proofs.CohortFieldLemmas.{field_text-null, text-own, written-null, written-text}
use Rattle.row_lines.proofs.cohort_fields.CohortFields.put_own.Goals as goal

-- what is put is the field of the line
text_is_own : (c : goal.In-Text) →
    text_in_table c.args.self.now c.args.index c.args.values.now.changed c.args.column
    ≡ written (layout_of c.args.values.now.plan).delimiter (value_for c.args.values.now c.args.column c.ordinal.result)
text_is_own c =
    let lines : LinesOf = c.args.self.now in
    let value = value_for c.args.values.now c.args.column c.ordinal.result in
    text-own lines c.args.values.now c.args.column c.args.index c.args.values.now.changed c.ordinal.result c.requires.values
    c.ordinal.ensures.ordinal c.requires.own c.ordinal.ensures.early c.requires.row
    ∙ sym (ap (λ (of : ValuesOf). written (layout_of of.plan).delimiter value) c.requires.values
    ∙ written-text (layout_of lines.plan).delimiter value (sym c.in-Text.is ∙ c.put.ensures.put))

pub returns-in-Text-clause-text : goal.returns-in-Text-clause-text
returns-in-Text-clause-text c =
    c.put.ensures.text
    ∙ ap (λ (text : List ℕ). record { text = c.args.buf.now.text ++ text; room = c.args.buf.now.room }) (sym (text_is_own c))

pub returns-in-Text-clause-size : goal.returns-in-Text-clause-size
returns-in-Text-clause-size c =
    let lines : LinesOf = c.args.self.now in
    let ordinal : ℕ = c.ordinal.result in
    let value = value_for c.args.values.now c.args.column ordinal in
    let is = text-own lines c.args.values.now c.args.column c.args.index c.args.values.now.changed ordinal c.requires.values c.ordinal.ensures.ordinal c.requires.own c.ordinal.ensures.early c.requires.row in
    let size : length (field_text (layout_of lines.plan).delimiter value) ≤ value_size_for (values_at lines c.args.values.now.changed) c.args.column =
    subst (λ (of : ValuesOf). length (field_text (layout_of of.plan).delimiter value) ≤ value_size_for of c.args.column) c.requires.values c.put.ensures.size in
    subst (λ (text : List ℕ). length text ≤ value_size_for (values_at lines c.args.values.now.changed) c.args.column) (sym is) size

-- a null field is written as such
text_is_null : (c : goal.After-put_null) → text_in_table c.args.self.now c.args.index c.args.values.now.changed c.args.column ≡ codes "\\N"
text_is_null c =
    let lines : LinesOf = c.args.self.now in
    let ordinal : ℕ = c.ordinal.result in
    text-own lines c.args.values.now c.args.column c.args.index c.args.values.now.changed ordinal c.requires.values c.ordinal.ensures.ordinal c.requires.own c.ordinal.ensures.early c.requires.row
    ∙ field_text-null (layout_of lines.plan).delimiter (value_for c.args.values.now c.args.column ordinal) (sym c.in-Null.is ∙ c.put.ensures.put)

pub returns-in-Null-clause-text : goal.returns-in-Null-clause-text
returns-in-Null-clause-text c =
    let before : List ℕ = c.args.buf.now.text in
    let room : ℕ = c.args.buf.now.room in
    let value = value_for c.args.values.now c.args.column c.ordinal.result in
    c.put_null.ensures
    ∙ ap (λ (page : Page). record { text = page.text ++ codes "\\N"; room = page.room }) c.put.ensures.text
    ∙ ap (λ (text : List ℕ). record { text = (before ++ text) ++ codes "\\N"; room = room })
    (written-null (layout_of c.args.values.now.plan).delimiter value (sym c.in-Null.is ∙ c.put.ensures.put))
    ∙ ap (λ (text : List ℕ). record { text = text ++ codes "\\N"; room = room }) (append-nil before)
    ∙ ap (λ (text : List ℕ). record { text = before ++ text; room = room }) (sym (text_is_null c))

pub returns-in-Null-clause-size : goal.returns-in-Null-clause-size
returns-in-Null-clause-size c =
    let lines : LinesOf = c.args.self.now in
    let ordinal : ℕ = c.ordinal.result in
    let value = value_for c.args.values.now c.args.column ordinal in
    let is = text-own lines c.args.values.now c.args.column c.args.index c.args.values.now.changed ordinal c.requires.values c.ordinal.ensures.ordinal c.requires.own c.ordinal.ensures.early c.requires.row in
    let size : length (field_text (layout_of lines.plan).delimiter value) ≤ value_size_for (values_at lines c.args.values.now.changed) c.args.column =
    subst (λ (of : ValuesOf). length (field_text (layout_of of.plan).delimiter value) ≤ value_size_for of c.args.column) c.requires.values c.put.ensures.size in
    subst (λ (text : List ℕ). length text ≤ value_size_for (values_at lines c.args.values.now.changed) c.args.column) (sym is) size
