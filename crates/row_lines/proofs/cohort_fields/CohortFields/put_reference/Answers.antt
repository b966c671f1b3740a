use Rattle.std.proofs.Common.{◌++◌, ℕ, List, Option, ap, sym, ◌∙◌, codes}
use Rattle.std.proofs.lemmas.List.{append-nil}
use Rattle.line_pages.specs.Pages.{Page}
use Rattle.schema_facts.specs.Layout.{layout_of}
use Rattle.life_intervals.specs.CohortParents.{reference_by}
use Rattle.row_lines.specs.CohortLines.{reference_value}
use Rattle.row_lines.proofs.CohortFieldLemmas.{field_text-null, written-null, written-text}
use Rattle.row_lines.proofs.cohort_fields.CohortFields.put_reference.Goals as goal

pub returns-in-Text-clause-text : goal.returns-in-Text-clause-text
returns-in-Text-clause-text g c =
    let value : Option (List ℕ) = reference_value c.args.self.now c.args.index (reference_by c.args.column c.args.reference.now) in
    c.put_parent.ensures.text
    ∙ ap (λ (text : List ℕ). record { text = c.args.buf.now.text ++ text; room = c.args.buf.now.room })
    (written-text (layout_of c.args.self.now.plan).delimiter value (sym c.in-Text.is ∙ c.put_parent.ensures.put))

pub returns-in-Null-clause-text : goal.returns-in-Null-clause-text
returns-in-Null-clause-text g c =
    let before : List ℕ = c.args.buf.now.text in
    let room : ℕ = c.args.buf.now.room in
    let delimiter : ℕ = (layout_of c.args.self.now.plan).delimiter in
    let value : Option (List ℕ) = reference_value c.args.self.now c.args.index (reference_by c.args.column c.args.reference.now) in
    let null = sym c.in-Null.is ∙ c.put_parent.ensures.put in
    c.put_null.ensures
    ∙ ap (λ (page : Page). record { text = page.text ++ codes "\\N"; room = page.room }) c.put_parent.ensures.text
    ∙ ap (λ (text : List ℕ). record { text = (before ++ text) ++ codes "\\N"; room = room }) (written-null delimiter value null)
    ∙ ap (λ (text : List ℕ). record { text = text ++ codes "\\N"; room = room }) (append-nil before)
    ∙ ap (λ (text : List ℕ). record { text = before ++ text; room = room }) (sym (field_text-null delimiter value null))
