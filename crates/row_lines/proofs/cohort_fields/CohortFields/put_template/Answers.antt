use Rattle.std.proofs.Common.{◌≡◌, ◌++◌, ℕ, List, Bool, if◌then◌else◌, true, false, ap, sym, ◌∙◌, arith, codes, flat_map, is_some, length}
use Rattle.row_lines.specs.CohortLines.{text_in_table}
use Rattle.row_lines.specs.Parts.{written_part}
use Rattle.row_lines.proofs.PartLemmas.{asked-template, parts_citable, size-template, template_of, text-template}
use Rattle.row_lines.proofs.cohort_fields.CohortFields.put_template.Goals as goal
use Rattle.row_lines.proofs.cohort_fields.CohortFields.put_template.Goals.{After-is_null}

pub put_parts-requires-clause-parts : goal.put_parts-requires-clause-parts
put_parts-requires-clause-parts g c =
    parts_citable c.args.self.now c.args.column c.args.parts.now (template_of c.args.self.now c.args.column c.args.parts.now c.requires.template) c.requires.column
    (c.ordinal.ensures.limits.kinds c.args.column c.requires.column) (c.ordinal.ensures.limits.filled c.args.column c.requires.column)

pub put_parts-requires-clause-room : goal.put_parts-requires-clause-room
put_parts-requires-clause-room g c =
    omega (arith, size-template c.args.self.now c.args.column c.args.parts.now (template_of c.args.self.now c.args.column c.args.parts.now c.requires.template), c.requires.room)

pub put_null-requires : goal.put_null-requires
put_null-requires g c =
    omega (arith, size-template c.args.self.now c.args.column c.args.parts.now (template_of c.args.self.now c.args.column c.args.parts.now c.requires.template), c.requires.room)

-- how a template is written
text_is : (g : _) (c : After-is_null g) → (null : Bool) → c.is_null.result ≡ null →
    text_in_table c.args.self.now c.args.index c.args.values.now.changed c.args.column ≡ (if null then codes "\\N" else flat_map (written_part c.args.self.now c.args.index c.args.values.now.changed) c.args.parts.now)
text_is g c null is =
    text-template c.args.self.now c.args.values.now c.args.column c.args.index c.args.values.now.changed c.ordinal.result c.args.parts.now null
    (template_of c.args.self.now c.args.column c.args.parts.now c.requires.template) (c.ordinal.ensures.limits.filled c.args.column c.requires.column)
    c.requires.values c.ordinal.ensures.ordinal c.ordinal.ensures.early c.requires.row (sym c.is_null.ensures ∙ is)

pub returns-then-is_null-clause-text : goal.returns-then-is_null-clause-text
returns-then-is_null-clause-text g c =
    c.put_null.ensures
    ∙ ap (λ (text : List ℕ). record { text = c.args.buf.now.text ++ text; room = c.args.buf.now.room })
    (sym (text_is g (goal.at.returns-then-is_null-clause-text g c).After-is_null true c.if-is_null.true))

pub returns-then-is_null-clause-size : goal.returns-then-is_null-clause-size
returns-then-is_null-clause-size g c =
    omega (
      arith,
      ap (λ (text : List ℕ). length text) (text_is g (goal.at.returns-then-is_null-clause-size g c).After-is_null true c.if-is_null.true),
      size-template c.args.self.now c.args.column c.args.parts.now (template_of c.args.self.now c.args.column c.args.parts.now c.requires.template),
    )

pub returns-else-is_null-clause-text : goal.returns-else-is_null-clause-text
returns-else-is_null-clause-text g c =
    c.put_parts.ensures.text
    ∙ ap (λ (text : List ℕ). record { text = c.args.buf.now.text ++ text; room = c.args.buf.now.room })
    (sym (text_is g (goal.at.returns-else-is_null-clause-text g c).After-is_null false c.if-is_null.false))

pub returns-else-is_null-clause-size : goal.returns-else-is_null-clause-size
returns-else-is_null-clause-size g c =
    omega (
      arith,
      ap (λ (text : List ℕ). length text) (text_is g (goal.at.returns-else-is_null-clause-size g c).After-is_null false c.if-is_null.false),
      c.put_parts.ensures.size,
      size-template c.args.self.now c.args.column c.args.parts.now (template_of c.args.self.now c.args.column c.args.parts.now c.requires.template),
    )

pub returns-else-is_null-clause-steps : goal.returns-else-is_null-clause-steps
returns-else-is_null-clause-steps g c =
    omega (
      arith,
      c.put_parts.ensures.steps,
      asked-template (is_some c.args.key) c.args.self.now c.args.column c.args.parts.now (template_of c.args.self.now c.args.column c.args.parts.now c.requires.template),
    )
