use Rattle.std.proofs.Common.{◌≡◌, ◌++◌, ℕ, List, Option, Some, ap, arith, sym, ◌∙◌, decimal, length}
use Rattle.std.specs.Option.{option_map}
use Rattle.row_text.specs.Fields.{field_text}
use Rattle.row_text.proofs.DigitLemmas.{escaped_text-decimal}
use Rattle.schema_facts.specs.Layout.{layout_of}
use Rattle.draw_values.specs.Values.{written}
use Rattle.life_intervals.specs.CohortParents.{reference_by}
use Rattle.row_lines.specs.CohortLines.{reference_value}
use Rattle.row_lines.proofs.FieldLemmas.{length-decimal-le_20}
use Rattle.row_lines.proofs.cohort_fields.CohortFields.put_parent.Goals as goal
use Rattle.row_lines.proofs.cohort_fields.CohortFields.put_parent.Goals.{In-Some}

-- the key is what the row holds
value_is : (g : _) (c : In-Some g) → Some (decimal c.in-Some.key) ≡ reference_value c.args.self.now c.args.index (reference_by c.args.column c.args.reference.now)
value_is g c = ap (option_map decimal) (sym c.in-Some.is ∙ c.held_key.ensures.key)

pub put_number-requires : goal.put_number-requires
put_number-requires g c = omega (arith, length-decimal-le_20 c.in-Some.key c.in-Some.ensures.limit, c.requires.room)

pub returns-in-Some-clause-text : goal.returns-in-Some-clause-text
returns-in-Some-clause-text g c =
    c.put_number.ensures
    ∙ ap (λ (text : List ℕ). record { text = c.args.buf.now.text ++ text; room = c.args.buf.now.room })
    (sym (escaped_text-decimal (layout_of c.args.self.now.plan).delimiter c.in-Some.key c.in-Some.ensures.limit)
    ∙ ap (written (layout_of c.args.self.now.plan).delimiter) (value_is g (goal.at.returns-in-Some-clause-text g c).In-Some))

pub returns-in-Some-clause-size : goal.returns-in-Some-clause-size
returns-in-Some-clause-size g c =
    omega (
      arith,
      length-decimal-le_20 c.in-Some.key c.in-Some.ensures.limit,
      ap (λ (text : List ℕ). length text) (escaped_text-decimal (layout_of c.args.self.now.plan).delimiter c.in-Some.key c.in-Some.ensures.limit),
      ap (λ (value : Option (List ℕ)). length (field_text (layout_of c.args.self.now.plan).delimiter value)) (value_is g (goal.at.returns-in-Some-clause-size g c).In-Some),
    )
