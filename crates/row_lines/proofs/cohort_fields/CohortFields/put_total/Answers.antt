use Rattle.std.proofs.Common.{◌≡◌, ◌++◌, ℕ, suc, List, [], Option, Some, None, length, ap, arith, subst, sym, ◌∙◌}
use Rattle.std.specs.Prelude.{IfSome}
use Rattle.std.specs.Option.{option_map}
use Rattle.std.proofs.lemmas.List.{append-nil}
use Rattle.schema_facts.specs.Layout.{column_at, layout_of}
use Rattle.draw_values.specs.declared.leaf_numbers.Number.{Number}
use Rattle.draw_values.specs.CohortValues.{IsNumberOf}
use Rattle.draw_values.specs.Values.{number_text, put_of, written}
use Rattle.draw_values.proofs.PlainLemmas.{escaped_text-plain, plain-signed_pointed}
use Rattle.row_lines.specs.CohortLines.{LinesOf, layout_for}
use Rattle.row_lines.specs.Derived.{columns_before}
use Rattle.row_lines.specs.Parts.{cited_for, cited_size, cited_text}
use Rattle.row_lines.proofs.CohortFieldLemmas.{AreFieldsOf-view}
use Rattle.row_lines.proofs.DerivedLemmas.{cited-number, number-few, size-total}
use Rattle.row_lines.proofs.TotalLemmas.{numbers_at}
use Rattle.row_lines.proofs.cohort_fields.CohortFields.put_total.Goals as goal
use Rattle.row_lines.proofs.cohort_fields.CohortFields.put_total.Goals.{After-number}

-- what the column holds
held : (g : _) (c : After-number g) → cited_for c.args.self.now c.args.index c.args.values.now.changed c.args.column ≡ option_map number_text c.number.result
held g c =
    let lines : LinesOf = c.args.self.now in
    let n : ℕ = columns_before lines.table c.args.column in
    cited-number lines c.args.index c.args.values.now.changed c.args.column c.requires.total
    ∙ sym (ap (option_map number_text) (c.number.ensures.number (suc n) (omega arith)))

text_is : (g : _) (c : After-number g) (number : Number) → c.number.result ≡ Some number → cited_text c.args.self.now c.args.index c.args.values.now.changed c.args.column ≡ number_text number
text_is g c number is =
    let d : ℕ = (layout_of c.args.self.now.plan).delimiter in
    ap (written d) (held g c ∙ ap (option_map number_text) is) ∙ escaped_text-plain d (number_text number) (plain-signed_pointed number.decimals number.value)

none_is : (g : _) (c : After-number g) → c.number.result ≡ None → cited_text c.args.self.now c.args.index c.args.values.now.changed c.args.column ≡ []
none_is g c is = ap (written (layout_of c.args.self.now.plan).delimiter) (held g c ∙ ap (option_map number_text) is)

-- what it takes
size_is : (g : _) (c : After-number g) → cited_size c.args.self.now c.args.column ≡ 21
size_is g c =
    let lines : LinesOf = c.args.self.now in
    size-total (layout_of lines.plan).delimiter (column_at (layout_for lines).columns c.args.column).kind c.requires.total

pub put_number-requires-clause-decimals : goal.put_number-requires-clause-decimals
put_number-requires-clause-decimals g c =
    let lines : LinesOf = c.args.self.now in
    let known = AreFieldsOf-view _ lines c.self.inside.columns.now c.self.inside.first c.self.view_is c.self.invariant in
    number-few lines known.sound known.table known.limits c.args.column c.in-Some.number c.requires.column c.requires.total
    (subst (λ (o : Option Number). IfSome o (IsNumberOf (numbers_at lines c.args.column))) c.in-Some.is c.number.ensures.within)

pub put_number-requires-clause-room : goal.put_number-requires-clause-room
put_number-requires-clause-room g c = omega (arith, size_is g (goal.at.put_number-requires-clause-room g c).After-number, c.requires.room)

pub returns-in-Some-clause-put : goal.returns-in-Some-clause-put
returns-in-Some-clause-put g c = sym (ap put_of (held g (goal.at.returns-in-Some-clause-put g c).After-number ∙ ap (option_map number_text) c.in-Some.is))

pub returns-in-Some-clause-text : goal.returns-in-Some-clause-text
returns-in-Some-clause-text g c =
    let here = (goal.at.returns-in-Some-clause-text g c).After-number in
    c.put_number.ensures.text
    ∙ ap (λ (text : List ℕ). record { text = c.args.buf.now.text ++ text; room = c.args.buf.now.room }) (sym (text_is g here c.in-Some.number c.in-Some.is))

pub returns-in-Some-clause-size : goal.returns-in-Some-clause-size
returns-in-Some-clause-size g c =
    let here = (goal.at.returns-in-Some-clause-size g c).After-number in
    omega (arith, ap (λ (text : List ℕ). length text) (text_is g here c.in-Some.number c.in-Some.is), c.put_number.ensures.size, size_is g here)

pub returns-in-None-clause-put : goal.returns-in-None-clause-put
returns-in-None-clause-put g c = sym (ap put_of (held g (goal.at.returns-in-None-clause-put g c).After-number ∙ ap (option_map number_text) c.in-None.is))

pub returns-in-None-clause-text : goal.returns-in-None-clause-text
returns-in-None-clause-text g c =
    ap (λ (text : List ℕ). record { text = text; room = c.args.buf.now.room }) (sym (append-nil c.args.buf.now.text))
    ∙ ap (λ (text : List ℕ). record { text = c.args.buf.now.text ++ text; room = c.args.buf.now.room }) (sym (none_is g (goal.at.returns-in-None-clause-text g c).After-number c.in-None.is))

pub returns-in-None-clause-size : goal.returns-in-None-clause-size
returns-in-None-clause-size g c = omega (arith, ap (λ (text : List ℕ). length text) (none_is g (goal.at.returns-in-None-clause-size g c).After-number c.in-None.is))
