use Rattle.std.proofs.Common.{◌≡◌, ◌≤ℤ◌, ◌++◌, ℕ, ℤ, suc, List, Option, [], Some, None, length, neg_ℤ, pos, ap, arith, subst, sym, ◌∙◌}
use Rattle.std.specs.Prelude.{IfSome}
use Rattle.std.specs.Option.{option_map}
use Rattle.std.proofs.lemmas.List.{append-nil}
use Rattle.schema_facts.specs.ColumnFacts.{field_facts}
use Rattle.schema_facts.specs.Ends.{IsInCalendar}
use Rattle.schema_facts.specs.FieldSizes.{size_alone}
use Rattle.schema_facts.specs.Layout.{column_at, layout_of}
use Rattle.draw_values.specs.CohortValues.{IsDayOf}
use Rattle.draw_values.specs.Dates.{date_text}
use Rattle.draw_values.specs.Values.{put_of, written}
use Rattle.draw_values.proofs.PlainLemmas.{escaped_text-plain, plain-date_text}
use Rattle.row_lines.specs.CohortLines.{LinesOf, layout_for}
use Rattle.row_lines.specs.Derived.{columns_before}
use Rattle.row_lines.specs.Parts.{cited_for, cited_size, cited_text}
use Rattle.row_lines.proofs.CohortFieldLemmas.{AreFieldsOf-view}
use Rattle.row_lines.proofs.DerivedLemmas.{after_here, after_kind-dated, cited-day, day-calendar, fits_calendar}
use Rattle.row_lines.proofs.cohort_fields.CohortFields.put_day.Goals as goal
use Rattle.row_lines.proofs.cohort_fields.CohortFields.put_day.Goals.{After-day}

-- what the column holds
held : (g : _) (c : After-day g) → cited_for c.args.self.now c.args.index c.args.values.now.changed c.args.column ≡ option_map date_text c.day.result
held g c =
    let lines : LinesOf = c.args.self.now in
    let after = after_kind-dated (column_at (layout_for lines).columns c.args.column).kind c.requires.dated in
    let n : ℕ = columns_before lines.table c.args.column in
    cited-day lines c.args.index c.args.values.now.changed c.args.column after.before after.lo after.hi after.is
    ∙ sym (ap (option_map date_text) (c.day.ensures.day (suc n) (omega arith)))

-- its day is one of the calendar, and is passed on as it is
in_calendar : (g : _) (c : After-day g) (day : ℤ) → c.day.result ≡ Some day → IsInCalendar day
in_calendar g c day is =
    let lines : LinesOf = c.args.self.now in
    let known = AreFieldsOf-view _ lines c.self.inside.columns.now c.self.inside.first c.self.view_is c.self.invariant in
    let after = after_kind-dated (column_at (layout_for lines).columns c.args.column).kind c.requires.dated in
    day-calendar lines c.args.column after.before after.lo after.hi day (after_here lines known.sound known.table known.limits c.args.column after.before after.lo after.hi c.requires.column after.is)
    (subst (λ (o : Option ℤ). IfSome o (IsDayOf (field_facts (layout_of lines.plan) lines.table c.args.column).days)) is c.day.ensures.within)

-- how it is written
text_is : (g : _) (c : After-day g) (day : ℤ) → c.day.result ≡ Some day → cited_text c.args.self.now c.args.index c.args.values.now.changed c.args.column ≡ date_text day
text_is g c day is =
    let d : ℕ = (layout_of c.args.self.now.plan).delimiter in
    ap (written d) (held g c ∙ ap (option_map date_text) is) ∙ escaped_text-plain d (date_text day) (plain-date_text day)

none_is : (g : _) (c : After-day g) → c.day.result ≡ None → cited_text c.args.self.now c.args.index c.args.values.now.changed c.args.column ≡ []
none_is g c is = ap (written (layout_of c.args.self.now.plan).delimiter) (held g c ∙ ap (option_map date_text) is)

pub put_date-requires-clause-first_day : goal.put_date-requires-clause-first_day
put_date-requires-clause-first_day g c =
    let calendar = in_calendar g (goal.at.put_date-requires-clause-first_day g c).After-day c.in-Some.day c.in-Some.is in
    subst (λ (day : ℤ). neg_ℤ (pos 719162) ≤ℤ day) (sym (fits_calendar c.in-Some.day calendar)) calendar.from

pub put_date-requires-clause-last_day : goal.put_date-requires-clause-last_day
put_date-requires-clause-last_day g c =
    let calendar = in_calendar g (goal.at.put_date-requires-clause-last_day g c).After-day c.in-Some.day c.in-Some.is in
    subst (λ (day : ℤ). day ≤ℤ pos 2932896) (sym (fits_calendar c.in-Some.day calendar)) calendar.to

-- what a date takes
size_is : (g : _) (c : After-day g) → cited_size c.args.self.now c.args.column ≡ 10
size_is g c =
    let lines : LinesOf = c.args.self.now in
    ap (size_alone (layout_of lines.plan).delimiter) (after_kind-dated (column_at (layout_for lines).columns c.args.column).kind c.requires.dated).is

pub put_date-requires-clause-room : goal.put_date-requires-clause-room
put_date-requires-clause-room g c = omega (arith, size_is g (goal.at.put_date-requires-clause-room g c).After-day, c.requires.room)

pub returns-in-Some-clause-put : goal.returns-in-Some-clause-put
returns-in-Some-clause-put g c = sym (ap put_of (held g (goal.at.returns-in-Some-clause-put g c).After-day ∙ ap (option_map date_text) c.in-Some.is))

pub returns-in-Some-clause-text : goal.returns-in-Some-clause-text
returns-in-Some-clause-text g c =
    let here = (goal.at.returns-in-Some-clause-text g c).After-day in
    let same = fits_calendar c.in-Some.day (in_calendar g here c.in-Some.day c.in-Some.is) in
    c.put_date.ensures.text
    ∙ ap (λ (day : ℤ). record { text = c.args.buf.now.text ++ date_text day; room = c.args.buf.now.room }) same
    ∙ ap (λ (text : List ℕ). record { text = c.args.buf.now.text ++ text; room = c.args.buf.now.room }) (sym (text_is g here c.in-Some.day c.in-Some.is))

pub returns-in-Some-clause-size : goal.returns-in-Some-clause-size
returns-in-Some-clause-size g c =
    let here = (goal.at.returns-in-Some-clause-size g c).After-day in
    omega (
      arith,
      ap (λ (text : List ℕ). length text) (text_is g here c.in-Some.day c.in-Some.is),
      ap (λ (day : ℤ). length (date_text day)) (fits_calendar c.in-Some.day (in_calendar g here c.in-Some.day c.in-Some.is)),
      c.put_date.ensures.size,
      size_is g here,
    )

pub returns-in-None-clause-put : goal.returns-in-None-clause-put
returns-in-None-clause-put g c = sym (ap put_of (held g (goal.at.returns-in-None-clause-put g c).After-day ∙ ap (option_map date_text) c.in-None.is))

pub returns-in-None-clause-text : goal.returns-in-None-clause-text
returns-in-None-clause-text g c =
    ap (λ (text : List ℕ). record { text = text; room = c.args.buf.now.room }) (sym (append-nil c.args.buf.now.text))
    ∙ ap (λ (text : List ℕ). record { text = c.args.buf.now.text ++ text; room = c.args.buf.now.room }) (sym (none_is g (goal.at.returns-in-None-clause-text g c).After-day c.in-None.is))

pub returns-in-None-clause-size : goal.returns-in-None-clause-size
returns-in-None-clause-size g c = omega (arith, ap (λ (text : List ℕ). length text) (none_is g (goal.at.returns-in-None-clause-size g c).After-day c.in-None.is))
