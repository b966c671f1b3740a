use Rattle.std.proofs.Common.{◌≡◌, ◌≤◌, ◌+◌, ◌≤ℤ◌, ◌∷◌, ◌++◌, ℕ, ℤ, [], List, Option, Some, None, codes, length, neg_ℤ, pos, true, ap, arith, subst, sym, ◌∙◌}
use Rattle.std.specs.Prelude.{IfSome}
use Rattle.std.specs.Option.{option_map}
use Rattle.line_pages.specs.Pieces.{piece_text}
use Rattle.row_text.specs.Fields.{field_text}
use Rattle.schema_facts.specs.ColumnFacts.{field_cost, field_facts}
use Rattle.schema_facts.specs.Ends.{IsInCalendar}
use Rattle.schema_facts.specs.Layout.{column_at, layout_of}
use Rattle.draw_values.specs.CohortValues.{IsDayOf, ValuesOf}
use Rattle.draw_values.specs.Dates.{date_text}
use Rattle.draw_values.proofs.PlainLemmas.{escaped_text-plain, plain-date_text}
use Rattle.row_lines.specs.CohortLines.{AreLinesOf, LinesOf, asked_for, layout_for, text_in_cohort}
use Rattle.row_lines.specs.Derived.{columns_before}
use Rattle.row_lines.specs.Totals.{day_for}
use Rattle.row_lines.proofs.CohortLineLemmas.{AreLinesOf-view}
use Rattle.row_lines.proofs.DerivedLemmas.{after_here, after_kind-dated, asked-day, day-calendar, fits_calendar, size-day, text-day}
use Rattle.row_lines.proofs.cohort_lines.CohortLines.date_piece.Goals as goal
use Rattle.row_lines.proofs.cohort_lines.CohortLines.date_piece.Goals.{After-day}

known : (g : _) (c : After-day g) → AreLinesOf c.args.self.now c.self.inside.columns.now c.self.inside.fields c.self.inside.delimiter
known g c = AreLinesOf-view _ c.args.self.now c.self.inside.columns.now c.self.inside.fields c.self.inside.delimiter c.self.view_is c.self.invariant

-- the field is the date of the day that is found
text_is : (g : _) (c : After-day g) → text_in_cohort c.args.self.now c.args.index c.args.column ≡ field_text (layout_of c.args.self.now.plan).delimiter (option_map date_text c.day.result)
text_is g c =
    let lines : LinesOf = c.args.self.now in
    text-day lines c.args.index c.args.column c.day.result (known g c).table c.requires.column c.requires.dated
    (λ n past.
    c.day.ensures.day n (omega (arith, past, ap (λ (of : LinesOf). columns_before of.table c.args.column) (known g c).fields_are))
    ∙ ap (λ (of : LinesOf). day_for of c.args.index c.args.values.now.changed n c.args.column) (known g c).fields_are
    ∙ ap (λ (of : ValuesOf). day_for lines c.args.index of.changed n c.args.column) c.requires.values)

some_is : (g : _) (c : After-day g) (day : ℤ) → c.day.result ≡ Some day → text_in_cohort c.args.self.now c.args.index c.args.column ≡ date_text day
some_is g c day is =
    let d : ℕ = (layout_of c.args.self.now.plan).delimiter in
    text_is g c ∙ ap (λ (o : Option ℤ). field_text d (option_map date_text o)) is ∙ escaped_text-plain d (date_text day) (plain-date_text day)

none_is : (g : _) (c : After-day g) → c.day.result ≡ None → text_in_cohort c.args.self.now c.args.index c.args.column ≡ codes "\\N"
none_is g c is =
    let d : ℕ = (layout_of c.args.self.now.plan).delimiter in
    text_is g c ∙ ap (λ (o : Option ℤ). field_text d (option_map date_text o)) is

-- which is one of the calendar
in_calendar : (g : _) (c : After-day g) (day : ℤ) → c.day.result ≡ Some day → IsInCalendar day
in_calendar g c day is =
    let lines : LinesOf = c.args.self.now in
    let after = after_kind-dated (column_at (layout_for lines).columns c.args.column).kind c.requires.dated in
    let shown = subst (λ (o : Option ℤ). IfSome o (IsDayOf (field_facts (layout_of c.self.inside.fields.plan) c.self.inside.fields.table c.args.column).days)) is c.day.ensures.within in
    day-calendar lines c.args.column after.before after.lo after.hi day
    (after_here lines (known g c).sound (known g c).table (known g c).limits c.args.column after.before after.lo after.hi c.requires.column after.is)
    (subst (λ (of : LinesOf). IsDayOf (field_facts (layout_of of.plan) of.table c.args.column).days day) (known g c).fields_are shown)

pub day_piece-requires-clause-first_day : goal.day_piece-requires-clause-first_day
day_piece-requires-clause-first_day g c =
    let calendar = in_calendar g (goal.at.day_piece-requires-clause-first_day g c).After-day c.in-Some.day c.in-Some.is in
    subst (λ (day : ℤ). neg_ℤ (pos 719162) ≤ℤ day) (sym (fits_calendar c.in-Some.day calendar)) calendar.from

pub day_piece-requires-clause-last_day : goal.day_piece-requires-clause-last_day
day_piece-requires-clause-last_day g c =
    let calendar = in_calendar g (goal.at.day_piece-requires-clause-last_day g c).After-day c.in-Some.day c.in-Some.is in
    subst (λ (day : ℤ). day ≤ℤ pos 2932896) (sym (fits_calendar c.in-Some.day calendar)) calendar.to

pub returns-in-Some-clause-text : goal.returns-in-Some-clause-text
returns-in-Some-clause-text g c =
    let here = (goal.at.returns-in-Some-clause-text g c).After-day in
    c.day_piece.ensures.text
    ∙ ap (λ (day : ℤ). date_text day ++ piece_text c.of_byte.result) (fits_calendar c.in-Some.day (in_calendar g here c.in-Some.day c.in-Some.is))
    ∙ ap (λ (rest : List ℕ). date_text c.in-Some.day ++ rest) c.of_byte.ensures
    ∙ ap (λ (text : List ℕ). text ++ c.args.behind ∷ []) (sym (some_is g here c.in-Some.day c.in-Some.is))

pub returns-in-Some-clause-size : goal.returns-in-Some-clause-size
returns-in-Some-clause-size g c =
    let here = (goal.at.returns-in-Some-clause-size g c).After-day in
    omega (
      arith,
      ap (λ (text : List ℕ). length text) (some_is g here c.in-Some.day c.in-Some.is),
      ap (λ (day : ℤ). length (date_text day)) (fits_calendar c.in-Some.day (in_calendar g here c.in-Some.day c.in-Some.is)),
      c.day_piece.ensures.size,
      size-day c.args.self.now c.args.column c.requires.dated,
    )

steps_are : (g : _) (c : After-day g) → c.day.new.steps ≤ c.args.steps.now + asked_for true c.args.self.now c.args.column
steps_are g c =
    omega (
      arith,
      c.day.ensures.steps,
      ap (λ (of : LinesOf). field_cost (layout_of of.plan) of.table c.args.column) (known g c).fields_are,
      asked-day c.args.self.now c.args.column c.requires.dated,
    )

pub returns-in-Some-clause-steps : goal.returns-in-Some-clause-steps
returns-in-Some-clause-steps g c = steps_are g (goal.at.returns-in-Some-clause-steps g c).After-day

pub returns-in-None-clause-text : goal.returns-in-None-clause-text
returns-in-None-clause-text g c =
    c.null_piece.ensures ∙ ap (λ (text : List ℕ). text ++ c.args.behind ∷ []) (sym (none_is g (goal.at.returns-in-None-clause-text g c).After-day c.in-None.is))

pub returns-in-None-clause-size : goal.returns-in-None-clause-size
returns-in-None-clause-size g c =
    omega (arith, ap (λ (text : List ℕ). length text) (none_is g (goal.at.returns-in-None-clause-size g c).After-day c.in-None.is), size-day c.args.self.now c.args.column c.requires.dated)

pub returns-in-None-clause-steps : goal.returns-in-None-clause-steps
returns-in-None-clause-steps g c = steps_are g (goal.at.returns-in-None-clause-steps g c).After-day
