use Rattle.std.proofs.Common.{◌≡◌, ◌≤◌, ℕ, pos, ◌++◌, List, length, w16, w64, to_z, of_z, ap, sym, ◌∙◌, arith}
use Rattle.std.specs.Prelude.{unsigned_abs}
use Rattle.std.proofs.lemmas.Int.{ints, to_z-of_z}
use Rattle.line_pages.specs.Pieces.{piece_text}
use Rattle.jiff_core.specs.Date.{epoch_day}
use Rattle.draw_values.specs.Dates.{date_digits, date_text}
use Rattle.draw_values.proofs.DateLemmas.{date_text-date, date_year, length-date_digits}
use Rattle.draw_values.proofs.dates.day_piece.Goals as goal
use Rattle.draw_values.proofs.dates.day_piece.Goals.{In-Ok}

is_day : (c : In-Ok) → epoch_day c.in-Ok.date ≡ c.args.day
is_day c = c.in-Ok.ensures.value ∙ to_z-of_z w64 c.args.day c.ranges.day

year_found : (c : In-Ok) → (year : ℕ) × ((c.in-Ok.date.year ≡ pos year) × (1 ≤ year))
year_found c = date_year c.in-Ok.date c.args.day (is_day c) c.requires.first_day

pub overflow_cast-date : goal.overflow_cast-date
overflow_cast-date c =
    let found = year_found (goal.at.overflow_cast-date c).In-Ok in
    let is : c.in-Ok.date.year ≡ pos found.0 = found.1.0 in
    omega (arith, ints)

text_is : (c : In-Ok) → date_digits (unsigned_abs (to_z w16 (of_z w16 c.in-Ok.date.year))) c.in-Ok.date.month c.in-Ok.date.day ≡ date_text c.args.day
text_is c =
    let found = year_found c in
    let is : c.in-Ok.date.year ≡ pos found.0 = found.1.0 in
    let same : unsigned_abs (to_z w16 (of_z w16 c.in-Ok.date.year)) ≡ found.0 = omega (arith, ints) in
    ap (λ (year : ℕ). date_digits year c.in-Ok.date.month c.in-Ok.date.day) same
    ∙ sym (date_text-date c.in-Ok.date c.args.day found.0 is found.1.1 (is_day c) c.requires.first_day)

pub returns-clause-text : goal.returns-clause-text
returns-clause-text c =
    c.date_piece.ensures ∙ ap (λ (text : List ℕ). text ++ piece_text c.args.rest) (text_is (goal.at.returns-clause-text c).In-Ok)

pub returns-clause-size : goal.returns-clause-size
returns-clause-size c =
    ap length (sym (text_is (goal.at.returns-clause-size c).In-Ok))
    ∙ length-date_digits (unsigned_abs (to_z w16 (of_z w16 c.in-Ok.date.year))) c.in-Ok.date.month c.in-Ok.date.day
