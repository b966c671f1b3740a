-- The text of a date, and its day number.
use Rattle.std.proofs.Common.{◌≡◌, ◌≤◌, ◌≤ℤ◌, ℕ, ℤ, pos, negsuc, neg_ℤ, ◌+◌, ◌-◌, ◌+ℤ◌, ◌∷◌, ◌++◌, length, inl, inr, refl, ap, subst, sym, ◌∙◌, length-append, arith}
use Rattle.std.proofs.lemmas.Bool.{cases_lt}
use Rattle.std.proofs.lemmas.Int.{by_lt_z}
use Rattle.jiff_core.specs.Calendar.{IsCivilDate, days_from_civil, day_count, day_of_year}
use Rattle.jiff_core.specs.Date.{epoch_day}
use Rattle.jiff_core.specs.declared.civil.date.Date.{Date}
use Rattle.jiff_core.proofs.CalendarLemmas.{day_count-day_of_year, day_count-later_year, day_count-lt_year, day_of_year_bound, days_from_civil-day_count, days_of_months-zero}
use Rattle.jiff_core.proofs.MarchLemmas.{day_count-early}
use Rattle.jiff_core.proofs.SignedLemmas.{signed_arith}
use Rattle.schema_facts.specs.Counts.{count}
use Rattle.draw_values.specs.Dates.{Found, date_digits, date_text, month_from, year_from}
use Rattle.line_pages.specs.Digits.{last_digits}
use Rattle.draw_values.proofs.DigitLemmas.{length-last_digits}
use Rattle.draw_values.proofs.WalkLemmas.{month_from-finds, year_from-finds}

pub length-date_digits : (year month day : ℕ) → length (date_digits year month day) ≡ 10
length-date_digits year month day =
    omega (
      arith,
      length-append (last_digits 4 year ++ 45 ∷ last_digits 2 month) (45 ∷ last_digits 2 day),
      length-append (last_digits 4 year) (45 ∷ last_digits 2 month),
      length-last_digits 4 year,
      length-last_digits 2 month,
      length-last_digits 2 day,
    )

-- where the walk ends is the date
date_text-walk : (day : ℤ) (year left month rest : ℕ) → year_from 9999 1 (count (day +ℤ pos 719162)) ≡ record { number = year; rest = left } →
    month_from (pos year) 12 1 left ≡ record { number = month; rest = rest } → date_text day ≡ date_digits year month (rest + 1)
unfolding date_text
date_text-walk day year left month rest year_is month_is =
    ap (λ (found : Found). date_digits found.number (month_from (pos found.number) 12 1 found.rest).number ((month_from (pos found.number) 12 1 found.rest).rest + 1)) year_is
    ∙ ap (λ (found : Found). date_digits year found.number (found.rest + 1)) month_is

day_count-first : day_count (pos 1) 1 1 ≡ 3652791
day_count-first = day_count-early (pos 1) 10000 1 1 refl (omega arith) (omega arith) (omega arith)

-- a day number from that of 0001-01-01 on, counted from there
count-from_first : (day : ℤ) (y : ℤ) (m d : ℕ) → days_from_civil y m d ≡ day → neg_ℤ (pos 719162) ≤ℤ day → count (day +ℤ pos 719162) + day_count (pos 1) 1 1 ≡ day_count y m d
count-from_first day y m d is from =
    let far : ℕ = day_count y m d - 3652791 in
    let place : day +ℤ pos 719162 ≡ pos far = omega (arith, signed_arith, days_from_civil-day_count y m d, is) in
    omega (arith, signed_arith, ap count place, day_count-first, days_from_civil-day_count y m d, is)

-- and a date from there on has a year from 1 on
year-from_first : (day : ℤ) (y : ℤ) (m d : ℕ) → IsCivilDate y m d → days_from_civil y m d ≡ day → neg_ℤ (pos 719162) ≤ℤ day → pos 1 ≤ℤ y
year-from_first day y m d civil is from =
    by_lt_z y (pos 1)
    (λ before. absurd (omega (arith, day_count-lt_year y m d (pos 1) 1 1 civil (omega arith) before, count-from_first day y m d is from)))
    (λ past. past)

-- the text of a date of the years from 1 on
pub date_text-civil : (day : ℤ) (year month number : ℕ) → 1 ≤ year → IsCivilDate (pos year) month number → days_from_civil (pos year) month number ≡ day → neg_ℤ (pos 719162) ≤ℤ day →
    date_text day ≡ date_digits year month number
date_text-civil day year month number some civil is from =
    let left : ℕ = day_of_year (pos year) month number - 1 in
    let whole = count-from_first day (pos year) month number is from in
    let of_year = day_count-day_of_year (pos year) month number civil.2.0 in
    let within = day_of_year_bound (pos year) month number civil in
    let none = days_of_months-zero (pos year) in
    let year_is = year_from-finds 9999 1 year (count (day +ℤ pos 719162)) left some (omega (arith, signed_arith)) (omega arith) (omega arith) in
    let month_is = month_from-finds (pos year) 12 1 month left (number - 1) (omega arith) civil.1.0 (omega arith) (omega arith) (omega arith) in
    date_text-walk day year left month (number - 1) year_is month_is
    ∙ ap (date_digits year month) (let same : number - 1 + 1 ≡ number = omega arith in same)

year_of : (y : ℤ) → pos 1 ≤ℤ y → (year : ℕ) × ((y ≡ pos year) × (1 ≤ year))
year_of (pos year) some = (year, (refl, omega (arith, signed_arith)))
year_of (negsuc n) some = absurd (omega (arith, signed_arith))

-- the year of such a date
pub date_year : (date : Date) (day : ℤ) → epoch_day date ≡ day → neg_ℤ (pos 719162) ≤ℤ day → (year : ℕ) × ((date.year ≡ pos year) × (1 ≤ year))
date_year date day is from = year_of date.year (year-from_first day date.year date.month date.day (date.year_in, date.month_in, date.day_in) is from)

-- the text of such a date
pub date_text-date : (date : Date) (day : ℤ) (year : ℕ) → date.year ≡ pos year → 1 ≤ year → epoch_day date ≡ day → neg_ℤ (pos 719162) ≤ℤ day →
    date_text day ≡ date_digits year date.month date.day
date_text-date date day year year_is some is from =
    let civil : IsCivilDate (pos year) date.month date.day =
    subst (λ (y : ℤ). IsCivilDate y date.month date.day) year_is (date.year_in, date.month_in, date.day_in) in
    date_text-civil day year date.month date.day some civil (ap (λ (y : ℤ). days_from_civil y date.month date.day) (sym year_is) ∙ is) from

-- a date of the years from 1 on has a day number from that of 0001-01-01 on
pub days_from_civil-from_first : (year month number : ℕ) → 1 ≤ year → IsCivilDate (pos year) month number → neg_ℤ (pos 719162) ≤ℤ days_from_civil (pos year) month number
days_from_civil-from_first year month number some civil =
    let place = days_from_civil-day_count (pos year) month number in
    let of_year = day_count-day_of_year (pos year) month number civil.2.0 in
    let of_first = day_count-first in
    let first_day : day_count (pos 1) 1 1 ≤ day_count (pos year) 1 1 =
    elim (cases_lt 1 year) [
      | inl later ↦ omega (arith, day_count-later_year (pos 1) (pos year) (omega (arith, signed_arith)) (omega (arith, signed_arith)))
      | inr same ↦ let is : year ≡ 1 = omega arith in omega (arith, ap (λ (y : ℕ). day_count (pos y) 1 1) is)
    ] in
    omega (arith, signed_arith, first_day)
