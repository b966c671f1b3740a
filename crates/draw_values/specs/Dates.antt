-- Dates of the years 1 to 9999 of the proleptic Gregorian calendar, by their day numbers: 1970-01-01 is day 0.
use Rattle.std.specs.Prelude.{ℕ, zero, suc, ℤ, pos, ◌+◌, ◌-◌, ◌+ℤ◌, List, ◌∷◌, ◌++◌, if◌then◌else◌, nat_lt}
use Rattle.jiff_core.specs.Calendar.{days_in_month, days_in_year}
use Rattle.schema_facts.specs.Counts.{count}
use Rattle.line_pages.specs.Digits.{last_digits}

-- a year, month or day, from 1, and the days that are left, from 0
pub record Found : Type 0 where
  pub number : ℕ
  pub rest : ℕ

-- the year that has a day, which is counted from the first day of `year`: it is looked for in so many years
unfoldable pub year_from : ℕ → ℕ → ℕ → Found
year_from zero year day = record { number = year; rest = day }
year_from (suc years) year day =
    if nat_lt day (days_in_year (pos year)) then record { number = year; rest = day }
    else year_from years (year + 1) (day - days_in_year (pos year))

-- the month of a year that has a day, which is counted from the first day of `month`: it is looked for in so many months
unfoldable pub month_from : ℤ → ℕ → ℕ → ℕ → Found
month_from year zero month day = record { number = month; rest = day }
month_from year (suc months) month day =
    if nat_lt day (days_in_month year month) then record { number = month; rest = day }
    else month_from year months (month + 1) (day - days_in_month year month)

-- a year, a month and a day as YYYY-MM-DD
abbrev pub date_digits : ℕ → ℕ → ℕ → List ℕ
date_digits year month day = last_digits 4 year ++ 45 ∷ last_digits 2 month ++ 45 ∷ last_digits 2 day

-- the date of a day as YYYY-MM-DD: 0001-01-01 is day -719162
unfoldable pub date_text : ℤ → List ℕ
date_text day =
    let year = year_from 9999 1 (count (day +ℤ pos 719162)) in
    let month = month_from (pos year.number) 12 1 year.rest in
    date_digits year.number month.number (month.rest + 1)
