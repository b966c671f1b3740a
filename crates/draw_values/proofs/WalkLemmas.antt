-- The walk over years and months ends where a date lies.
use Rattle.std.proofs.Common.{◌≡◌, ◌<◌, ◌≤◌, ℕ, ℤ, pos, zero, suc, ◌+◌, ◌-◌, if◌then◌else◌, inl, inr, refl, ap, ◌∙◌, arith}
use Rattle.std.proofs.lemmas.Bool.{cases_lt, lt-ltb, le-ltb}
use Rattle.jiff_core.specs.Calendar.{days_in_month, days_in_year, days_of_months, day_count}
use Rattle.jiff_core.proofs.CalendarLemmas.{day_count-later_year, day_count-next_year, days_of_months_more, days_of_months_mono}
use Rattle.jiff_core.proofs.SignedLemmas.{signed_arith}
use Rattle.draw_values.specs.Dates.{month_from, year_from}

-- a day of the first year ends the walk, and a later one goes on
year_from-here : (years year day : ℕ) → day < days_in_year (pos year) → year_from years year day ≡ record { number = year; rest = day }
unfolding year_from
year_from-here zero year day here = refl
year_from-here (suc years) year day here =
    ap (λ test. if test then record { number = year; rest = day } else year_from years (year + 1) (day - days_in_year (pos year))) (lt-ltb day (days_in_year (pos year)) here)

year_from-later : (years year day : ℕ) → days_in_year (pos year) ≤ day → year_from (suc years) year day ≡ year_from years (year + 1) (day - days_in_year (pos year))
unfolding year_from
year_from-later years year day later =
    ap (λ test. if test then record { number = year; rest = day } else year_from years (year + 1) (day - days_in_year (pos year))) (le-ltb day (days_in_year (pos year)) later)

year_from-same : (years year found day rest : ℕ) → year ≡ found → day + day_count (pos year) 1 1 ≡ day_count (pos found) 1 1 + rest → rest < days_in_year (pos found) →
    year_from years year day ≡ record { number = found; rest = rest }
year_from-same years year found day rest is same within =
    let day_is : day ≡ rest = omega (arith, ap (λ (y : ℕ). day_count (pos y) 1 1) is) in
    let here : day < days_in_year (pos year) = omega (arith, ap (λ (y : ℕ). days_in_year (pos y)) is) in
    year_from-here years year day here
    ∙ ap (λ (y : ℕ). record { number = y; rest = day }) is
    ∙ ap (λ (r : ℕ). record { number = found; rest = r }) day_is

-- the year of a day that lies so far past the first day of a year
pub year_from-finds : (years year found day rest : ℕ) → year ≤ found → found ≤ year + years → day + day_count (pos year) 1 1 ≡ day_count (pos found) 1 1 + rest → rest < days_in_year (pos found) →
    year_from years year day ≡ record { number = found; rest = rest }
year_from-finds zero year found day rest from to same within = year_from-same zero year found day rest (omega arith) same within
year_from-finds (suc years) year found day rest from to same within =
    elim (cases_lt year found) [
      | inr past ↦ year_from-same (suc years) year found day rest (omega arith) same within
      | inl before ↦
          let later : day_count (pos year) 1 1 + days_in_year (pos year) ≤ day_count (pos found) 1 1 =
          day_count-later_year (pos year) (pos found) (omega (arith, signed_arith)) (omega (arith, signed_arith)) in
          let next : day_count (pos (year + 1)) 1 1 ≡ day_count (pos year) 1 1 + days_in_year (pos year) =
          day_count-next_year (pos year) (pos (year + 1)) (omega (arith, signed_arith)) refl in
          year_from-later years year day (omega arith)
          ∙ year_from-finds years (year + 1) found (day - days_in_year (pos year)) rest (omega arith) (omega arith) (omega arith) within
    ]

-- and the same of months
month_from-here : (year : ℤ) (months month day : ℕ) → day < days_in_month year month → month_from year months month day ≡ record { number = month; rest = day }
unfolding month_from
month_from-here year zero month day here = refl
month_from-here year (suc months) month day here =
    ap (λ test. if test then record { number = month; rest = day } else month_from year months (month + 1) (day - days_in_month year month)) (lt-ltb day (days_in_month year month) here)

month_from-later : (year : ℤ) (months month day : ℕ) → days_in_month year month ≤ day →
    month_from year (suc months) month day ≡ month_from year months (month + 1) (day - days_in_month year month)
unfolding month_from
month_from-later year months month day later =
    ap (λ test. if test then record { number = month; rest = day } else month_from year months (month + 1) (day - days_in_month year month)) (le-ltb day (days_in_month year month) later)

month_from-same : (year : ℤ) (months month found day rest : ℕ) → month ≡ found → days_of_months year (month - 1) + day ≡ days_of_months year (found - 1) + rest → rest < days_in_month year found →
    month_from year months month day ≡ record { number = found; rest = rest }
month_from-same year months month found day rest is same within =
    let day_is : day ≡ rest = omega (arith, ap (λ (m : ℕ). days_of_months year (m - 1)) is) in
    let here : day < days_in_month year month = omega (arith, ap (days_in_month year) is) in
    month_from-here year months month day here
    ∙ ap (λ (m : ℕ). record { number = m; rest = day }) is
    ∙ ap (λ (r : ℕ). record { number = found; rest = r }) day_is

pub month_from-finds : (year : ℤ) (months month found day rest : ℕ) → 1 ≤ month → month ≤ found → found ≤ month + months →
    days_of_months year (month - 1) + day ≡ days_of_months year (found - 1) + rest → rest < days_in_month year found →
    month_from year months month day ≡ record { number = found; rest = rest }
month_from-finds year zero month found day rest first from to same within = month_from-same year zero month found day rest (omega arith) same within
month_from-finds year (suc months) month found day rest first from to same within =
    elim (cases_lt month found) [
      | inr past ↦ month_from-same year (suc months) month found day rest (omega arith) same within
      | inl before ↦
          let back : month + 1 - 1 ≡ month = omega arith in
          let here : days_of_months year (month + 1 - 1) ≡ days_of_months year month = ap (days_of_months year) back in
          let more : days_of_months year month ≡ days_of_months year (month - 1) + days_in_month year month = days_of_months_more year month first in
          let later : days_of_months year month ≤ days_of_months year (found - 1) = days_of_months_mono year month (found - 1) (omega arith) in
          month_from-later year months month day (omega arith)
          ∙ month_from-finds year months (month + 1) found (day - days_in_month year month) rest (omega arith) (omega arith) (omega arith) (omega arith) within
    ]
