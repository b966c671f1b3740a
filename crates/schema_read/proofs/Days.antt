-- A day of the calendar crate, and its day number.
use Rattle.std.proofs.Common.{◌≡◌, ℕ, ℤ, pos, ◌≤◌, true, Some, subst}
use Rattle.std.proofs.lemmas.Bool.{le-leb}
use Rattle.jiff_core.specs.Calendar.{days_in_month}
use Rattle.jiff_core.specs.Date.{epoch_day}
use Rattle.jiff_core.specs.declared.civil.date.Date.{Date}
use Rattle.schema_read.specs.Dates.{is_day, day_number}

is_day-true : (y m d : ℕ) → 1 ≤ y → 1 ≤ m → m ≤ 12 → 1 ≤ d → d ≤ days_in_month (pos y) m → is_day y m d ≡ true
is_day-true y m d year_in month_low month_high day_low day_high = rw (le-leb 1 y year_in, le-leb 1 m month_low, le-leb m 12 month_high, le-leb 1 d day_low, le-leb d (days_in_month (pos y) m) day_high)

-- the day number of a date that there is
pub day_number-date : (y m d : ℕ) (date : Date) → 1 ≤ y → date.year ≡ pos y → date.month ≡ m → date.day ≡ d → Some (epoch_day date) ≡ day_number y m d
day_number-date y m d date year_in year month day =
    let day_high : d ≤ days_in_month (pos y) m =
    subst (λ (x : ℕ). x ≤ days_in_month (pos y) m) day (subst (λ (x : ℤ). date.day ≤ days_in_month x m) year (subst (λ (x : ℕ). date.day ≤ days_in_month date.year x) month date.day_in.1)) in
    let there : is_day y m d ≡ true = is_day-true y m d year_in (rw (← month) date.month_in.0) (rw (← month) date.month_in.1) (rw (← day) date.day_in.0) day_high in
    rw (there, year, month, day)
