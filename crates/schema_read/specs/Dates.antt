-- Dates as ten bytes, YYYY-MM-DD, and their day numbers (the calendar of ISO 8601; day 0 is 1970-01-01).
use Rattle.std.specs.Prelude.{ℕ, ℤ, pos, ◌+◌, ◌-◌, ◌*◌, List, [], ◌∷◌, length, slice_index, Bool, ◌&&◌, ◌==◌, nat_le, Option, Some, None, if◌then◌else◌}
use Rattle.std.specs.List.{list_all}
use Rattle.jiff_core.specs.Calendar.{days_in_month, days_from_civil}

-- the byte is 0 to 9
abbrev pub is_digit : ℕ → Bool
is_digit b = nat_le 48 b && nat_le b 57

-- the digit at a place
abbrev pub digit : List ℕ → ℕ → ℕ
digit bytes i = slice_index bytes i - 48

abbrev pub year_of : List ℕ → ℕ
year_of bytes = 1000 * digit bytes 0 + 100 * digit bytes 1 + 10 * digit bytes 2 + digit bytes 3

abbrev pub month_of : List ℕ → ℕ
month_of bytes = 10 * digit bytes 5 + digit bytes 6

abbrev pub day_of : List ℕ → ℕ
day_of bytes = 10 * digit bytes 8 + digit bytes 9

-- ten bytes: four digits, -, two digits, - and two digits
abbrev pub is_date_text : List ℕ → Bool
is_date_text bytes = length bytes == 10 && list_all (λ i. is_digit (slice_index bytes i)) (0 ∷ 1 ∷ 2 ∷ 3 ∷ 5 ∷ 6 ∷ 8 ∷ 9 ∷ []) && slice_index bytes 4 == 45 && slice_index bytes 7 == 45

-- a year from 1 on has this month, and the month this day
abbrev pub is_day : ℕ → ℕ → ℕ → Bool
is_day y m d = nat_le 1 y && (nat_le 1 m && nat_le m 12) && (nat_le 1 d && nat_le d (days_in_month (pos y) m))

-- the day number of a day of the calendar
abbrev pub day_number : ℕ → ℕ → ℕ → Option ℤ
day_number y m d = if is_day y m d then Some (days_from_civil (pos y) m d) else None

-- the day number of the day that the bytes name
abbrev pub day_named : List ℕ → Option ℤ
day_named bytes = if is_date_text bytes then day_number (year_of bytes) (month_of bytes) (day_of bytes) else None
