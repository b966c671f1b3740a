-- A table's births, and its cohorts: the rows that are born at one unit, with the ordinals after those born before.
use Rattle.std.specs.Prelude.{ℕ, zero, suc, ◌+◌, ◌-◌, ◌<◌, ◌≤◌, if◌then◌else◌, nat_le, nat_lt, List}
use Rattle.std.specs.List.{fold}
use Rattle.cohort_sizes.specs.declared.rate.Rate.{Rate}

-- how many rows of a table are born: at unit 0, and by which rates at later units
pub record Births : Type 0 where
  pub rows : ℕ
  pub rates : List Rate

-- how many rows are born at a unit by a rate that has begun by it, else as many as by those before
abbrev pub with_rate : ℕ → ℕ → Rate → ℕ
with_rate unit before rate = if nat_le rate.from unit then rate.rows else before

-- how many are born at a unit by the last rate that has begun by it; 0 where none has
abbrev pub rate_at : List Rate → ℕ → ℕ
rate_at rates unit = fold (with_rate unit) 0 rates

-- how many rows are born at a unit
abbrev pub cohort_size : Births → ℕ → ℕ
cohort_size births zero = births.rows
cohort_size births (suc unit) = rate_at births.rates (suc unit)

-- the first ordinal of a unit's cohort: how many rows are born before the unit
abbrev pub first_ordinal : Births → ℕ → ℕ
first_ordinal births zero = 0
first_ordinal births (suc unit) = first_ordinal births unit + cohort_size births unit

-- how many rows are born by a unit, at it or before
abbrev pub born_count : Births → ℕ → ℕ
born_count births unit = first_ordinal births (unit + 1)

-- an ordinal lies in the cohort of a unit
pub record LiesIn (births : Births) (unit ordinal : ℕ) : Type 0 where
  pub begun : first_ordinal births unit ≤ ordinal
  pub not_ended : ordinal < first_ordinal births unit + cohort_size births unit

-- the birth unit of an ordinal that is born by a last unit: the last one, where no unit before it has the ordinal
unfoldable pub birth : Births → ℕ → ℕ → ℕ
birth births zero ordinal = 0
birth births (suc unit) ordinal = if nat_lt ordinal (born_count births unit) then birth births unit ordinal else suc unit

-- the index of such an ordinal in its cohort
abbrev pub index_at : Births → ℕ → ℕ → ℕ
index_at births last ordinal = ordinal - first_ordinal births (birth births last ordinal)
