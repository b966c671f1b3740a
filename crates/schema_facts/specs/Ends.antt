-- Numbers and days between the ends that the facts of a column tell.
use Rattle.std.specs.Prelude.{◌≡◌, ◌-◌, ◌^◌, ℤ, pos, neg_ℤ, ◌+ℤ◌, ◌*ℤ◌, ◌≤ℤ◌, Some}
use Rattle.schema_facts.specs.declared.days.Days.{Days}
use Rattle.schema_facts.specs.declared.numbers.Numbers.{Numbers}
use Rattle.schema_facts.specs.Days.{days_after}
use Rattle.schema_facts.specs.Numbers.{plus, scaled, times}

-- a number between two others
pub record IsBetween (least greatest n : ℤ) : Type 0 where
  pub from : least ≤ℤ n
  pub to : n ≤ℤ greatest

-- ---- numbers

-- from -(2^63 - 1) to 2^63 - 1
abbrev pub IsInRange : ℤ → Type 0
IsInRange n = IsBetween (neg_ℤ (pos (2 ^ 63 - 1))) (pos (2 ^ 63 - 1)) n

-- a number within what facts tell
abbrev pub IsWithin : Numbers → ℤ → Type 0
IsWithin numbers n = IsBetween numbers.least numbers.greatest n

-- a number with the digits of a sum, where it is that of an operand with fewer
abbrev pub with_digits : Numbers → Numbers → ℤ → ℤ
with_digits sum operand n = scaled (sum.decimals - operand.decimals) n

-- where facts tell what a sum so far and one more operand give, the operand is in range with the digits of the sum, and so is the sum with
-- it, which is within what the facts tell
abbrev pub AddsWithin : Numbers → Numbers → Numbers → Type 0
AddsWithin so_far operand total = plus so_far operand ≡ Some total → (x y : ℤ) → IsWithin so_far x → IsWithin operand y →
    IsInRange (with_digits so_far operand y) × IsInRange (x +ℤ with_digits so_far operand y) × IsWithin total (x +ℤ with_digits so_far operand y)

-- the same of a product
abbrev pub MultipliesWithin : Numbers → Numbers → Numbers → Type 0
MultipliesWithin so_far operand total = times so_far operand ≡ Some total → (x y : ℤ) → IsWithin so_far x → IsWithin operand y →
    IsInRange y × IsInRange (x *ℤ y) × IsWithin total (x *ℤ y)

-- ---- days

-- from 0001-01-01 to 9999-12-31
abbrev pub IsInCalendar : ℤ → Type 0
IsInCalendar day = IsBetween (neg_ℤ (pos 719162)) (pos 2932896) day

-- a day within what facts tell
abbrev pub IsShown : Days → ℤ → Type 0
IsShown days day = IsBetween days.least days.greatest day

-- where facts tell which days follow others by lo to hi days, a day that follows one of these is among them, and in the calendar
abbrev pub FollowsWithin : Days → ℤ → ℤ → Days → Type 0
FollowsWithin days lo hi later = days_after lo hi days ≡ Some later → (day by : ℤ) → IsShown days day → IsBetween lo hi by →
    IsShown later (day +ℤ by) × IsInCalendar (day +ℤ by)
