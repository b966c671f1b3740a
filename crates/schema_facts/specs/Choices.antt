-- Numbers from one to another, among which a draw chooses.
use Rattle.std.specs.Prelude.{ℕ, ℤ, ◌+◌, ◌/◌, ◌-ℤ◌}
use Rattle.schema_facts.specs.Counts.{count}

-- how many numbers stand from lo to hi in steps, lo being the first
abbrev pub choices : ℤ → ℤ → ℕ → ℕ
choices lo hi step = count (hi -ℤ lo) / step + 1
