-- How the group of a number is found: by a table of all numbers, or by slices of the numbers, of which each knows a group that none
-- of its numbers selects a group before.
use Rattle.std.specs.Prelude.{◌≡◌, ℕ, ◌*◌, ◌/◌, ◌<◌, ◌≤◌, ◌^◌, List, get_or, length, sum}
use Rattle.weight_tables.specs.PrefixSums.{ArePrefixSums, weights_of}
use Rattle.weight_tables.specs.Weights.{prefix_sum, selected}

-- the table has the group that each number selects, or nothing
pub record IsTable (weights table : List ℕ) : Type 0 where
  pub whole : 0 < length table → length table ≡ sum weights
  pub each : (x : ℕ) → x < length table → get_or table x 0 ≡ selected weights x

-- all groups before this one are passed by the number
abbrev pub ArePassed : List ℕ → ℕ → ℕ → Type 0
ArePassed weights group x = (h : ℕ) → h < group → prefix_sum weights h ≤ x

-- each slice of 2^shift numbers has a first group, before which all groups are passed by the slice's first number
pub record IsGuide (weights firsts : List ℕ) (shift : ℕ) : Type 0 where
  pub narrow : shift < 64
  pub all : (x : ℕ) → x < sum weights → x / 2 ^ shift < length firsts
  pub each : (slice : ℕ) → slice < length firsts → ArePassed weights (get_or firsts slice 0) (slice * 2 ^ shift)

-- all that is kept of weights
pub record AreFinders (sums table firsts : List ℕ) (shift : ℕ) : Type 0 where
  pub kept : ArePrefixSums sums
  pub tabled : IsTable (weights_of sums) table
  pub guided : IsGuide (weights_of sums) firsts shift
