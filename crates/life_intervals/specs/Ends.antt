-- Ends: the units at which rows die, beside their ordinals, as far as these come by a unit.
use Rattle.std.specs.Prelude.{◌≡◌, ◌<◌, ◌≤◌, ℕ, ◌+◌, List, Option, Some, None, get_or, length, min}

-- the earlier of an end and a death; None never comes
abbrev pub earlier_end : ℕ → Option ℕ → ℕ
earlier_end end None = end
earlier_end end (Some death) = min end death

-- each of some rows has an end, by the unit after a unit
pub record AreEnds (unit : ℕ) (ordinals ends : List ℕ) : Type 0 where
  pub same_length : length ends ≡ length ordinals
  pub within : (i : ℕ) → i < length ordinals → get_or ends i 0 ≤ unit + 1

-- each end is the earlier of the one before it and of the death of its row
pub record AreEarlier (death : ℕ → Option ℕ) (ordinals before ends : List ℕ) : Type 0 where
  pub same_length : length ends ≡ length ordinals
  pub each : (i : ℕ) → i < length ordinals → get_or ends i 0 ≡ earlier_end (get_or before i 0) (death (get_or ordinals i 0))
