-- What is kept of a column's seeds.
use Rattle.std.specs.Prelude.{◌≡◌, ◌<◌, ℕ, List, length, slice_index}
use Rattle.philox_seeds.specs.SeedTree.{unit_seed}

-- the seeds of the first units below a column's
abbrev pub AreUnitSeeds : ℕ → List ℕ → Type 0
AreUnitSeeds seed kept = (unit : ℕ) → unit < length kept → slice_index kept unit ≡ unit_seed seed unit
