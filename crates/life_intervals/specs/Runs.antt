-- Runs: rows of a table, with the units of their births, in lists of one length.
use Rattle.std.specs.Prelude.{◌≡◌, ◌<◌, ◌≤◌, ℕ, List, get_or, length}
use Rattle.cohort_sizes.specs.Births.{LiesIn}
use Rattle.schema_facts.specs.Dictionaries.{Project}
use Rattle.life_intervals.specs.Generator.{table_of}

-- rows of the table at a place, by their ordinals, that are born by a unit, each at the unit that stands beside it
pub record IsRun (plan : Project) (table unit : ℕ) (ordinals births : List ℕ) : Type 0 where
  pub same_length : length births ≡ length ordinals
  pub lies : (i : ℕ) → i < length ordinals → LiesIn (table_of plan table).births (get_or births i 0) (get_or ordinals i 0)
  pub born : (i : ℕ) → i < length ordinals → get_or births i 0 ≤ unit
