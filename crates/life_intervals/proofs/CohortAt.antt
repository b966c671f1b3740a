-- The rows of a cohort by their indices: their ordinals, lives and changes.
use Rattle.std.specs.Prelude.{ℕ, ◌+◌, Bool, Option}
use Rattle.cohort_sizes.specs.Births.{cohort_size, first_ordinal}
use Rattle.schema_facts.specs.Dictionaries.{Project}
use Rattle.life_intervals.specs.declared.lives.Survival.{Survival}
use Rattle.life_intervals.specs.Changes.{due_by}
use Rattle.life_intervals.specs.CohortKeys.{CohortOf}
use Rattle.life_intervals.specs.CohortLives.{survival_at}
use Rattle.life_intervals.specs.Generator.{generator_of, table_of}
use Rattle.life_intervals.specs.Intervals.{change_unit, death, is_live, own_death}

-- the cohort that is born at a unit in the table at a place, as it is at another unit
pub record CohortAt : Type 0 where
  pub plan : Project
  pub table : ℕ
  pub born : ℕ
  pub unit : ℕ

-- the cohort, whatever the other unit
abbrev pub cohort_of : CohortAt → CohortOf
cohort_of cohort = record { plan = cohort.plan; table = cohort.table; unit = cohort.born }

-- the ordinal of the row with an index in the cohort
abbrev pub ordinal_in : CohortAt → ℕ → ℕ
ordinal_in cohort index = first_ordinal (table_of cohort.plan cohort.table).births cohort.born + index

-- how many rows it has
abbrev pub size_of : CohortAt → ℕ
size_of cohort = cohort_size (table_of cohort.plan cohort.table).births cohort.born

-- what they say of the cohort
abbrev pub survival_of : CohortAt → Survival
survival_of cohort = survival_at cohort.plan cohort.table cohort.born cohort.unit

-- the unit at which the own life of the row with an index ends; None where it has no end of its own
abbrev pub own_death_in : CohortAt → ℕ → Option ℕ
own_death_in cohort index = own_death (generator_of cohort.plan) cohort.table cohort.unit (ordinal_in cohort index)

-- the unit at which it dies; None where it never does
abbrev pub death_in : CohortAt → ℕ → Option ℕ
death_in cohort index = death (generator_of cohort.plan) cohort.table cohort.unit (ordinal_in cohort index)

-- whether it is alive
abbrev pub is_live_in : CohortAt → ℕ → Bool
is_live_in cohort index = is_live (generator_of cohort.plan) cohort.table cohort.unit (ordinal_in cohort index)

-- the last unit at which it is due, or its birth
abbrev pub due_in : CohortAt → ℕ → ℕ
due_in cohort index =
    due_by (generator_of cohort.plan).order cohort.table (table_of cohort.plan cohort.table) cohort.born index cohort.unit

-- the unit of its last change
abbrev pub change_in : CohortAt → ℕ → ℕ
change_in cohort index = change_unit (generator_of cohort.plan) cohort.table cohort.unit (ordinal_in cohort index)
