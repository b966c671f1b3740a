-- Cohorts: the rows that are born at one unit.
use Rattle.std.specs.Prelude.{◌≡◌, ◌≤◌, ℕ, ◌+◌, ◌^◌}
use Rattle.cohort_sizes.specs.Births.{cohort_size, first_ordinal}
use Rattle.schema_facts.specs.Dictionaries.{Project}
use Rattle.cohort_sizes.specs.declared.cohort.Cohort.{Cohort}
use Rattle.life_intervals.specs.Generator.{table_of}

-- the cohort that is born at a unit in the table at a place
pub record CohortOf : Type 0 where
  pub plan : Project
  pub table : ℕ
  pub unit : ℕ

-- the first ordinal and the size are those of the cohort, within what a schema allows
pub record IsCohort (plan : Project) (table unit : ℕ) (cohort : Cohort) : Type 0 where
  pub first : cohort.first ≡ first_ordinal (table_of plan table).births unit
  pub size : cohort.size ≡ cohort_size (table_of plan table).births unit
  pub limit : cohort.first + cohort.size ≤ 2 ^ 40
