-- Rows of a table that are found.
use Rattle.std.specs.Prelude.{◌≡◌, ◌<◌, ◌≤◌, ℕ, ◌+◌}
use Rattle.cohort_sizes.specs.Births.{cohort_size, first_ordinal}
use Rattle.schema_facts.specs.Dictionaries.{Project}
use Rattle.life_intervals.specs.declared.found.FoundRow.{FoundRow}
use Rattle.life_intervals.specs.CohortKeys.{CohortOf}
use Rattle.life_intervals.specs.Generator.{last_unit, table_of}

-- the row has its index in the cohort that is born at its unit, in the table at a place
pub record IsFound (plan : Project) (table : ℕ) (row : FoundRow) : Type 0 where
  pub born : row.born ≤ last_unit plan
  pub index : row.index < cohort_size (table_of plan table).births row.born
  pub ordinal : row.ordinal ≡ first_ordinal (table_of plan table).births row.born + row.index

-- the cohort of a row
abbrev pub cohort_of_row : Project → ℕ → FoundRow → CohortOf
cohort_of_row plan table row = record { plan = plan; table = table; unit = row.born }
