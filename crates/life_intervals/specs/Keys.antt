-- The keys of a table's rows.
use Rattle.std.specs.Prelude.{ℕ, ◌+◌, ◌-◌, ◌<◌, if◌then◌else◌}
use Rattle.philox_seeds.specs.SeedTree as seeds
use Rattle.id_permutation.specs.Walk.{IsBijectionBelow}
use Rattle.cohort_sizes.specs.Births.{birth, cohort_size, first_ordinal}
use Rattle.schema_facts.specs.Layout.{table_at}
use Rattle.life_intervals.specs.Generator.{Generator}

-- the place of an index among the keys of a unit's cohort of the table at a place: its own where they aren't scrambled
abbrev pub place_in_cohort : Generator → ℕ → ℕ → ℕ → ℕ
place_in_cohort generator place unit index =
    if (table_at generator.tables place).key.scramble then generator.order.place place seeds.key_column unit index else index

-- the key of the row with an index in a unit's cohort of the table at a place
abbrev pub key_in_cohort : Generator → ℕ → ℕ → ℕ → ℕ
key_in_cohort generator place unit index =
    let table = table_at generator.tables place in
    table.key.base + first_ordinal table.births unit + place_in_cohort generator place unit index

-- the key of the row with an ordinal that is born by a last unit
unfoldable pub key_of : Generator → ℕ → ℕ → ℕ → ℕ
key_of generator place last ordinal =
    let births = (table_at generator.tables place).births in
    key_in_cohort generator place (birth births last ordinal) (ordinal - first_ordinal births (birth births last ordinal))

-- for each purpose, the order gives the rows of each cohort of the table at a place the numbers below the cohort's size, each to one
abbrev pub OrdersCohorts : Generator → ℕ → Type 0
OrdersCohorts generator place =
    (purpose unit : ℕ) → 0 < cohort_size (table_at generator.tables place).births unit →
    IsBijectionBelow (cohort_size (table_at generator.tables place).births unit) (generator.order.place place purpose unit)
