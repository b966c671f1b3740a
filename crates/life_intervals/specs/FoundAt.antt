-- The rows of a cohort to which something comes at a unit, found by their places.
use Rattle.std.specs.Prelude.{◌≡◌, ℕ, ◌+◌, ◌%◌, ◌==◌, List, ◌++◌, filter}
use Rattle.std.specs.List.{range_with_len}
use Rattle.std.specs.List.Sorted.{IsPermutation}
use Rattle.id_permutation.specs.Order.{number_at}
use Rattle.cohort_sizes.specs.Births.{birth, first_ordinal, index_at}
use Rattle.schema_facts.specs.Dictionaries.{Project}
use Rattle.schema_facts.specs.Layout.{table_at}
use Rattle.life_intervals.specs.declared.orders.Purpose.{Purpose}
use Rattle.life_intervals.specs.Changes.{due_by}
use Rattle.life_intervals.specs.CohortOrders.{order_for, place_for}
use Rattle.life_intervals.specs.Generator.{Generator, generator_of, table_of}
use Rattle.life_intervals.specs.Intervals.{is_at, newborn, own_death}

-- the last unit up to another at which the row of an ordinal that is born by it is due, or its birth
abbrev pub due_unit : Generator → ℕ → ℕ → ℕ → ℕ
due_unit generator place unit ordinal =
    let table = table_at generator.tables place in
    due_by generator.order place table (birth table.births unit ordinal) (index_at table.births unit ordinal) unit

-- the rows of the cohort of unit `born` whose own lives end at a unit, in rising order
abbrev pub ending_at : Project → ℕ → ℕ → ℕ → List ℕ
ending_at plan table born unit =
    filter (λ ordinal. is_at (own_death (generator_of plan) table unit ordinal) unit) (newborn (generator_of plan) table born)

-- those that are due at a unit
abbrev pub due_at : Project → ℕ → ℕ → ℕ → List ℕ
due_at plan table born unit =
    filter (λ ordinal. due_unit (generator_of plan) table unit ordinal == unit) (newborn (generator_of plan) table born)

-- ---- how they are found

-- the places below a size that leave a remainder
abbrev pub places_leaving : ℕ → ℕ → ℕ → List ℕ
places_leaving modulus remainder size = filter (λ place. place % modulus == remainder) (range_with_len 0 size)

-- the row of a cohort that has a place for a purpose
abbrev pub row_at_place : Project → ℕ → Purpose → ℕ → ℕ → ℕ
row_at_place plan table purpose born place =
    first_ordinal (table_of plan table).births born + number_at (order_for plan table purpose born) place

-- the rows of the cohort whose places leave a remainder, in rising order
abbrev pub rows_leaving : Project → ℕ → Purpose → ℕ → ℕ → ℕ → List ℕ
rows_leaving plan table purpose born modulus remainder =
    filter (λ ordinal. place_for plan table purpose born ordinal % modulus == remainder) (newborn (generator_of plan) table born)

-- a list is another with something after it
pub record GoesOn (before after : List ℕ) : Type 0 where
  pub behind : List ℕ
  pub is : after ≡ before ++ behind

-- a list is another with some rows after it, each once, in some order
pub record AreAppended (rows before after : List ℕ) : Type 0 where
  pub behind : List ℕ
  pub is : after ≡ before ++ behind
  pub same : IsPermutation rows behind
