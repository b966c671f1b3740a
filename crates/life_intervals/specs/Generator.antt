-- What generated data follow: the tables, the order of places in each cohort, the draws, and the byte between two fields.
use Rattle.std.specs.Prelude.{ℕ, List}
use Rattle.philox_seeds.specs.SeedTree.{deal_seed, field_draw, permutation_seed}
use Rattle.id_permutation.specs.Placement as placement
use Rattle.cohort_sizes.specs.Births.{born_count, cohort_size}
use Rattle.schema_facts.specs.Dictionaries.{Project}
use Rattle.schema_facts.specs.Layout.{Layout, layout_of, TableLayout, table_at}

-- the orders of a schema's cohorts: the place of an index, for a table, a purpose, a unit and an index in the unit's cohort; and the seed of
-- the permutation that deals candidates to a cohort, for a table, the column of a reference and a unit
pub record Order : Type 0 where
  pub place : ℕ → ℕ → ℕ → ℕ → ℕ
  pub deal : ℕ → ℕ → ℕ → ℕ

-- a draw, for a table, a column, a unit, an ordinal and the draw's number
abbrev pub Draw : Type 0
Draw = ℕ → ℕ → ℕ → ℕ → ℕ → ℕ

-- the tables in schema order, and what is drawn. The last unit is no part of it: data of a unit don't depend on how many follow
pub record Generator : Type 0 where
  pub tables : List TableLayout
  pub order : Order
  pub draw : Draw
  pub delimiter : ℕ

-- the orders in which each index is its own place
abbrev pub in_place : Order
in_place = record { place = λ table purpose unit index. index; deal = λ table column unit. 0 }

-- the orders that the project's seed gives: the place of an index among those of its cohort is that of the cohort's permutation
abbrev pub seeded_order : ℕ → List TableLayout → Order
seeded_order seed tables = record {
  place = λ table purpose unit index. placement.place (cohort_size (table_at tables table).births unit) (permutation_seed seed table purpose unit) index;
  deal = deal_seed seed;
}

-- the generator of a layout
abbrev pub generator_by : Layout → Generator
generator_by layout = record {
  tables = layout.tables;
  order = seeded_order layout.seed layout.tables;
  draw = field_draw layout.seed;
  delimiter = layout.delimiter;
}

-- the generator of a schema
abbrev pub generator_of : Project → Generator
generator_of project = generator_by (layout_of project)

-- the layout of the table at a place of a schema, counted from 0
abbrev pub table_of : Project → ℕ → TableLayout
table_of project place = table_at (layout_of project).tables place

-- the last unit of a schema
abbrev pub last_unit : Project → ℕ
last_unit project = (layout_of project).units

-- how many rows of the table at a place are born in all units of a schema
abbrev pub rows_in_all : Project → ℕ → ℕ
rows_in_all project place = born_count (table_of project place).births (last_unit project)
