-- The rows that a unit deletes and updates, and the cohort that it inserts, by their ordinals.
use Rattle.std.specs.Prelude.{ℕ, List, length, map}
use Rattle.std.specs.List.{range_with_len}
use Rattle.cohort_sizes.specs.Births.{cohort_size, first_ordinal}
use Rattle.schema_facts.specs.Dictionaries.{Project}
use Rattle.cohort_sizes.specs.declared.cohort.Cohort.{Cohort}
use Rattle.life_intervals.specs.Generator.{generator_of, table_of}
use Rattle.life_intervals.specs.Rows.{Row}
use Rattle.life_intervals.specs.Streams.{deleted, updated}

-- of a table: the ordinals of the rows that a unit deletes and of those that it updates, in rising order, and its cohort
pub record TableLists : Type 0 where
  pub deleted : List ℕ
  pub updated : List ℕ
  pub inserted : Cohort

-- of each table, in order
pub record UnitLists : Type 0 where
  pub unit : ℕ
  pub tables : List TableLists

-- the ordinals of rows
abbrev pub ordinals : List Row → List ℕ
ordinals rows = map (λ (row : Row). row.ordinal) rows

-- what the step to a unit deletes, updates and inserts in the table at a place
abbrev pub table_lists : Project → ℕ → ℕ → TableLists
table_lists plan unit place = record {
  deleted = ordinals (deleted (generator_of plan) place unit);
  updated = ordinals (updated (generator_of plan) place unit);
  inserted = record {
    first = first_ordinal (table_of plan place).births unit;
    size = cohort_size (table_of plan place).births unit;
  };
}

-- and in each
abbrev pub unit_lists : Project → ℕ → UnitLists
unit_lists plan unit = record {
  unit = unit;
  tables = map (table_lists plan unit) (range_with_len 0 (length plan.schema.tables));
}
