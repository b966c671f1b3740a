-- What a unit's source tells, and the statements by ordinals.
use Rattle.std.specs.Prelude.{◌≡◌, ◌<◌, ◌≤◌, ℕ, List, length, map}
use Rattle.cohort_sizes.specs.Births.{cohort_size, first_ordinal}
use Rattle.cohort_sizes.specs.declared.cohort.Cohort.{Cohort}
use Rattle.schema_facts.specs.Dictionaries.{Project}
use Rattle.life_intervals.specs.Generator.{generator_of, last_unit, table_of}
use Rattle.life_intervals.specs.Intervals.{row_at}
use Rattle.life_intervals.specs.Keys.{key_of}
use Rattle.life_intervals.specs.Rows.{Row}
use Rattle.life_intervals.specs.Streams.{deleted, updated}
use Rattle.row_keeper.specs.Kept.{Statement, drop_row}
use Rattle.keeper_play.specs.Statements.{put_of}

-- what a unit does to a table: the ordinals of the rows that it deletes and of those that it updates, and the cohort that it inserts
pub record Changes : Type 0 where
  pub deleted : List ℕ
  pub updated : List ℕ
  pub inserted : Cohort

-- that of the table at a place of a plan
abbrev pub changes_of : Project → ℕ → ℕ → Changes
changes_of plan unit place = record {
  deleted = map (λ (row : Row). row.ordinal) (deleted (generator_of plan) place unit);
  updated = map (λ (row : Row). row.ordinal) (updated (generator_of plan) place unit);
  inserted = record {
    first = first_ordinal (table_of plan place).births unit;
    size = cohort_size (table_of plan place).births unit;
  };
}

-- so many tables are told of, and of each table of the plan what the unit does to it
pub record TellsUnit (plan : Project) (unit tables : ℕ) (changes : ℕ → Changes) : Type 0 where
  pub all : length plan.schema.tables ≤ tables
  pub each : (place : ℕ) → place < length plan.schema.tables → changes place ≡ changes_of plan unit place

-- the statement that puts the row of an ordinal as it is at a unit, and the one that drops it
abbrev pub put_at : Project → ℕ → ℕ → ℕ → Statement
put_at plan unit table ordinal =
    put_of (generator_of plan) unit table (row_at (generator_of plan) table unit ordinal)

abbrev pub drop_at : Project → ℕ → ℕ → Statement
drop_at plan table ordinal = drop_row table (key_of (generator_of plan) table (last_unit plan) ordinal)
