-- What lookups show of parents, and what can be read of any row in columns that don't move.
use Rattle.std.specs.Prelude.{◌≡◌, ◌<◌, ◌≤◌, ℕ, ℤ, List, Option, length}
use Rattle.cohort_sizes.specs.Births.{cohort_size}
use Rattle.row_text.specs.Fields.{field_text}
use Rattle.schema_plan.specs.declared.ready.ReadyKind.TheVariants as kind
use Rattle.schema_plan.specs.declared.ready.ReadyLookup.{ReadyLookup}
use Rattle.schema_facts.specs.Dictionaries.{Project}
use Rattle.schema_facts.specs.Layout.{column_at, layout_of}
use Rattle.schema_plan.specs.Limits.{IsInLimits, IsTableInLimits}
use Rattle.schema_plan.specs.Ready.{ready_kind}
use Rattle.draw_values.specs.CohortValues.{ValuesOf}
use Rattle.draw_values.specs.declared.leaf_numbers.Number.{Number}
use Rattle.life_intervals.specs.Generator.{generator_of, last_unit}
use Rattle.life_intervals.specs.Intervals.{row_at}
use Rattle.row_lines.specs.CohortLines.{LinesOf, layout_for, values_at}
use Rattle.row_lines.specs.Derived.{day_shown, number_shown}
use Rattle.row_lines.specs.Lines.{field_in_table}

-- a lookup is ready in the column at a place
pub record IsLookupOf (lines : LinesOf) (column : ℕ) (lookup : ReadyLookup) : Type 0 where
  pub within : column < length (layout_for lines).columns
  pub is : ready_kind (layout_of lines.plan).delimiter (column_at (layout_for lines).columns column).kind ≡ kind.Lookup lookup

-- what the row of an ordinal that is born by a unit holds then in a column that may be looked up, as it is written
abbrev pub text_held : Project → ℕ → ℕ → ℕ → ℕ → List ℕ
text_held plan table unit ordinal column =
    field_text (layout_of plan).delimiter
    (field_in_table (generator_of plan) table (row_at (generator_of plan) table unit ordinal) column)

-- the day that it shows there, and the number that it holds
abbrev pub day_held : Project → ℕ → ℕ → ℕ → ℕ → Option ℤ
day_held plan table unit ordinal column = day_shown (generator_of plan) table (row_at (generator_of plan) table unit ordinal) column

abbrev pub number_held : Project → ℕ → ℕ → ℕ → ℕ → Option Number
number_held plan table unit ordinal column = number_shown (generator_of plan) table (row_at (generator_of plan) table unit ordinal) column

-- ---- a row whose columns are read

-- the row of an ordinal, at a unit, in the table at a place
pub record StillRowOf : Type 0 where
  pub plan : Project
  pub table : ℕ
  pub unit : ℕ
  pub ordinal : ℕ

-- what is kept of it: the fields of its cohort, the values of those that never changed, and its index in the cohort
pub record IsStillRow (lines : LinesOf) (values : ValuesOf) (index : ℕ) : Type 0 where
  pub sound : IsInLimits lines.plan
  pub limits : IsTableInLimits (last_unit lines.plan) (layout_for lines)
  pub table : lines.table < length lines.plan.schema.tables
  pub born : lines.born ≤ lines.unit
  pub unit : lines.unit ≤ last_unit lines.plan
  pub inside : index < cohort_size (layout_for lines).births lines.born
  pub values_are : values ≡ values_at lines lines.born
