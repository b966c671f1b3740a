-- The values of the rows of a table that are born at one unit and changed last at another, and what the code keeps of them.
use Rattle.std.specs.Prelude.{◌≡◌, ◌<◌, ◌≤◌, length, ℕ, ℤ, List, Bool, Option, Some, None}
use Rattle.philox_seeds.specs.SeedTree.{table_seed}
use Rattle.schema_plan.specs.declared.ready.ReadyColumn.{ReadyColumn}
use Rattle.schema_facts.specs.declared.column_facts.ColumnFacts.{ColumnFacts}
use Rattle.schema_facts.specs.declared.days.Days.{Days}
use Rattle.schema_facts.specs.declared.numbers.Numbers.{Numbers}
use Rattle.schema_facts.specs.ColumnFacts.{field_facts}
use Rattle.schema_facts.specs.Ends.{IsShown, IsWithin}
use Rattle.schema_facts.specs.Layout.{column_at, layout_of, table_at, TableLayout}
use Rattle.schema_plan.specs.Limits.{IsTableInLimits}
use Rattle.schema_facts.specs.Dictionaries.{Project}
use Rattle.schema_plan.specs.Ready.{ready_columns}
use Rattle.draw_values.specs.declared.cohort_values.Seeds.{Seeds}
use Rattle.draw_values.specs.declared.cohort_values.Seeds.TheVariants as seeds
use Rattle.draw_values.specs.declared.leaf_numbers.Number.{Number}
use Rattle.draw_values.specs.declared.values.RowAt.{RowAt}
use Rattle.draw_values.specs.Runs.{AreColumnsOf}
use Rattle.draw_values.specs.Values.{draws_at, is_null, own_day, own_number, size_at, value_at}

-- the values of the rows that are born at a unit and changed last at another, in the table at a place
pub record ValuesOf : Type 0 where
  pub plan : Project
  pub table : ℕ
  pub born : ℕ
  pub changed : ℕ

-- the layout of the table
abbrev pub table_for : ValuesOf → TableLayout
table_for values = table_at (layout_of values.plan).tables values.table

-- the row with an ordinal
abbrev pub row_for : ValuesOf → ℕ → RowAt
row_for values ordinal = record { ordinal = ordinal; born = values.born; changed = values.changed }

-- what it holds in the column at a place
abbrev pub value_for : ValuesOf → ℕ → ℕ → Option (List ℕ)
value_for values column ordinal = value_at (layout_of values.plan) values.table column (row_for values ordinal)

-- whether its field in the column at a place is drawn to be null
abbrev pub is_null_for : ValuesOf → ℕ → ℕ → Bool
is_null_for values column ordinal =
    is_null (column_at (table_for values).columns column).null
    (draws_at (layout_of values.plan) values.table (row_for values ordinal) column)

-- the day that it shows in the column at a place by its units or its own draws, where its field isn't null
abbrev pub day_for : ValuesOf → ℕ → ℕ → Option ℤ
day_for values column ordinal =
    own_day (row_for values ordinal) (draws_at (layout_of values.plan) values.table (row_for values ordinal) column)
    (column_at (table_for values).columns column).kind

-- the number that it draws there, where its field isn't null
abbrev pub number_for : ValuesOf → ℕ → ℕ → Option Number
number_for values column ordinal =
    own_number (draws_at (layout_of values.plan) values.table (row_for values ordinal) column) (column_at (table_for values).columns column).kind

-- a day that a column may show, and a number that it may hold, by what its facts tell; none where it isn't dated or numeric
abbrev pub IsDayOf : Option Days → ℤ → Type 0
IsDayOf None day = ⊥
IsDayOf (Some days) day = IsShown days day

abbrev pub IsNumberOf : Option Numbers → Number → Type 0
IsNumberOf None number = ⊥
IsNumberOf (Some numbers) number = (number.decimals ≡ numbers.decimals) × IsWithin numbers number.value

-- the facts of the column at a place
abbrev pub facts_for : ValuesOf → ℕ → ColumnFacts
facts_for values column = field_facts (layout_of values.plan) values.table column

-- what a field of the column at a place takes at most, in bytes
abbrev pub value_size_for : ValuesOf → ℕ → ℕ
value_size_for values column = size_at (layout_of values.plan) values.table column

-- what the seeds of the columns are taken from: the seed of the table, or its prepared columns
abbrev pub AreSeedsOf : ValuesOf → Seeds → Type 0
AreSeedsOf values (seeds.Table seed) = seed ≡ table_seed (layout_of values.plan).seed values.table
AreSeedsOf values (seeds.Columns columns) = AreColumnsOf values.plan values.table columns.now

-- what is kept is of the table's columns, at units of the plan
pub record AreValuesOf (values : ValuesOf) (ready : List ReadyColumn) (taken : Seeds) : Type 0 where
  pub columns : ready ≡ ready_columns (layout_of values.plan) values.table
  pub table : values.table < length values.plan.schema.tables
  pub limits : IsTableInLimits (layout_of values.plan).units (table_for values)
  pub unit_limit : (layout_of values.plan).units ≤ 10000
  pub born_limit : values.born ≤ (layout_of values.plan).units
  pub changed_limit : values.changed ≤ (layout_of values.plan).units
  pub seeds_are : AreSeedsOf values taken
