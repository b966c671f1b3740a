-- The lines of one cohort, and what the code keeps of them.
use Rattle.std.specs.Prelude.{◌≡◌, ◌<◌, ◌≤◌, ℕ, ◌+◌, Bool, List, Option, decimal, false, get_or, if◌then◌else◌, length, sum_by, true}
use Rattle.std.specs.List.{range_with_len}
use Rattle.std.specs.Option.{option_map}
use Rattle.row_text.specs.Fields.{field_text}
use Rattle.cohort_sizes.specs.Births.{first_ordinal}
use Rattle.schema_facts.specs.ColumnFacts.{field_cost}
use Rattle.schema_facts.specs.FieldSizes.{size_of}
use Rattle.schema_facts.specs.Layout.{PartLayout, literal_part, cited_part, KindLayout, key_kind, template_kind, lookup_kind, Layout, TableLayout, column_at, layout_of, table_at}
use Rattle.schema_plan.specs.Limits.{IsInLimits, IsTableInLimits}
use Rattle.schema_facts.specs.Lineage.{lineages, null_cost_of}
use Rattle.schema_facts.specs.Dictionaries.{Project}
use Rattle.schema_plan.specs.declared.ready.ReadyColumn.{ReadyColumn}
use Rattle.schema_plan.specs.Ready.{ready_columns}
use Rattle.draw_values.specs.CohortValues.{ValuesOf}
use Rattle.life_intervals.specs.Generator.{generator_of, last_unit, table_of}
use Rattle.life_intervals.specs.Intervals.{change_unit, is_live, row_at}
use Rattle.life_intervals.specs.Keys.{key_in_cohort, key_of}
use Rattle.life_intervals.specs.CohortParents.{held_in, parent_in}
use Rattle.schema_facts.specs.References.{Reference}
use Rattle.life_intervals.specs.Rows.{Row}
use Rattle.row_lines.specs.Lines.{field, field_in_table, line_of}

-- the lines at a unit of the rows that are born at one, in the table at a place
pub record LinesOf : Type 0 where
  pub plan : Project
  pub table : ℕ
  pub born : ℕ
  pub unit : ℕ

-- the layout of the table
abbrev pub layout_for : LinesOf → TableLayout
layout_for lines = table_of lines.plan lines.table

-- the ordinal of the row with an index in the cohort
abbrev pub ordinal_of : LinesOf → ℕ → ℕ
ordinal_of lines index = first_ordinal (layout_for lines).births lines.born + index

-- the key of the row with an index in the cohort
abbrev pub key_for : LinesOf → ℕ → ℕ
key_for lines index = key_in_cohort (generator_of lines.plan) lines.table lines.born index

-- the ordinal of the parent that it is born with by a reference
abbrev pub parent_for : LinesOf → ℕ → Reference → ℕ
parent_for lines index reference = parent_in (record { plan = lines.plan; table = lines.table; unit = lines.born }) index reference

-- that of the parent that it still has at the unit, and the key of this one; None where it has lost it
abbrev pub held_for : LinesOf → ℕ → Reference → Option ℕ
held_for lines index reference = held_in (record { plan = lines.plan; table = lines.table; unit = lines.born }) index lines.unit reference

abbrev pub held_key_for : LinesOf → ℕ → Reference → Option ℕ
held_key_for lines index reference =
    option_map (key_of (generator_of lines.plan) reference.parent (last_unit lines.plan)) (held_for lines index reference)

-- what it holds in the reference
abbrev pub reference_value : LinesOf → ℕ → Reference → Option (List ℕ)
reference_value lines index reference = option_map decimal (held_key_for lines index reference)

-- the line of the row with an index in the cohort
abbrev pub line_in_cohort : LinesOf → ℕ → List ℕ
line_in_cohort lines index =
    line_of (generator_of lines.plan) lines.unit lines.table (ordinal_of lines index)

-- what the row with an index in the cohort holds in the column at a place, as it is written
abbrev pub text_in_cohort : LinesOf → ℕ → ℕ → List ℕ
text_in_cohort lines index column =
    field_text (layout_of lines.plan).delimiter
    (field (generator_of lines.plan) lines.unit lines.table (row_at (generator_of lines.plan) lines.table lines.unit (ordinal_of lines index)) column)

-- the row with an index in the cohort, as one that changed last at a unit
abbrev pub row_changed : LinesOf → ℕ → ℕ → Row
row_changed lines index changed =
    record (row_at (generator_of lines.plan) lines.table lines.unit (ordinal_of lines index)) { changed = changed }

-- what it holds in the column at a place, which is no lookup, as it is written
abbrev pub text_in_table : LinesOf → ℕ → ℕ → ℕ → List ℕ
text_in_table lines index changed column =
    field_text (layout_of lines.plan).delimiter (field_in_table (generator_of lines.plan) lines.table (row_changed lines index changed) column)

-- whether it is alive
abbrev pub is_live_for : LinesOf → ℕ → Bool
is_live_for lines index = is_live (generator_of lines.plan) lines.table lines.unit (ordinal_of lines index)

-- the unit of its last change
abbrev pub change_for : LinesOf → ℕ → ℕ
change_for lines index = change_unit (generator_of lines.plan) lines.table lines.unit (ordinal_of lines index)

-- the values of the rows of the cohort that changed last at a unit
abbrev pub values_at : LinesOf → ℕ → ValuesOf
values_at lines changed = record { plan = lines.plan; table = lines.table; born = lines.born; changed = changed }

-- what is kept of the cohort is the first ordinal of its rows and what the schema says of the columns
pub record AreFieldsOf (lines : LinesOf) (columns : List ReadyColumn) (first : ℕ) : Type 0 where
  pub columns_are : columns ≡ ready_columns (layout_of lines.plan) lines.table
  pub first_is : first ≡ first_ordinal (layout_for lines).births lines.born
  pub sound : IsInLimits lines.plan
  pub limits : IsTableInLimits (last_unit lines.plan) (layout_for lines)
  pub table : lines.table < length lines.plan.schema.tables
  pub born : lines.born ≤ lines.unit
  pub unit : lines.unit ≤ last_unit lines.plan

-- what is kept of the cohort's fields is the cohort's, and what is kept beside is what the schema says
pub record AreLinesOf (lines : LinesOf) (columns : List ReadyColumn) (fields : LinesOf) (byte : ℕ) : Type 0 where
  pub columns_are : columns ≡ ready_columns (layout_of lines.plan) lines.table
  pub fields_are : fields ≡ lines
  pub sound : IsInLimits lines.plan
  pub limits : IsTableInLimits (last_unit lines.plan) (layout_for lines)
  pub delimiter : byte ≡ (layout_of lines.plan).delimiter
  pub table : lines.table < length lines.plan.schema.tables
  pub born : lines.born ≤ lines.unit
  pub unit : lines.unit ≤ last_unit lines.plan

-- what the field of the column at a place takes at most, in bytes
abbrev pub size_for : LinesOf → ℕ → ℕ
size_for lines column =
    size_of (layout_of lines.plan).delimiter (layout_of lines.plan).tables (layout_for lines).columns
    (column_at (layout_for lines).columns column).kind

-- none for a key that is known
abbrev pub unless_known : KindLayout → Bool → ℕ → ℕ
unless_known key_kind true asked = 0
unless_known _ _ asked = asked

-- how many permutations the field of a column takes at most that is no template and no lookup, by whether the row's key is known: those
-- that tell whether it is null, and those that the schema counts for it
abbrev pub asked_alone : Bool → Layout → ℕ → ℕ → ℕ
asked_alone known layout table column =
    unless_known (column_at (table_at layout.tables table).columns column).kind known
    (null_cost_of (lineages layout.tables) (column_at (table_at layout.tables table).columns column).kind + field_cost layout table column)

-- how many a part of a template takes
abbrev pub asked_by_part : Bool → Layout → ℕ → PartLayout → ℕ
asked_by_part known layout table (literal_part bytes) = 0
asked_by_part known layout table (cited_part column width) = asked_alone known layout table column

-- how many the field of a column of this kind takes
abbrev pub asked_by : Bool → Layout → ℕ → ℕ → KindLayout → ℕ
asked_by known layout table column (template_kind parts) = sum_by (asked_by_part known layout table) parts
asked_by known layout table column (lookup_kind via parent name) = field_cost layout table column
asked_by known layout table column kind = asked_alone known layout table column

-- that of the column at a place
abbrev pub asked_for : Bool → LinesOf → ℕ → ℕ
asked_for known lines column =
    asked_by known (layout_of lines.plan) lines.table column (column_at (layout_for lines).columns column).kind

-- those of a line of a row whose key is known
unfoldable pub asked_for_line : LinesOf → ℕ
asked_for_line lines = sum_by (asked_for true lines) (range_with_len 0 (length (layout_for lines).columns))

-- the permutations of the column at a place, where a flag of it isn't true: its fields are made of the row, and not kept as pieces
abbrev pub asked_where : List Bool → LinesOf → ℕ → ℕ
asked_where short lines column = if get_or short column false then 0 else asked_for true lines column
