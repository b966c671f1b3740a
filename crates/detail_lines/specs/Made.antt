-- What is kept for the lines of a detail table, and for one line.
use Rattle.std.specs.Prelude.{◌≡◌, ◌<◌, ◌≤◌, ℕ, ◌+◌, ◌-◌, List, ◌∷◌, Option, decimal, flat_map, get_or, length, map, sum_by}
use Rattle.std.specs.List.{range_with_len}
use Rattle.philox_seeds.specs.SeedTree.{column_seed, field_draw, table_seed, unit_seed}
use Rattle.row_text.specs.Fields.{field_text}
use Rattle.cohort_sizes.specs.Births.{LiesIn}
use Rattle.schema_facts.specs.Counts.{count}
use Rattle.schema_facts.specs.Dictionaries.{Project}
use Rattle.schema_facts.specs.FieldSizes.{size_of}
use Rattle.schema_facts.specs.Layout.{ColumnLayout, column_at, layout_of, table_layouts}
use Rattle.schema_plan.specs.Limits.{IsInLimits as IsPlanInLimits}
use Rattle.schema_plan.specs.declared.ready.ReadyColumn.{ReadyColumn}
use Rattle.schema_plan.specs.Ready.{ready_column}
use Rattle.draw_values.specs.declared.values.RowAt.{RowAt}
use Rattle.draw_values.specs.Runs.{DrawnColumnOf, RunColumnOf, drawn_column, with_behind}
use Rattle.draw_values.specs.Values.{draw_unit}
use Rattle.life_intervals.specs.Generator.{generator_of, last_unit, table_of}
use Rattle.life_intervals.specs.Intervals.{change_unit, row_at}
use Rattle.life_intervals.specs.Keys.{key_of}
use Rattle.life_intervals.specs.Rows.{Row}
use Rattle.row_lines.specs.Lookups.{StillRowOf}
use Rattle.row_lines.specs.RowViews.{at_row}
use Rattle.row_lines.specs.Runs.{behind}
use Rattle.row_lines.specs.TableLines.{shown_by}
use Rattle.detail_plan.specs.Kept.{Kept, KeepsRules}
use Rattle.detail_plan.specs.Limits.{IsInLimits}
use Rattle.detail_lines.specs.declared.detail_lines.LineKind.{LineKind}
use Rattle.detail_lines.specs.declared.detail_lines.LineKind.TheVariants.{Whole}
use Rattle.detail_lines.specs.declared.detail_lines.ParentAt.{ParentAt}
use Rattle.detail_lines.specs.declared.parent_row.ParentRow.{ParentRow}
use Rattle.detail_lines.specs.declared.parent_row.ParentRows.{ParentRows}
use Rattle.detail_lines.specs.Lines.{Line, columns_of, count_column, detail_line, key_line, layout_beside, line_field, line_ordinal, lines_of_draw, parent_place}
use Rattle.detail_lines.specs.Rows.{born_by, row_text}

-- a detail table over a plan
pub record LinesOver : Type 0 where
  pub plan : Project
  pub kept : Kept

abbrev pub place_over : LinesOver → ℕ
place_over over = parent_place over.plan over.kept.detail

abbrev pub delimiter_over : LinesOver → ℕ
delimiter_over over = (layout_of over.plan).delimiter

abbrev pub columns_over : LinesOver → List ColumnLayout
columns_over over = columns_of over.plan over.kept

-- how many columns are its own
abbrev pub own_over : LinesOver → ℕ
own_over over = length over.kept.detail.columns

-- ---- seeds

abbrev pub detail_seed : Kept → ℕ
detail_seed kept = table_seed (count kept.detail.seed) 0

-- the seeds of the columns
abbrev pub column_seeds : Kept → List ℕ
column_seeds kept = map (column_seed (detail_seed kept)) (range_with_len 0 (length kept.detail.columns))

-- the byte after the field of the column at a place
abbrev pub behind_over : LinesOver → ℕ → ℕ
behind_over over column = behind (delimiter_over over) (own_over over) column

-- the column at a place as it is kept ready
abbrev pub ready_over : LinesOver → ℕ → ReadyColumn
ready_over over column = ready_column (delimiter_over over) (column_at (columns_over over) column)

-- the same prepared for runs, and all of them
abbrev pub prepared_column : LinesOver → ℕ → DrawnColumnOf
prepared_column over column =
    drawn_column (ready_over over column).kind (column_seed (detail_seed over.kept) column) (behind_over over column)

abbrev pub prepared_columns : LinesOver → List DrawnColumnOf
prepared_columns over = map (prepared_column over) (range_with_len 0 (own_over over))

-- of a column of the parent, that one prepared for runs, with the byte after the line's field; None of any other kind
abbrev pub shown_column : LinesOver → ℕ → Option RunColumnOf
shown_column over column = shown_by over.plan (behind_over over column) (ready_over over column).kind

abbrev pub shown_columns : LinesOver → List (Option RunColumnOf)
shown_columns over = map (shown_column over) (range_with_len 0 (own_over over))

-- the numbers 0 to 64, each with the delimiter after it
abbrev pub number_texts : ℕ → List (List ℕ)
number_texts delimiter = map (λ number. with_behind delimiter (decimal number)) (range_with_len 0 65)

-- what is kept of the lines: the seed that draws how many there are, the fewest, how many more there may be, the seeds of the
-- columns, the columns prepared for runs, those of the parent that they show, and the texts of the lines' numbers
pub record AreKept (over : LinesOver) (byte counts least spread : ℕ) (seeds : List ℕ) (columns : List DrawnColumnOf) (shown : List (Option RunColumnOf)) (numbers : List (List ℕ)) : Type 0 where
  pub sound : IsPlanInLimits over.plan
  pub keeps : KeepsRules over.plan over.kept
  pub limits : IsInLimits over.kept.lists over.kept.detail
  pub delimiter : byte ≡ delimiter_over over
  pub counts_are : counts ≡ column_seed (detail_seed over.kept) count_column
  pub least_is : least ≡ count over.kept.detail.lo
  pub spread_is : spread ≡ count over.kept.detail.hi - count over.kept.detail.lo + 1
  pub seeds_are : seeds ≡ column_seeds over.kept
  pub columns_are : columns ≡ prepared_columns over
  pub shown_are : shown ≡ shown_columns over
  pub numbers_are : numbers ≡ number_texts (delimiter_over over)

-- ---- rows of the parent

-- the units of a row, as the draws of its fields see it
abbrev pub told_at : ParentRow → RowAt
told_at row = record { ordinal = row.ordinal; born = row.born; changed = row.changed }

-- seeds of the columns for the units at which a row's fields are drawn
pub record AreSeeds (over : LinesOver) (at : RowAt) (seeds : List ℕ) : Type 0 where
  pub many : length seeds ≡ own_over over
  pub each : (column : ℕ) → column < own_over over →
      get_or seeds column 0 ≡ unit_seed (column_seed (detail_seed over.kept) column) (draw_unit (column_at (columns_over over) column) at)

-- what is told of a row of the parent at a unit: its ordinal, its birth and its key, and where whole lines are made its last change
pub record IsToldRow (over : LinesOver) (unit : ℕ) (kind : LineKind) (row : ParentRow) : Type 0 where
  pub ordinal : row.ordinal < born_by over.plan over.kept unit
  pub lies : LiesIn (table_of over.plan (place_over over)).births row.born row.ordinal
  pub born : row.born ≤ unit
  pub key : row.key ≡ key_of (generator_of over.plan) (place_over over) (last_unit over.plan) row.ordinal
  pub changed : kind ≡ Whole → row.changed ≡ change_unit (generator_of over.plan) (place_over over) unit row.ordinal

-- the row at a place of some
abbrev pub row_of : ParentRows → ℕ → ParentRow
row_of rows i = record {
  key = get_or rows.keys.now i 0;
  ordinal = get_or rows.ordinals.now i 0;
  born = get_or rows.births.now i 0;
  changed = get_or rows.changes.now i 0;
}

-- so many
pub record AreMany (count : ℕ) (rows : ParentRows) : Type 0 where
  pub keys : length rows.keys.now ≡ count
  pub ordinals : length rows.ordinals.now ≡ count
  pub births : length rows.births.now ≡ count
  pub changes : length rows.changes.now ≡ count

abbrev pub AreToldRows : LinesOver → ℕ → LineKind → ParentRows → Type 0
AreToldRows over unit kind rows = (i : ℕ) → i < length rows.ordinals.now → IsToldRow over unit kind (row_of rows i)

-- seeds for the row before, where there is one
abbrev pub AreSeedsBefore : LinesOver → ParentRows → ℕ → List ℕ → Type 0
AreSeedsBefore over rows i seeds = 0 < i → AreSeeds over (told_at (row_of rows (i - 1))) seeds

-- the parent's table at a unit of the plan
pub record IsParentAt (over : LinesOver) (at : ParentAt) : Type 0 where
  pub plan : at.rows.now ≡ over.plan
  pub table : at.table ≡ place_over over
  pub within : at.table < length over.plan.schema.tables
  pub unit : at.unit ≤ last_unit over.plan

-- ---- lines by their row's ordinal

-- how many lines a row has
abbrev pub told_count : LinesOver → ParentRow → ℕ
told_count over row = lines_of_draw (layout_beside over.plan over.kept) (field_draw (count over.kept.detail.seed) 0 count_column row.born row.ordinal 1)

abbrev pub row_over : LinesOver → ℕ → ℕ → Row
row_over over unit ordinal = row_at (generator_of over.plan) (place_over over) unit ordinal

-- at a unit the line of a number of the row of an ordinal, and the same with its key alone
abbrev pub made_line : LinesOver → ℕ → ℕ → ℕ → List ℕ
made_line over unit ordinal number =
    detail_line (generator_of over.plan) (place_over over) (layout_beside over.plan over.kept) (row_over over unit ordinal) number

abbrev pub made_key_line : LinesOver → ℕ → ℕ → ℕ → List ℕ
made_key_line over unit ordinal number = key_line (generator_of over.plan) (place_over over) (row_over over unit ordinal) number

-- all lines of a row, whole or with their keys alone, and those of the first rows, as many as a count
abbrev pub made_row : LinesOver → LineKind → ℕ → ℕ → List ℕ
made_row over kind unit ordinal = row_text over.plan over.kept kind unit ordinal

abbrev pub made_rows : LinesOver → LineKind → ℕ → ParentRows → ℕ → List ℕ
made_rows over kind unit rows count = flat_map (λ i. made_row over kind unit (row_of rows i).ordinal) (range_with_len 0 count)

-- ---- one line

-- the line of a number of the row of an ordinal at a unit
pub record LineOver : Type 0 where
  pub over : LinesOver
  pub unit : ℕ
  pub ordinal : ℕ
  pub number : ℕ

abbrev pub line_over : LineOver → Line
line_over line = record {
  generator = generator_of line.over.plan;
  detail = layout_beside line.over.plan line.over.kept;
  row = row_over line.over line.unit line.ordinal;
  number = line.number;
}

-- what is kept of a line: the row of the parent, the seeds of the columns at its units, and the ordinal by which the fields are drawn
pub record IsLineOver (line : LineOver) (row : StillRowOf) (byte : ℕ) (seeds : List ℕ) (drawn : ℕ) : Type 0 where
  pub sound : IsPlanInLimits line.over.plan
  pub keeps : KeepsRules line.over.plan line.over.kept
  pub limits : IsInLimits line.over.kept.lists line.over.kept.detail
  pub row_is : row ≡ record { plan = line.over.plan; table = place_over line.over; unit = line.unit; ordinal = line.ordinal }
  pub delimiter : byte ≡ delimiter_over line.over
  pub seeds_are : AreSeeds line.over (at_row (line_over line).row) seeds
  pub drawn_is : drawn ≡ line_ordinal line.ordinal line.number

-- the most bytes of a field, of a field with the delimiter before it, and of all these
abbrev pub size_over : LinesOver → ℕ → ℕ
size_over over column =
    size_of (delimiter_over over) (table_layouts over.kept.lists over.plan.schema.tables) (columns_over over) (column_at (columns_over over) column).kind

abbrev pub field_room : LinesOver → ℕ → ℕ
field_room over column = size_over over column + 1

abbrev pub fields_room : LinesOver → ℕ → ℕ
fields_room over count = sum_by (field_room over) (range_with_len 0 count)

-- a field as it is written, with the delimiter before it, and the first fields, as many as a count
abbrev pub written_field : LineOver → ℕ → List ℕ
written_field line column = delimiter_over line.over ∷ field_text (delimiter_over line.over) (line_field (line_over line) column)

abbrev pub written_fields : LineOver → ℕ → List ℕ
written_fields line count = flat_map (written_field line) (range_with_len 0 count)
