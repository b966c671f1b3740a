-- What the code keeps of the rows of a run, and the fields that are made of them.
use Rattle.std.specs.Prelude.{◌≡◌, ◌<◌, ◌≤◌, ℕ, ◌+◌, true, List, get_or, if◌then◌else◌, length}
use Rattle.line_pages.specs.declared.piece.Piece.{Piece}
use Rattle.line_pages.specs.Rows.{piece_text_at}
use Rattle.schema_facts.specs.FieldSizes.{size_of}
use Rattle.schema_facts.specs.Layout.{column_at, layout_of}
use Rattle.schema_plan.specs.Limits.{IsInLimits, IsTableInLimits}
use Rattle.draw_values.specs.declared.items.ItemizedField.{ItemizedField}
use Rattle.draw_values.specs.declared.runs.RunRows.{RunRows}
use Rattle.draw_values.specs.Items.{itemized_field}
use Rattle.draw_values.specs.Runs.{run_row}
use Rattle.life_intervals.specs.Generator.{last_unit}
use Rattle.row_lines.specs.CohortLines.{LinesOf, asked_by}
use Rattle.row_lines.specs.Runs.{AreChanges, AreLiving, RunLinesOf, layout_for, text_at, text_behind}
use Rattle.row_lines.specs.TableLines.{AreTableLines, TableLinesOf, column_of, is_short_at}

-- what is kept of the lines of a table is of a plan's table, at one of its units
pub record AreRunLines (lines : RunLinesOf) (kept : TableLinesOf) : Type 0 where
  pub kept_are : AreTableLines lines.plan lines.table kept
  pub sound : IsInLimits lines.plan
  pub limits : IsTableInLimits (last_unit lines.plan) (layout_for lines)
  pub table : lines.table < length lines.plan.schema.tables
  pub unit : lines.unit ≤ last_unit lines.plan

-- the lines of the table, as those of a cohort, whose columns are the same
abbrev pub column_lines : RunLinesOf → LinesOf
column_lines lines = record { plan = lines.plan; table = lines.table; born = 0; unit = lines.unit }

-- the rows of a run: born by the unit and alive, with the units of their births and of their last changes
pub record AreRowsOf (lines : RunLinesOf) (rows : RunRows) : Type 0 where
  pub few : length rows.ordinals.now ≤ 256
  pub living : AreLiving lines rows.ordinals.now rows.births.now
  pub changes : AreChanges lines rows.ordinals.now rows.changes.now

-- what the field of the column at a place takes at most, in bytes
abbrev pub size_for : RunLinesOf → ℕ → ℕ
size_for lines column =
    size_of (layout_of lines.plan).delimiter (layout_of lines.plan).tables (layout_for lines).columns
    (column_at (layout_for lines).columns column).kind

-- no field of the row of an ordinal is longer than it may be
pub record HasSizes (lines : RunLinesOf) (ordinal : ℕ) : Type 0 where
  pub each : (column : ℕ) → column < length (layout_for lines).columns → length (text_at lines ordinal column) ≤ size_for lines column

-- how many permutations it asks at most, where the row's key is known
abbrev pub asked_for : RunLinesOf → ℕ → ℕ
asked_for lines column =
    asked_by true (layout_of lines.plan) lines.table column (column_at (layout_for lines).columns column).kind

-- the same of a column whose fields are made as pieces, and of one whose aren't; 0 of any other
abbrev pub asked_short : RunLinesOf → ℕ → ℕ
asked_short lines column = if is_short_at lines.plan lines.table column then asked_for lines column else 0

abbrev pub asked_long : RunLinesOf → ℕ → ℕ
asked_long lines column = if is_short_at lines.plan lines.table column then 0 else asked_for lines column

-- the fields of the rows of some ordinals in the column at a place are made: from a place of the pieces on each stands as it is written,
-- with the byte after it, and none is longer than the column's may be
pub record AreMade (lines : RunLinesOf) (ordinals : List ℕ) (pieces : List Piece) (start column : ℕ) : Type 0 where
  pub text : (i : ℕ) → i < length ordinals → piece_text_at pieces (start + i) ≡ text_behind lines (get_or ordinals i 0) column
  pub size : (i : ℕ) → i < length ordinals → length (text_at lines (get_or ordinals i 0) column) ≤ size_for lines column

-- what is drawn of the fields of the rows of a run in the column at a place, before their items, stands from a place of a list on
pub record AreItemized (lines : RunLinesOf) (rows : RunRows) (items : List ItemizedField) (start column : ℕ) : Type 0 where
  pub each : (i : ℕ) (d : ItemizedField) → i < length rows.ordinals.now → get_or items (start + i) d ≡ itemized_field lines.plan (column_of lines.plan lines.table column) (run_row rows i)
