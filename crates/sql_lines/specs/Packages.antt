-- The packages of the statements of a table's rows, so many rows a package.
use Rattle.std.specs.Prelude.{◌≡◌, ◌<◌, ◌≤◌, ℕ, ◌+◌, ◌-◌, ◌*◌, List, All, length, min, true}
use Rattle.std.specs.List.{slice_range}
use Rattle.cohort_sizes.specs.Births.{born_count}
use Rattle.schema_facts.specs.Dictionaries.{Project}
use Rattle.schema_facts.specs.Layout.{layout_of}
use Rattle.life_intervals.specs.Generator.{generator_of, last_unit, rows_in_all, table_of}
use Rattle.life_intervals.specs.Intervals.{is_live}
use Rattle.row_lines.specs.Runs.{living_from}
use Rattle.update_box.specs.Cuts.{package_count}
use Rattle.sql_lines.specs.declared.stated.Stated.{Stated}
use Rattle.sql_lines.specs.declared.stated.Stated.TheVariants as stated
use Rattle.sql_lines.specs.Reach.{statement_size}
use Rattle.sql_lines.specs.Statements.{deletions_of, insertions_of, updates_of}

-- which statements are told: insertions of the rows with ordinals from one up to another that are alive at a unit; deletions of the rows of
-- some ordinals; updates of the rows of some ordinals as they are at a unit
pub data StatedRows : Type 0 where
  inserted_rows : ℕ → ℕ → ℕ → StatedRows
  deleted_rows : List ℕ → StatedRows
  updated_rows : List ℕ → ℕ → StatedRows

abbrev pub rows_stated : Stated → StatedRows
rows_stated (stated.Inserted from to unit) = inserted_rows from to unit
rows_stated (stated.Deleted ordinals) = deleted_rows ordinals.now
rows_stated (stated.Updated ordinals unit) = updated_rows ordinals.now unit

-- ---- the rows are the table's

-- the ordinals of rows that are born by a unit
pub record AreBorn (plan : Project) (table from to unit : ℕ) : Type 0 where
  pub reached : unit ≤ last_unit plan
  pub ordered : from ≤ to
  pub born : to ≤ born_count (table_of plan table).births unit

-- rows that are born by a unit and alive at it
pub record AreAlive (plan : Project) (table : ℕ) (ordinals : List ℕ) (unit : ℕ) : Type 0 where
  pub reached : unit ≤ last_unit plan
  pub born : All (λ ordinal. ordinal < born_count (table_of plan table).births unit) ordinals
  pub alive : All (λ ordinal. is_live (generator_of plan) table unit ordinal ≡ true) ordinals

abbrev pub AreRowsOf : Project → ℕ → StatedRows → Type 0
AreRowsOf plan table (inserted_rows from to unit) = AreBorn plan table from to unit
AreRowsOf plan table (deleted_rows ordinals) = All (λ ordinal. ordinal < rows_in_all plan table) ordinals
AreRowsOf plan table (updated_rows ordinals unit) = AreAlive plan table ordinals unit

-- ---- packages

-- the statements of rows of the table at a place, with the number of rows of each package but the last
pub record Packages : Type 0 where
  pub plan : Project
  pub table : ℕ
  pub rows : StatedRows
  pub size : ℕ

-- how many rows there are, counting those that aren't alive
abbrev pub row_count : StatedRows → ℕ
row_count (inserted_rows from to unit) = to - from
row_count (deleted_rows ordinals) = length ordinals
row_count (updated_rows ordinals unit) = length ordinals

-- the insertions of the living among the rows with ordinals from one up to another
abbrev pub insertions_between : Project → ℕ → ℕ → ℕ → ℕ → List ℕ
insertions_between plan table unit first end =
    insertions_of plan unit table (living_from (record { plan = plan; table = table; unit = unit }) first (end - first))

-- the statements of the rows from a position up to another
unfoldable pub range_text : Project → ℕ → StatedRows → ℕ → ℕ → List ℕ
range_text plan table (inserted_rows from to unit) first end = insertions_between plan table unit (from + first) (from + end)
range_text plan table (deleted_rows ordinals) first end = deletions_of plan table (slice_range ordinals first end)
range_text plan table (updated_rows ordinals unit) first end = updates_of plan unit table (slice_range ordinals first end)

-- how many packages there are, the text of the one of a number, and the room that they want of a page
abbrev pub count_of : Packages → ℕ
count_of packages = package_count packages.size (row_count packages.rows)

abbrev pub text_numbered : Packages → ℕ → List ℕ
text_numbered packages n =
    range_text packages.plan packages.table packages.rows (n * packages.size)
    (min (row_count packages.rows) ((n + 1) * packages.size))

abbrev pub room_of : Packages → ℕ
room_of packages = min packages.size (row_count packages.rows) * statement_size (layout_of packages.plan) packages.table
