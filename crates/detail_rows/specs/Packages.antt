-- The packages of a detail table's lines: of all rows of its parent at a unit, or of rows that are listed, so many rows a package.
use Rattle.std.specs.Prelude.{◌≡◌, ◌<◌, ◌≤◌, ℕ, ◌+◌, ◌-◌, ◌*◌, ◌/◌, ◌^◌, List, filter, flat_map, get_or, length, min}
use Rattle.std.specs.List.{range_with_len, slice_range}
use Rattle.cohort_sizes.specs.Births.{cohort_size, first_ordinal}
use Rattle.schema_facts.specs.Dictionaries.{Project}
use Rattle.life_intervals.specs.Generator.{generator_of, last_unit, table_of}
use Rattle.life_intervals.specs.Intervals.{is_live}
use Rattle.detail_plan.specs.Kept.{Kept, KeepsRules}
use Rattle.detail_lines.specs.declared.detail_lines.LineKind.{LineKind}
use Rattle.detail_lines.specs.declared.detail_lines.LineKind.TheVariants.{Whole, KeysAlone}
use Rattle.detail_rows.specs.declared.packer.PackedRows.{PackedRows}
use Rattle.detail_rows.specs.declared.packer.PackedRows.TheVariants.{All, Born, Keys, Lines}
use Rattle.detail_lines.specs.Lines.{parent_place}
use Rattle.detail_lines.specs.Rows.{born_by, row_text}

-- ---- rows by their ordinals

-- the lines of the rows of some ordinals
abbrev pub listed_text : Project → Kept → LineKind → ℕ → List ℕ → List ℕ
listed_text plan kept kind unit ordinals = flat_map (row_text plan kept kind unit) ordinals

-- the ordinal of the first that is born at a unit, and how many are
abbrev pub first_born : Project → Kept → ℕ → ℕ
first_born plan kept unit = first_ordinal (table_of plan (parent_place plan kept.detail)).births unit

abbrev pub size_born : Project → Kept → ℕ → ℕ
size_born plan kept unit = cohort_size (table_of plan (parent_place plan kept.detail)).births unit

-- of the ordinals from a first one on, so many, those of the rows that are alive at a unit
abbrev pub living_from : Project → Kept → ℕ → ℕ → ℕ → List ℕ
living_from plan kept unit first count = filter (is_live (generator_of plan) (parent_place plan kept.detail) unit) (range_with_len first count)

-- ---- packages

-- which lines are told of a detail table over a plan, with the number of rows of each package but the last
pub record Packages : Type 0 where
  pub plan : Project
  pub kept : Kept
  pub rows : PackedRows
  pub size : ℕ

-- how many rows there are: all that are born by the unit, or those that are listed
abbrev pub rows_in : Project → Kept → PackedRows → ℕ
rows_in plan kept (All unit) = born_by plan kept unit
rows_in plan kept (Keys ordinals) = length ordinals.now
rows_in plan kept (Lines ordinals unit) = length ordinals.now
rows_in plan kept (Born unit) = size_born plan kept unit

-- the lines of the rows from a position up to another
abbrev pub range_text : Project → Kept → PackedRows → ℕ → ℕ → List ℕ
range_text plan kept (All unit) first end = listed_text plan kept Whole unit (living_from plan kept unit first (end - first))
range_text plan kept (Keys ordinals) first end = listed_text plan kept KeysAlone (last_unit plan) (slice_range ordinals.now first end)
range_text plan kept (Lines ordinals unit) first end = listed_text plan kept Whole unit (slice_range ordinals.now first end)
range_text plan kept (Born unit) first end =
    listed_text plan kept Whole unit (living_from plan kept unit (first_born plan kept unit + first) (end - first))

-- the rows that are told are the parent's: born by the unit, or by the last one where their keys alone are told
abbrev pub AreTold : Project → Kept → PackedRows → Type 0
AreTold plan kept (All unit) = unit ≤ last_unit plan
AreTold plan kept (Keys ordinals) = (i : ℕ) → i < length ordinals.now → get_or ordinals.now i 0 < born_by plan kept (last_unit plan)
AreTold plan kept (Born unit) = unit ≤ last_unit plan
AreTold plan kept (Lines ordinals unit) = (unit ≤ last_unit plan) × ((i : ℕ) → i < length ordinals.now → get_or ordinals.now i 0 < born_by plan kept unit)

-- how many packages of at most so many rows are wanted for so many
abbrev pub package_count : ℕ → ℕ → ℕ
package_count size rows = (rows + (size - 1)) / size

-- how many packages there are, the text of the one of a number, and the room that they want of a page
abbrev pub count_of : Packages → ℕ
count_of packages = package_count packages.size (rows_in packages.plan packages.kept packages.rows)

abbrev pub text_numbered : Packages → ℕ → List ℕ
text_numbered packages n =
    range_text packages.plan packages.kept packages.rows (n * packages.size)
    (min (rows_in packages.plan packages.kept packages.rows) ((n + 1) * packages.size))

abbrev pub room_of : Packages → ℕ
room_of packages =
    min packages.size (rows_in packages.plan packages.kept packages.rows) * packages.kept.reach

-- they can be made: the rules hold, a package has 1 to 1,000,000 rows, and the rows are the parent's
pub record CanPack (packages : Packages) : Type 0 where
  pub keeps : KeepsRules packages.plan packages.kept
  pub some_row : 1 ≤ packages.size
  pub size_limit : packages.size ≤ 1000000
  pub told : AreTold packages.plan packages.kept packages.rows

-- the packages as they are kept: with the number of all rows, that of the packages and the room that these want
pub record ArePackages (packages : Packages) (many count room : ℕ) : Type 0 where
  pub can : CanPack packages
  pub many_are : many ≡ rows_in packages.plan packages.kept packages.rows
  pub few_rows : many ≤ 2 ^ 60
  pub count_is : count ≡ count_of packages
  pub few : count ≤ 2 ^ 60
  pub room_is : room ≡ room_of packages
