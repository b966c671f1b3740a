-- The statements of rows, and the texts of tables as statements, each with a line feed after it.
use Rattle.std.specs.Prelude.{ℕ, ◌++◌, List, [], codes, decimal, drop, flat_map, if◌then◌else◌, length, nat_le, slice_index_or}
use Rattle.std.specs.List.{join_by, range_with_len}
use Rattle.schema_facts.specs.Dictionaries.{Project}
use Rattle.schema_plan.specs.Rules.{column_names}
use Rattle.life_intervals.specs.Generator.{generator_of, last_unit, table_of}
use Rattle.life_intervals.specs.Intervals.{row_at}
use Rattle.life_intervals.specs.Keys.{key_of}
use Rattle.life_intervals.specs.Rows.{Row}
use Rattle.row_lines.specs.Lines.{field}
use Rattle.update_box.specs.Parts.{name_at}
use Rattle.sql_lines.specs.Bare.{is_bare_at}
use Rattle.sql_lines.specs.Literals.{literal}

-- ---- what statements name

-- the name of the table at a place between double quotes, and that of its column at a place
abbrev pub table_name : Project → ℕ → List ℕ
table_name plan place = codes "\"" ++ name_at plan.schema place ++ codes "\""

abbrev pub column_name : Project → ℕ → ℕ → List ℕ
column_name plan place column = codes "\"" ++ slice_index_or (column_names plan.schema place) column [] ++ codes "\""

-- how many columns it has, their places, and those of all but the key
abbrev pub column_count : Project → ℕ → ℕ
column_count plan place = length (table_of plan place).columns

abbrev pub columns_of : Project → ℕ → List ℕ
columns_of plan place = range_with_len 0 (column_count plan place)

abbrev pub other_columns : Project → ℕ → List ℕ
other_columns plan place = drop 1 (columns_of plan place)

-- the row with an ordinal, which is named by its key
abbrev pub where_key : Project → ℕ → ℕ → List ℕ
where_key plan place ordinal =
    codes " WHERE " ++ column_name plan place 0 ++ codes " = "
    ++ decimal (key_of (generator_of plan) place (last_unit plan) ordinal) ++ codes ";\n"

-- ---- the statements of a row at a unit

-- what it holds in the column at a place, as a literal
abbrev pub literal_at : Project → ℕ → ℕ → Row → ℕ → List ℕ
literal_at plan unit place row column =
    literal (is_bare_at plan place column) (field (generator_of plan) unit place row column)

-- the statement that inserts it
unfoldable pub insertion : Project → ℕ → ℕ → Row → List ℕ
insertion plan unit place row =
    codes "INSERT INTO " ++ table_name plan place ++ codes " VALUES ("
    ++ join_by (literal_at plan unit place row) (codes ", ") (columns_of plan place) ++ codes ");\n"

-- the statement that deletes the row with an ordinal
unfoldable pub deletion : Project → ℕ → ℕ → List ℕ
deletion plan place ordinal = codes "DELETE FROM " ++ table_name plan place ++ where_key plan place ordinal

-- the column at a place, set to what the row holds in it
abbrev pub assignment : Project → ℕ → ℕ → Row → ℕ → List ℕ
assignment plan unit place row column = column_name plan place column ++ codes " = " ++ literal_at plan unit place row column

-- the statement that updates it: all columns but the key. A table that has the key alone has no update
unfoldable pub update : Project → ℕ → ℕ → Row → List ℕ
update plan unit place row =
    if nat_le (column_count plan place) 1 then []
    else codes "UPDATE " ++ table_name plan place ++ codes " SET "
    ++ join_by (assignment plan unit place row) (codes ", ") (other_columns plan place) ++ where_key plan place row.ordinal

-- ---- the statements of rows by their ordinals

-- those that insert and update the row of an ordinal as it is at a unit
abbrev pub insertion_of : Project → ℕ → ℕ → ℕ → List ℕ
insertion_of plan unit place ordinal = insertion plan unit place (row_at (generator_of plan) place unit ordinal)

abbrev pub update_of : Project → ℕ → ℕ → ℕ → List ℕ
update_of plan unit place ordinal = update plan unit place (row_at (generator_of plan) place unit ordinal)

-- those of the rows of some ordinals
abbrev pub insertions_of : Project → ℕ → ℕ → List ℕ → List ℕ
insertions_of plan unit place ordinals = flat_map (insertion_of plan unit place) ordinals

abbrev pub deletions_of : Project → ℕ → List ℕ → List ℕ
deletions_of plan place ordinals = flat_map (deletion plan place) ordinals

abbrev pub updates_of : Project → ℕ → ℕ → List ℕ → List ℕ
updates_of plan unit place ordinals = flat_map (update_of plan unit place) ordinals
