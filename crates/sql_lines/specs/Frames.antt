-- What the statements of a table's rows have in common, and what they make of a line.
use Rattle.std.specs.Prelude.{ℕ, ◌==◌, ◌++◌, Bool, if◌then◌else◌, List, [], ◌∷◌, codes, map}
use Rattle.schema_facts.specs.Dictionaries.{Project}
use Rattle.sql_lines.specs.Bare.{is_bare_at}
use Rattle.sql_lines.specs.Literals.{literal}
use Rattle.sql_lines.specs.Reading.{field_before, field_behind, field_read}
use Rattle.sql_lines.specs.Statements.{column_name, columns_of, other_columns, table_name}

-- of a column: what stands before its literal, and whether that is bare
pub record FramedColumn : Type 0 where
  pub before : List ℕ
  pub bare : Bool

-- of a statement: its columns, and what stands after the last
pub record FrameOf : Type 0 where
  pub columns : List FramedColumn
  pub end : List ℕ

-- ---- the frames of a table

-- what stands before a column's literal in an insertion: after the first there is a comma
abbrev pub insertion_lead : Project → ℕ → ℕ → List ℕ
insertion_lead plan place column =
    if column == 0 then codes "INSERT INTO " ++ table_name plan place ++ codes " VALUES (" else codes ", "

-- in an update the column's name stands between
abbrev pub set_lead : Project → ℕ → ℕ → List ℕ
set_lead plan place column = if column == 1 then codes "UPDATE " ++ table_name plan place ++ codes " SET " else codes ", "

abbrev pub update_lead : Project → ℕ → ℕ → List ℕ
update_lead plan place column = set_lead plan place column ++ column_name plan place column ++ codes " = "

abbrev pub insertion_column : Project → ℕ → ℕ → FramedColumn
insertion_column plan place column = record { before = insertion_lead plan place column; bare = is_bare_at plan place column }

abbrev pub update_column : Project → ℕ → ℕ → FramedColumn
update_column plan place column = record { before = update_lead plan place column; bare = is_bare_at plan place column }

-- what stands before the key by which a statement names a row
abbrev pub key_lead : Project → ℕ → List ℕ
key_lead plan place = codes " WHERE " ++ column_name plan place 0 ++ codes " = "

abbrev pub insertion_frame : Project → ℕ → FrameOf
insertion_frame plan place = record { columns = map (insertion_column plan place) (columns_of plan place); end = codes ");\n" }

abbrev pub update_frame : Project → ℕ → FrameOf
update_frame plan place = record { columns = map (update_column plan place) (other_columns plan place); end = key_lead plan place }

abbrev pub deletion_frame : Project → ℕ → FrameOf
deletion_frame plan place = record { columns = []; end = codes "DELETE FROM " ++ table_name plan place ++ key_lead plan place }

-- ---- what is made of a line

-- the byte after the field of a column, with columns after it or none
abbrev pub stop_before : ℕ → List FramedColumn → ℕ
stop_before delimiter [] = 10
stop_before delimiter (column ∷ columns) = delimiter

-- the literal of the field that bytes begin with, after what stands before it
abbrev pub field_framed : FramedColumn → ℕ → List ℕ → List ℕ
field_framed column stop bytes = column.before ++ literal column.bare (field_read (field_before stop bytes))

-- those of all fields, and the bytes after these fields
abbrev pub framed : ℕ → List FramedColumn → List ℕ → List ℕ
framed delimiter [] bytes = []
framed delimiter (column ∷ columns) bytes =
    field_framed column (stop_before delimiter columns) bytes ++ framed delimiter columns (field_behind (stop_before delimiter columns) bytes)

abbrev pub behind_framed : ℕ → List FramedColumn → List ℕ → List ℕ
behind_framed delimiter [] bytes = bytes
behind_framed delimiter (column ∷ columns) bytes = behind_framed delimiter columns (field_behind (stop_before delimiter columns) bytes)

-- what stands after the last literal, with the key by which a statement names a row
abbrev pub end_with : FrameOf → List ℕ → List ℕ
end_with frame key = frame.end ++ key ++ codes ";\n"

-- the insertion that a frame makes of a line, and the update: its key stands first, and goes to the end
abbrev pub insertion_from : ℕ → FrameOf → List ℕ → List ℕ
insertion_from delimiter frame bytes = framed delimiter frame.columns bytes ++ frame.end

abbrev pub update_from : ℕ → FrameOf → List ℕ → List ℕ
update_from delimiter frame bytes = framed delimiter frame.columns (field_behind delimiter bytes) ++ end_with frame (field_before delimiter bytes)
