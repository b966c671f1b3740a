-- What is made of a line by a verb.
use Rattle.std.specs.Prelude.{ℕ, List}
use Rattle.sql_lines.specs.declared.frame.Verb.{Verb}
use Rattle.sql_lines.specs.declared.frame.Verb.TheVariants.{Insert, Update}
use Rattle.sql_lines.specs.Frames.{FrameOf, behind_framed, insertion_from, update_from}
use Rattle.sql_lines.specs.Reading.{field_behind}

-- the statement that a frame makes of the line that bytes begin with, and the bytes after the line
abbrev pub statement_from : Verb → ℕ → FrameOf → List ℕ → List ℕ
statement_from Insert delimiter frame bytes = insertion_from delimiter frame bytes
statement_from Update delimiter frame bytes = update_from delimiter frame bytes

abbrev pub rest_from : Verb → ℕ → FrameOf → List ℕ → List ℕ
rest_from Insert delimiter frame bytes = behind_framed delimiter frame.columns bytes
rest_from Update delimiter frame bytes = behind_framed delimiter frame.columns (field_behind delimiter bytes)
