-- Small generators, whose undo texts can be worked out by hand.
use Rattle.std.specs.Prelude.{ℕ, false, List, [], ◌∷◌, Some}
use Rattle.std.specs.List.{concat}
use Rattle.life_intervals.specs.Generator.{Generator}
use Rattle.life_intervals.specs.Worked.{sales_in_place}
use Rattle.row_lines.specs.Worked.{keyed_table, no_draw, pairs}
use Rattle.undo_streams.specs.UndoText.{undo_lines}

-- lodgers, of whom two are born at each unit but 0, with keys from 1 on: the first stays two units, the second one; tabs between
abbrev pub lodgers : Generator
lodgers = record pairs {
  tables = record (keyed_table 0 2 1 false []) { life = Some (record { least = 1; most = 2 }) } ∷ [];
  delimiter = 9;
}

-- customers, their orders and the lines of these, of which nothing is drawn
abbrev pub plain_sales : Generator
plain_sales = record sales_in_place { draw = no_draw }

-- the text that undoes a unit of the table at a place, where no unit comes later
abbrev pub last_undo_text : Generator → ℕ → ℕ → List ℕ
last_undo_text generator unit table = concat (undo_lines generator unit unit table)
