-- What the laws of the tables' texts speak of.
use Rattle.std.specs.Prelude.{ℕ, ℤ, List, [], ◌∷◌, count_by, slice_index_or}
use Rattle.std.specs.Str.{bytes_eq}
use Rattle.schema_facts.specs.Dictionaries.{Project}
use Rattle.life_intervals.specs.Generator.{Generator}
use Rattle.life_intervals.specs.Rows.{Row}
use Rattle.life_intervals.specs.Simulation.{rows_at}
use Rattle.row_lines.specs.Lines.{deleted_text, field_texts, inserted_text, updated_text}

-- what the line of a row at a unit holds in the column at a place, as it is written
abbrev pub field_of_line : Generator → ℕ → ℕ → ℕ → Row → List ℕ
field_of_line generator unit place column row = slice_index_or (field_texts generator unit place row) column []

-- how many lines of the text at a unit of the table at a place have this key field
abbrev pub lines_with_key : Generator → ℕ → ℕ → List ℕ → ℕ
lines_with_key generator unit place key =
    count_by (λ (row : Row). bytes_eq (field_of_line generator unit place 0 row) key) (rows_at generator place unit)

-- a schema with another last unit
abbrev pub with_last_unit : Project → ℤ → Project
with_last_unit plan last = record plan { schema = record plan.schema { units = last } }

-- what a unit changes in the table at a place, in the order in which it is applied: what it deletes, updates and inserts
abbrev pub unit_streams : Project → ℕ → ℕ → List (List ℕ)
unit_streams plan place unit = deleted_text plan unit place ∷ updated_text plan unit place ∷ inserted_text plan unit place ∷ []
