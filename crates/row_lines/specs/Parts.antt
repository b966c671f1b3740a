-- The parts of templates, as they are written by what a plan keeps of them.
use Rattle.std.specs.Prelude.{◌≡◌, ◌<◌, ◌≤◌, ℕ, Bool, true, List, [], Option, length, max, min, unwrap_or, ⊤}
use Rattle.std.specs.Option.{option_map}
use Rattle.line_pages.specs.Padding.{padded}
use Rattle.row_text.specs.Fields.{escaped_text}
use Rattle.schema_plan.specs.declared.ready.ReadyPart.{ReadyPart}
use Rattle.schema_plan.specs.declared.ready.ReadyPart.TheVariants as part
use Rattle.schema_facts.specs.FieldSizes.{size_alone}
use Rattle.schema_facts.specs.Layout.{layout_of, column_at}
use Rattle.schema_plan.specs.Limits.{IsFilled, is_cited}
use Rattle.draw_values.specs.Values.{written}
use Rattle.life_intervals.specs.Generator.{generator_of}
use Rattle.row_lines.specs.CohortLines.{LinesOf, asked_alone, layout_for, row_changed}
use Rattle.row_lines.specs.Lines.{field_alone}

-- what the row with an index in the cohort, as one that changed last at a unit, holds in the column at a place, which may be cited
abbrev pub cited_for : LinesOf → ℕ → ℕ → ℕ → Option (List ℕ)
cited_for lines index changed column = field_alone (generator_of lines.plan) lines.table (row_changed lines index changed) column

-- what is written for it: nothing where it is null
abbrev pub cited_text : LinesOf → ℕ → ℕ → ℕ → List ℕ
cited_text lines index changed column = written (layout_of lines.plan).delimiter (cited_for lines index changed column)

-- what that takes at most, in bytes
abbrev pub cited_size : LinesOf → ℕ → ℕ
cited_size lines column =
    size_alone (layout_of lines.plan).delimiter (column_at (layout_for lines).columns column).kind

-- a column of the table that may be cited
pub record IsCitable (lines : LinesOf) (column : ℕ) : Type 0 where
  pub within : column < length (layout_for lines).columns
  pub cited : is_cited (column_at (layout_for lines).columns column).kind ≡ true

-- what is written for a field that is filled with zeros up to so many bytes: nothing where it is null
abbrev pub written_padded : ℕ → ℕ → Option (List ℕ) → List ℕ
written_padded delimiter width value = unwrap_or (option_map (λ text. padded width (escaped_text delimiter text)) value) []

-- what that takes at most, in bytes
abbrev pub padded_size : LinesOf → ℕ → ℕ → ℕ
padded_size lines column width = max (cited_size lines column) (min width 64)

-- a column of the table that may be cited, and is filled up to so many bytes only where it holds whole numbers
pub record IsCitation (lines : LinesOf) (column width : ℕ) : Type 0 where
  pub citable : IsCitable lines column
  pub filled : 1 ≤ width → IsFilled (layout_for lines).columns column width

-- what is written for a part, what that takes at most, and that it cites no other column
abbrev pub written_part : LinesOf → ℕ → ℕ → ReadyPart → List ℕ
written_part lines index changed (part.Literal bytes) = bytes
written_part lines index changed (part.Cited column width) = written_padded (layout_of lines.plan).delimiter width (cited_for lines index changed column)

abbrev pub part_size : LinesOf → ReadyPart → ℕ
part_size lines (part.Literal bytes) = length bytes
part_size lines (part.Cited column width) = padded_size lines column width

-- how many permutations a cited column and a part take, by whether the row's key is known
abbrev pub cited_asked : Bool → LinesOf → ℕ → ℕ
cited_asked known lines column = asked_alone known (layout_of lines.plan) lines.table column

abbrev pub part_asked : Bool → LinesOf → ReadyPart → ℕ
part_asked known lines (part.Literal bytes) = 0
part_asked known lines (part.Cited column width) = cited_asked known lines column

abbrev pub IsPartOfTemplate : LinesOf → ReadyPart → Type 0
IsPartOfTemplate lines (part.Literal bytes) = ⊤
IsPartOfTemplate lines (part.Cited column width) = IsCitation lines column width
