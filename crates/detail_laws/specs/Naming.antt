-- The lines of a detail table's text, each of which names a row of the parent.
use Rattle.std.specs.Prelude.{◌≡◌, ℕ, List, [], ◌∷◌, All}
use Rattle.row_text.specs.Lines.{line_text}
use Rattle.schema_facts.specs.Dictionaries.{Project}
use Rattle.schema_facts.specs.Layout.{layout_of}
use Rattle.life_intervals.specs.Generator.{generator_of}
use Rattle.stream_apply.specs.KeyedLines.{KeyedLine}
use Rattle.stream_apply.specs.Streams.{IsLoaded, text_fields}
use Rattle.stream_apply.specs.declared.key_fields.KeyFields.TheVariants.{Two}
use Rattle.update_box.specs.TextLaws.{lines_with_key}
use Rattle.detail_plan.specs.Kept.{Kept}
use Rattle.detail_lines.specs.Lines.{detail_text, parent_place}

-- the key of a line is two fields, of which the first is the key of exactly one line of the parent's text at a unit
abbrev pub NamesOneRow : Project → Kept → ℕ → KeyedLine → Type 0
NamesOneRow plan kept unit line =
    (row_key number : List ℕ)
    × (line.key ≡ line_text (layout_of plan).delimiter (text_fields (row_key ∷ number ∷ [])))
    × (lines_with_key (generator_of plan) unit (parent_place plan kept.detail) row_key ≡ 1)

-- the lines of a detail table's text at a unit: no two have one key, and each names one row of the parent
pub record AreDetailLines (plan : Project) (kept : Kept) (unit : ℕ) (lines : List KeyedLine) : Type 0 where
  pub read :
      IsLoaded (detail_text plan kept unit) Two (layout_of plan).delimiter
      (record { keys = Two; delimiter = (layout_of plan).delimiter; lines = lines })
  pub name : All (NamesOneRow plan kept unit) lines
