-- The parts of a job, tables with what is told of them, and the texts of their entries.
use Rattle.std.specs.Prelude.{ℕ, ◌&&◌, ◌++◌, ◌∷◌, List, [], codes, decimal, filter, flat_map, length, map, nat_le, nat_lt, slice_index_or, slice_range}
use Rattle.schema_model.specs.declared.table.Schema.{Schema}
use Rattle.schema_model.specs.declared.table.Table.{Table}
use Rattle.cohort_sizes.specs.Births.{born_count, cohort_size}
use Rattle.schema_facts.specs.Dictionaries.{Project}
use Rattle.life_intervals.specs.Generator.{Generator, generator_of, last_unit, table_of}
use Rattle.life_intervals.specs.Rows.{Row}
use Rattle.life_intervals.specs.Simulation.{rows_at}
use Rattle.life_intervals.specs.Streams.{deleted, inserted, updated}
use Rattle.row_lines.specs.Lines.{deleted_text, inserted_text, key_line_of, line, table_text, updated_text}
use Rattle.update_box.specs.declared.parts.Content.{Content}
use Rattle.update_box.specs.declared.parts.Content.TheVariants as content

-- a table by its place, with what is told of it
pub record Part : Type 0 where
  pub place : ℕ
  pub content : Content

-- these contents, in order, of the table at a place, and of those at some places
abbrev pub parts_at : List Content → ℕ → List Part
parts_at contents place = map (λ content. record { place = place; content = content }) contents

abbrev pub parts_of : List Content → List ℕ → List Part
parts_of contents places = flat_map (parts_at contents) places

-- what a snapshot tells of each table, and what is told of what a unit changes, in order
abbrev pub snapshot_contents : List Content
snapshot_contents = content.Snapshot ∷ []

abbrev pub unit_contents : List Content
unit_contents = content.Deleted ∷ content.Updated ∷ content.Inserted ∷ []

-- what is told of a table at a unit, whole
abbrev pub content_text : Project → ℕ → ℕ → Content → List ℕ
content_text plan unit place content.Snapshot = table_text (generator_of plan) unit place
content_text plan unit place content.Deleted = deleted_text plan unit place
content_text plan unit place content.Updated = updated_text plan unit place
content_text plan unit place content.Inserted = inserted_text plan unit place

-- how many entries a table has at a unit: the ordinals of all rows that are born by it, or the rows that it deletes, updates or inserts
abbrev pub content_count : Project → ℕ → ℕ → Content → ℕ
content_count plan unit place content.Snapshot = born_count (table_of plan place).births unit
content_count plan unit place content.Deleted = length (deleted (generator_of plan) place unit)
content_count plan unit place content.Updated = length (updated (generator_of plan) place unit)
content_count plan unit place content.Inserted = cohort_size (table_of plan place).births unit

abbrev pub entries_in : Project → ℕ → Part → ℕ
entries_in plan unit part = content_count plan unit part.place part.content

-- the lines of the rows that a table holds at a unit and whose ordinals lie from a first one up to another
abbrev pub held_lines : Generator → ℕ → ℕ → ℕ → ℕ → List ℕ
held_lines generator unit place first end =
    flat_map (line generator unit place)
    (filter (λ (row : Row). nat_le first row.ordinal && nat_lt row.ordinal end) (rows_at generator place unit))

-- what is told of a table's entries from a position up to another: of a snapshot the lines of those rows that the table holds, and of what
-- the unit changes the lines of the rows at these positions, or their key lines
unfoldable pub range_text : Project → ℕ → ℕ → Content → ℕ → ℕ → List ℕ
range_text plan unit place content.Snapshot first end = held_lines (generator_of plan) unit place first end
range_text plan unit place content.Deleted first end =
    flat_map (λ (row : Row). key_line_of (generator_of plan) (last_unit plan) place row.ordinal)
    (slice_range (deleted (generator_of plan) place unit) first end)
range_text plan unit place content.Updated first end =
    flat_map (line (generator_of plan) unit place) (slice_range (updated (generator_of plan) place unit) first end)
range_text plan unit place content.Inserted first end =
    flat_map (line (generator_of plan) unit place) (slice_range (inserted (generator_of plan) place unit) first end)

-- the name of the standard output
abbrev pub standard_output : List ℕ
standard_output = codes "-"

-- the name of the table at a place of a schema, counted from 0
abbrev pub name_at : Schema → ℕ → List ℕ
name_at schema place = slice_index_or (map (λ (table : Table). table.name) schema.tables) place []

-- how the name of a file ends that holds nothing but this content of a table at a unit
abbrev pub ending_of : ℕ → Content → List ℕ
ending_of unit content.Snapshot = codes ".tbl"
ending_of unit content.Deleted = codes "." ++ decimal unit ++ codes ".del"
ending_of unit content.Updated = codes "." ++ decimal unit ++ codes ".upd"
ending_of unit content.Inserted = codes "." ++ decimal unit ++ codes ".ins"

-- the name of the file of a part in a directory
abbrev pub path_of : Project → ℕ → List ℕ → Part → List ℕ
path_of plan unit directory part = (directory ++ codes "/") ++ name_at plan.schema part.place ++ ending_of unit part.content
