-- The parts of a script, tables with what is told of them, in the order in which a database runs it, and their texts.
use Rattle.std.specs.Prelude.{ℕ, ◌+◌, ◌&&◌, ◌++◌, ◌∷◌, List, [], filter, flat_map, nat_le, nat_lt, Option, reverse}
use Rattle.std.specs.List.{slice_range}
use Rattle.cohort_sizes.specs.Births.{first_ordinal}
use Rattle.schema_facts.specs.Dictionaries.{Project}
use Rattle.life_intervals.specs.Generator.{generator_of, table_of}
use Rattle.life_intervals.specs.Rows.{Row}
use Rattle.life_intervals.specs.Simulation.{rows_at}
use Rattle.life_intervals.specs.Streams.{deleted, inserted, updated}
use Rattle.update_box.specs.Packages.{Share, chosen_places, share_of}
use Rattle.update_box.specs.Parts.{Part, parts_of, snapshot_contents}
use Rattle.update_box.specs.UnitLists.{table_lists}
use Rattle.update_box.specs.declared.parts.Content.{Content}
use Rattle.update_box.specs.declared.parts.Content.TheVariants as content
use Rattle.update_box.specs.declared.parts.Job.{Job}
use Rattle.sql_lines.specs.Packages.{Packages, StatedRows, deleted_rows, inserted_rows, updated_rows}
use Rattle.sql_lines.specs.Statements.{deletion, insertion, update}

-- ---- the order

-- the parts of the script of a snapshot, of the tables that are chosen: the insertions table by table
abbrev pub snapshot_script : Project → Option ℕ → List Part
snapshot_script plan table = parts_of snapshot_contents (chosen_places plan table)

-- those of the script of a unit: the updates table by table, the deletions in the contrary order, and the insertions table by table
abbrev pub unit_script : Project → Option ℕ → List Part
unit_script plan table =
    parts_of (content.Updated ∷ []) (chosen_places plan table)
    ++ parts_of (content.Deleted ∷ []) (reverse (chosen_places plan table))
    ++ parts_of (content.Inserted ∷ []) (chosen_places plan table)

-- ---- the texts

-- what is told of a table at a unit, whole, as statements
abbrev pub statements_text : Project → ℕ → ℕ → Content → List ℕ
statements_text plan unit place content.Snapshot = flat_map (insertion plan unit place) (rows_at (generator_of plan) place unit)
statements_text plan unit place content.Deleted =
    flat_map (λ (row : Row). deletion plan place row.ordinal) (deleted (generator_of plan) place unit)
statements_text plan unit place content.Updated = flat_map (update plan unit place) (updated (generator_of plan) place unit)
statements_text plan unit place content.Inserted = flat_map (insertion plan unit place) (inserted (generator_of plan) place unit)

-- the insertions of the rows that a table holds at a unit and whose ordinals lie from a first one up to another
abbrev pub held_insertions : Project → ℕ → ℕ → ℕ → ℕ → List ℕ
held_insertions plan unit place first end =
    flat_map (insertion plan unit place)
    (filter (λ (row : Row). nat_le first row.ordinal && nat_lt row.ordinal end) (rows_at (generator_of plan) place unit))

-- what is told of a table's entries from a position up to another, as statements: of a snapshot of those rows that the table holds, and of
-- what the unit changes of the rows at these positions
unfoldable pub statements_in : Project → ℕ → ℕ → Content → ℕ → ℕ → List ℕ
statements_in plan unit place content.Snapshot first end = held_insertions plan unit place first end
statements_in plan unit place content.Deleted first end =
    flat_map (λ (row : Row). deletion plan place row.ordinal) (slice_range (deleted (generator_of plan) place unit) first end)
statements_in plan unit place content.Updated first end =
    flat_map (update plan unit place) (slice_range (updated (generator_of plan) place unit) first end)
statements_in plan unit place content.Inserted first end =
    flat_map (insertion plan unit place) (slice_range (inserted (generator_of plan) place unit) first end)

-- the statements of a share, and of the share of a part for a job's node
abbrev pub share_statements : Project → ℕ → Share → List ℕ
share_statements plan unit share = statements_in plan unit share.part.place share.part.content share.first share.end

abbrev pub part_statements : Project → Job → Part → List ℕ
part_statements plan job part = share_statements plan job.unit (share_of plan job part)

-- ---- the packages

-- the rows of a table's entries from a position up to another
abbrev pub rows_in : Project → ℕ → ℕ → Content → ℕ → ℕ → StatedRows
rows_in plan unit place content.Snapshot first end = inserted_rows first end unit
rows_in plan unit place content.Deleted first end = deleted_rows (slice_range (table_lists plan unit place).deleted first end)
rows_in plan unit place content.Updated first end = updated_rows (slice_range (table_lists plan unit place).updated first end) unit
rows_in plan unit place content.Inserted first end =
    inserted_rows (first_ordinal (table_of plan place).births unit + first) (first_ordinal (table_of plan place).births unit + end) unit

-- the packages of a share, and of the share of a part for a job's node
abbrev pub packages_of_share : Project → ℕ → ℕ → Share → Packages
packages_of_share plan unit size share = record {
  plan = plan;
  table = share.part.place;
  rows = rows_in plan unit share.part.place share.part.content share.first share.end;
  size = size;
}

abbrev pub packages_of_part : Project → Job → Part → Packages
packages_of_part plan job part = packages_of_share plan job.unit job.package (share_of plan job part)
