-- The statements of a script, and what they make of the rows of a database, which has each under its table and its key.
use Rattle.std.specs.Prelude.{ℕ, List, [], flat_map, fold, if◌then◌else◌, map, nat_le, Option, Some, None}
use Rattle.schema_facts.specs.Dictionaries.{Project}
use Rattle.life_intervals.specs.Generator.{generator_of}
use Rattle.life_intervals.specs.Rows.{Row}
use Rattle.life_intervals.specs.Simulation.{rows_at}
use Rattle.life_intervals.specs.Streams.{deleted, inserted, updated}
use Rattle.row_keeper.specs.Kept.{KeptRow, KeptRows, with_row}
use Rattle.keeper_play.specs.Statements.{kept_row, row_key}
use Rattle.update_box.specs.Parts.{Part}
use Rattle.update_box.specs.declared.parts.Content.{Content}
use Rattle.update_box.specs.declared.parts.Content.TheVariants as content
use Rattle.sql_lines.specs.Script.{snapshot_script, unit_script}
use Rattle.sql_lines.specs.Statements.{column_count, deletion, insertion, update}

-- ---- what a statement does

-- it puts a row under a key of a table, sets the row that stands there, or drops it
pub data Effect : Type 0 where
  inserts : ℕ → ℕ → KeptRow → Effect
  sets : ℕ → ℕ → KeptRow → Effect
  deletes : ℕ → ℕ → Effect

-- what becomes of a row that is set: where there is none, there is none then
abbrev pub set_to : KeptRow → Option KeptRow → Option KeptRow
set_to row None = None
set_to row (Some old) = Some row

-- the rows after a statement, and after several, in order
abbrev pub after_effect : KeptRows → Effect → KeptRows
after_effect rows (inserts table key row) = with_row table key (Some row) rows
after_effect rows (sets table key row) = with_row table key (set_to row (rows table key)) rows
after_effect rows (deletes table key) = with_row table key None rows

abbrev pub after_effects : List Effect → KeptRows → KeptRows
after_effects effects rows = fold after_effect rows effects

-- ---- statements

-- a statement: its text, and what it does
pub record ScriptStatement : Type 0 where
  pub text : List ℕ
  pub does : Effect

-- those of a row at a unit
abbrev pub inserting : Project → ℕ → ℕ → Row → ScriptStatement
inserting plan unit place row = record {
  text = insertion plan unit place row;
  does = inserts place (row_key (generator_of plan) place row) (kept_row (generator_of plan) unit place row);
}

abbrev pub updating : Project → ℕ → ℕ → Row → ScriptStatement
updating plan unit place row = record {
  text = update plan unit place row;
  does = sets place (row_key (generator_of plan) place row) (kept_row (generator_of plan) unit place row);
}

abbrev pub deleting : Project → ℕ → Row → ScriptStatement
deleting plan place row = record { text = deletion plan place row.ordinal; does = deletes place (row_key (generator_of plan) place row) }

-- those of what is told of a table at a unit: a table that has the key alone has no updates
abbrev pub statements_at : Project → ℕ → ℕ → Content → List ScriptStatement
statements_at plan unit place content.Snapshot = map (inserting plan unit place) (rows_at (generator_of plan) place unit)
statements_at plan unit place content.Deleted = map (deleting plan place) (deleted (generator_of plan) place unit)
statements_at plan unit place content.Updated =
    if nat_le (column_count plan place) 1 then [] else map (updating plan unit place) (updated (generator_of plan) place unit)
statements_at plan unit place content.Inserted = map (inserting plan unit place) (inserted (generator_of plan) place unit)

-- ---- scripts

-- the statements of some parts, in order
abbrev pub statements_of : Project → ℕ → List Part → List ScriptStatement
statements_of plan unit parts = flat_map (λ (part : Part). statements_at plan unit part.place part.content) parts

-- those of the script of a snapshot of all tables, and of a unit
abbrev pub snapshot_statements : Project → ℕ → List ScriptStatement
snapshot_statements plan unit = statements_of plan unit (snapshot_script plan None)

abbrev pub unit_statements : Project → ℕ → List ScriptStatement
unit_statements plan unit = statements_of plan unit (unit_script plan None)

-- what some statements do, one after the other
abbrev pub effects_of : List ScriptStatement → List Effect
effects_of statements = map (λ (statement : ScriptStatement). statement.does) statements
