-- What is made ready for the lines of a job's tables.
use Rattle.std.specs.Prelude.{◌≡◌, ◌<◌, ◌≤◌, ℕ, ◌+◌, ◌^◌, List, Option, length, slice_index_or}
use Rattle.std.specs.List.{range_with_len}
use Rattle.schema_facts.specs.Dictionaries.{Project}
use Rattle.life_intervals.specs.JobOrders.{AreOrdersOf, entries_of}
use Rattle.life_intervals.specs.declared.kept.TableOrders.{TableOrders}
use Rattle.row_lines.specs.TableLines.{AreTableLines, TableLinesOf}
use Rattle.update_box.specs.Packages.{chosen_places}

-- the orders of the tables, and what the lines of those from a place on are made from
pub record Prepared : Type 0 where
  pub from : ℕ
  pub orders : List TableOrders
  pub lines : List TableLinesOf

-- the table at a place is one of them
pub record IsAmong (tables : Prepared) (place : ℕ) : Type 0 where
  pub begun : tables.from ≤ place
  pub not_ended : place < tables.from + length tables.lines

-- they are a plan's tables
pub record ArePrepared (plan : Project) (tables : Prepared) : Type 0 where
  pub orders : AreOrdersOf plan tables.orders
  pub entries : entries_of tables.orders ≤ 2 ^ 23
  pub within : tables.from + length tables.lines ≤ length plan.schema.tables
  pub some : 1 ≤ length tables.lines
  pub few : length tables.lines ≤ 64
  pub lines : (number : ℕ) (d : TableLinesOf) → number < length tables.lines → AreTableLines plan (tables.from + number) (slice_index_or tables.lines number d)

-- and those that are chosen
abbrev pub AreChosen : Project → Option ℕ → Prepared → Type 0
AreChosen plan table tables = range_with_len tables.from (length tables.lines) ≡ chosen_places plan table
