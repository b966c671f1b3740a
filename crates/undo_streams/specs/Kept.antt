-- What the code keeps of the packages of an undo text.
use Rattle.std.specs.Prelude.{◌≡◌, ◌<◌, ◌≤◌, ℕ, ◌-◌, ◌^◌, length}
use Rattle.schema_facts.specs.Dictionaries.{Project}
use Rattle.life_intervals.specs.Generator.{last_unit}
use Rattle.row_lines.specs.Runs.{RunLinesOf}
use Rattle.undo_streams.specs.Packages.{AreChanges, Packages, count_of, lines_in, room_of}
use Rattle.undo_streams.specs.declared.changes.Changes.{Changes}

-- the lines of the table at the unit before
abbrev pub lines_before : Packages → RunLinesOf
lines_before packages = record { plan = packages.plan; table = packages.table; unit = packages.unit - 1 }

-- the lines and the changes are those of the packages, and so are their number and the room that they want
pub record AreKept (packages : Packages) (lines : RunLinesOf) (changes : Changes) (count room : ℕ) : Type 0 where
  pub lines_are : lines ≡ lines_before packages
  pub changes_are : AreChanges packages.plan packages.table packages.unit changes
  pub table : packages.table < length packages.plan.schema.tables
  pub later : 1 ≤ packages.unit
  pub reached : packages.unit ≤ last_unit packages.plan
  pub some_line : 1 ≤ packages.size
  pub size_limit : packages.size ≤ 1000000
  pub count_is : count ≡ count_of packages
  pub few : length (lines_in packages) ≤ 2 ^ 42
  pub room_is : room ≡ room_of packages
