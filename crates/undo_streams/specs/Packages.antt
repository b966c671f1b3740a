-- The packages of an undo text: so many lines each, but the last one those that are left.
use Rattle.std.specs.Prelude.{◌≡◌, ℕ, ◌+◌, ◌-◌, ◌*◌, ◌/◌, List, drop, length, map, min, take}
use Rattle.std.specs.List.{concat}
use Rattle.schema_facts.specs.Dictionaries.{Project}
use Rattle.schema_facts.specs.Layout.{layout_of}
use Rattle.schema_facts.specs.TableFacts.{max_line}
use Rattle.life_intervals.specs.CohortKeys.{IsCohort}
use Rattle.life_intervals.specs.Generator.{generator_of}
use Rattle.life_intervals.specs.Rows.{Row}
use Rattle.life_intervals.specs.Streams.{deleted, updated}
use Rattle.undo_streams.specs.Places.{places_of}
use Rattle.undo_streams.specs.UndoText.{undo_lines_of}
use Rattle.undo_streams.specs.declared.changes.Changes.{Changes}
use Rattle.undo_streams.specs.declared.undo_packer.TheConstants.{WORD_AND_PLACE}

-- the ordinals of rows
abbrev pub ordinals_of : List Row → List ℕ
ordinals_of rows = map (λ (row : Row). row.ordinal) rows

-- these are the rows that a unit deletes and updates in the table at a place, the cohort that it inserts, and the places that the deleted
-- rows had at the unit before
pub record AreChanges (plan : Project) (table unit : ℕ) (changes : Changes) : Type 0 where
  pub deleted : changes.deleted.now ≡ ordinals_of (deleted (generator_of plan) table unit)
  pub updated : changes.updated.now ≡ ordinals_of (updated (generator_of plan) table unit)
  pub inserted : IsCohort plan table unit changes.inserted
  pub places : changes.places.now ≡ places_of plan table (unit - 1) changes.deleted.now

-- the undo text of the table at a place at a unit, in packages of so many lines
pub record Packages : Type 0 where
  pub plan : Project
  pub table : ℕ
  pub unit : ℕ
  pub size : ℕ

-- its lines, and how many packages these give
abbrev pub lines_in : Packages → List (List ℕ)
lines_in packages = undo_lines_of packages.plan packages.unit packages.table

abbrev pub count_of : Packages → ℕ
count_of packages = (length (lines_in packages) + (packages.size - 1)) / packages.size

-- the text of the package of a number
abbrev pub text_numbered : Packages → ℕ → List ℕ
text_numbered packages n = concat (take packages.size (drop (n * packages.size) (lines_in packages)))

-- the most bytes that a line takes: a word, a place, the delimiters after these, and the greatest line of the table
abbrev pub most_bytes : Project → ℕ → ℕ
most_bytes plan table = WORD_AND_PLACE + max_line (layout_of plan) table

-- the room that the packages want of a page
abbrev pub room_of : Packages → ℕ
room_of packages = min packages.size (length (lines_in packages)) * most_bytes packages.plan packages.table
