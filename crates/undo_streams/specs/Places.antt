-- Places of rows in the lists of their tables, counted by the rows that are alive.
use Rattle.std.specs.Prelude.{◌≡◌, ◌<◌, ℕ, ◌+◌, List, count_by, map}
use Rattle.std.specs.List.{range_with_len}
use Rattle.cohort_sizes.specs.Births.{LiesIn}
use Rattle.schema_facts.specs.Dictionaries.{Project}
use Rattle.life_intervals.specs.Generator.{generator_of, table_of}
use Rattle.life_intervals.specs.Intervals.{is_live}
use Rattle.undo_streams.specs.UndoText.{place_of}

-- how many of some rows of the table at a place, as many as `count` from the one with a first ordinal on, are alive at a unit
abbrev pub living_among : Project → ℕ → ℕ → ℕ → ℕ → ℕ
living_among plan table unit first count = count_by (is_live (generator_of plan) table unit) (range_with_len first count)

-- these rows are born at one unit
abbrev pub AreBornAt : Project → ℕ → ℕ → ℕ → ℕ → Type 0
AreBornAt plan table born first count = (i : ℕ) → i < count → LiesIn (table_of plan table).births born (first + i)

-- the place, from 0, of each of some rows in the list of the rows that the table holds at a unit
abbrev pub places_of : Project → ℕ → ℕ → List ℕ → List ℕ
places_of plan table unit ordinals = map (place_of (generator_of plan) table unit) ordinals
