use Rattle.std.proofs.Common.{◌≡◌, ◌+◌, ◌*◌, ◌<◌, ◌≤◌, get_or, length, take}
use Rattle.cohort_sizes.specs.Births.{born_count}
use Rattle.life_intervals.specs.CohortParents.{asked_for_death}
use Rattle.life_intervals.specs.Generator.{table_of}
use Rattle.undo_streams.specs.Places.{living_among, places_of}
use Rattle.undo_streams.proofs.row_places.places.Given as goal

abbrev pub invariant-loop-ordinal : goal.invariant-loop-ordinal
invariant-loop-ordinal g l = record {
  places : l.places.items ≡ places_of l.rows l.table l.t (take l.ordinal-index l.ordinals);
  early : l.ordinal-index < length l.ordinals → l.from ≤ get_or l.ordinals l.ordinal-index 0;
  born : l.from ≤ born_count (table_of l.rows l.table).births l.t;
  before : l.before ≡ living_among l.rows l.table l.t 0 l.from;
  few : l.before ≤ l.from;
  steps : l.steps ≤ l.initial.steps + l.from * asked_for_death l.rows l.table;
}
