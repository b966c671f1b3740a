use Rattle.std.proofs.Common.{◌≡◌, ◌+◌, ◌-◌, ◌*◌, ◌≤◌}
use Rattle.life_intervals.specs.CohortParents.{asked_for_death}
use Rattle.undo_streams.specs.Places.{living_among}
use Rattle.undo_streams.proofs.row_places.living_between.Given as goal

abbrev pub invariant-loop-from : goal.invariant-loop-from
invariant-loop-from g l =
    (l.first ≤ l.from) × (l.from ≤ l.end) × (l.living ≡ living_among l.rows l.table l.t l.first (l.from - l.first))
    × (l.living ≤ l.from - l.first) × (l.steps ≤ l.initial.steps + (l.from - l.first) * asked_for_death l.rows l.table)

abbrev pub decreases-loop-from : goal.decreases-loop-from
decreases-loop-from g l = l.end - l.from
