use Rattle.std.proofs.Common.{◌≡◌, ◌+◌, ◌-◌, ◌*◌, ◌≤◌}
use Rattle.life_intervals.specs.CohortParents.{asked_for_death}
use Rattle.undo_streams.specs.Places.{living_among}
use Rattle.undo_streams.proofs.row_places.living_in_runs.Given as goal

abbrev pub invariant-loop-done : goal.invariant-loop-done
invariant-loop-done g l =
    (l.done ≤ l.count) × (l.living ≡ living_among l.rows l.table l.t l.first l.done) × (l.living ≤ l.done)
    × (l.steps ≤ l.initial.steps + l.done * asked_for_death l.rows l.table)

abbrev pub decreases-loop-done : goal.decreases-loop-done
decreases-loop-done g l = l.count - l.done
