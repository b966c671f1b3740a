use Rattle.std.proofs.Common.{◌≡◌, ◌+◌, ◌*◌, ◌≤◌, ℕ, arith}
use Rattle.std.proofs.Math.Nat.{add-mul}
use Rattle.life_intervals.specs.CohortParents.{asked_for_death}
use Rattle.undo_streams.proofs.PlaceLemmas.{born-from, living_among-add}
use Rattle.undo_streams.proofs.row_places.living_in_runs.Goals as goal

pub loop-done-preserved : goal.loop-done-preserved
loop-done-preserved g c =
    let some : ℕ = c.min-some.result in
    let within : c.loop-done.done + some ≤ c.args.count = omega (arith, c.min-some.ensures, c.loop-done-test.true) in (
      within,
      omega (arith, c.loop-done.invariant.1, c.living_in_run-living.ensures.living, living_among-add c.args.rows.now c.args.table c.args.t c.args.first c.loop-done.done some),
      omega (arith, c.loop-done.invariant.2, c.living_in_run-living.ensures.most),
      omega (arith, c.loop-done.invariant.3, c.living_in_run-living.ensures.steps, add-mul c.loop-done.done some (asked_for_death c.args.rows.now c.args.table)),
    )
