use Rattle.std.proofs.Common.{◌∷◌, ◌++◌, [], length, ap, arith, ◌∙◌}
use Rattle.std.proofs.lemmas.List.FromFn.{length-map-range_with_len}
use Rattle.life_intervals.specs.declared.window.CandidateWindow.{CandidateWindow}
use Rattle.life_intervals.specs.CohortParents.{window_by}
use Rattle.life_intervals.proofs.KeptLemmas.{IsKeptByUnit-all, kept-more}
use Rattle.life_intervals.proofs.kept.windows_of.Goals as goal

pub loop-unit-preserved : goal.loop-unit-preserved
loop-unit-preserved c =
    kept-more (window_by c.args.plan.now c.args.reference.now) c.loop-unit.windows.items _ c.loop-unit.unit c.loop-unit.invariant
    (c.in_ok-push.ensures.items ∙ ap (λ (w : CandidateWindow). c.loop-unit.windows.items ++ w ∷ []) c.of_cohort.ensures)

pub returns : goal.returns
returns c =
    let windows = window_by c.args.plan.now c.args.reference.now in
    record {
      windows = IsKeptByUnit-all windows c.loop-unit.windows.items c.loop-unit.unit c.loop-unit.invariant;
      count = omega (arith, ap length c.loop-unit.invariant, length-map-range_with_len windows 0 c.loop-unit.unit, c.loop-unit.auto.unit-end, c.loop-unit-test.false);
    }
