use Rattle.std.proofs.Common.{◌≡◌, map}
use Rattle.std.specs.List.{range_with_len}
use Rattle.life_intervals.specs.CohortParents.{window_by}
use Rattle.life_intervals.proofs.kept.windows_of.Given as goal

abbrev pub invariant-loop-unit : goal.invariant-loop-unit
invariant-loop-unit l = l.windows.items ≡ map (window_by l.plan l.reference) (range_with_len 0 l.unit)
