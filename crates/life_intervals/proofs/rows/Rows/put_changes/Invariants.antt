use Rattle.std.proofs.Common.{◌≡◌, ◌≤◌, ◌+◌, ◌*◌, ◌-◌, length, map, take}
use Rattle.life_intervals.specs.CohortParents.{asked_for_change}
use Rattle.life_intervals.specs.Generator.{generator_of}
use Rattle.life_intervals.specs.Intervals.{change_unit}
use Rattle.life_intervals.proofs.rows.Rows.put_changes.Given as goal

-- what has been put of the rows before one
abbrev pub invariant-loop-from : goal.invariant-loop-from
invariant-loop-from g l = record {
  within : l.from ≤ length l.births;
  same_length : length l.changes ≡ length l.ordinals;
  so_far : take l.from l.changes ≡ map (λ j. change_unit (generator_of l.self) l.table l.t j) (take l.from l.ordinals);
  steps : l.steps ≤ l.fn.steps + l.from * asked_for_change l.self l.table;
}

abbrev pub decreases-loop-from : goal.decreases-loop-from
decreases-loop-from g l = length l.births - l.from
