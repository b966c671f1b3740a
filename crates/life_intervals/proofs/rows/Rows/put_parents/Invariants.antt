use Rattle.std.proofs.Common.{◌≡◌, ◌≤◌, ◌+◌, ◌-◌, ◌*◌, length, map, take}
use Rattle.schema_facts.specs.Lineage.{choice_cost}
use Rattle.life_intervals.specs.CohortParents.{reference_by}
use Rattle.life_intervals.specs.Generator.{generator_of, last_unit}
use Rattle.life_intervals.specs.Intervals.{parent_of}
use Rattle.life_intervals.proofs.rows.Rows.put_parents.Given as goal

-- what has been put of the rows before one
abbrev pub invariant-loop-from : goal.invariant-loop-from
invariant-loop-from g l = record {
  within : l.from ≤ length l.births;
  same_length : length l.parents ≡ length l.ordinals;
  so_far : take l.from l.parents ≡ map (λ j. parent_of (generator_of l.self) l.table (last_unit l.self) j (reference_by l.column l.reference)) (take l.from l.ordinals);
  steps : l.steps ≡ l.fn.steps + l.from * choice_cost l.reference.drawn;
}

abbrev pub decreases-loop-from : goal.decreases-loop-from
decreases-loop-from g l = length l.births - l.from
