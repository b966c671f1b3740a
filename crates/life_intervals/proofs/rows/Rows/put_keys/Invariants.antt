use Rattle.std.proofs.Common.{◌≡◌, ◌≤◌, ◌+◌, ◌*◌, ◌-◌, length, map, take}
use Rattle.schema_facts.specs.Lineage.{one_if}
use Rattle.life_intervals.specs.Generator.{generator_of, last_unit, table_of}
use Rattle.life_intervals.specs.Keys.{key_of}
use Rattle.life_intervals.proofs.rows.Rows.put_keys.Given as goal

-- what has been put of the rows before one
abbrev pub invariant-loop-from : goal.invariant-loop-from
invariant-loop-from g l = record {
  within : l.from ≤ length l.births;
  same_length : length l.keys ≡ length l.ordinals;
  so_far : take l.from l.keys ≡ map (λ j. key_of (generator_of l.self) l.table (last_unit l.self) j) (take l.from l.ordinals);
  steps : l.steps ≡ l.fn.steps + l.from * one_if (table_of l.self l.table).key.scramble;
}

abbrev pub decreases-loop-from : goal.decreases-loop-from
decreases-loop-from g l = length l.births - l.from
