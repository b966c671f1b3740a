use Rattle.std.proofs.Common.{◌≡◌, ◌-◌, ◌%◌, ◌++◌, min, filter}
use Rattle.std.specs.Prelude.{◌==◌}
use Rattle.std.specs.List.{range_with_len}
use Rattle.life_intervals.specs.Blocks.{block_start}
use Rattle.life_intervals.specs.References.{choice}
use Rattle.life_intervals.proofs.children.push_choosing.Given as goal

-- the places before a block of the candidate stand after the list
abbrev pub invariant-loop-block : goal.invariant-loop-block
invariant-loop-block l = record {
  own : l.number % l.count ≡ l.candidate;
  so_far : l.places.items ≡ l.fn.places.items
      ++ filter (λ place. choice l.reference.spread l.count place == l.candidate) (range_with_len 0 (min l.size (block_start l.reference.spread l.number)));
}

abbrev pub decreases-loop-block : goal.decreases-loop-block
decreases-loop-block l = l.size - l.number
