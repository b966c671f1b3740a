use Rattle.std.proofs.Common.{◌≡◌, ◌≤◌, ◌+◌, ◌*◌, ◌++◌, length, take}
use Rattle.std.specs.List.{flat_map}
use Rattle.schema_facts.specs.Lineage.{one_if}
use Rattle.life_intervals.specs.Blocks.{places_of_parent}
use Rattle.life_intervals.proofs.rows.Rows.push_children.Given as goal

-- the places at which the rows before one are chosen stand after the list, and each of these rows took a step where they are drawn
abbrev pub invariant-loop-parent : goal.invariant-loop-parent
invariant-loop-parent g l = record {
  places : l.children.items
      ≡ l.fn.children.items ++ flat_map (places_of_parent l.reference.spread l.deal l.window.first l.size) (take l.parent-index l.parents);
  within : l.parent-index ≤ length l.parents;
  least : l.fn.steps ≤ l.steps;
  steps : l.steps ≤ l.fn.steps + l.parent-index * one_if l.reference.drawn;
}
