use Rattle.std.proofs.Common.{◌≡◌, ◌+◌, ◌≤◌, map}
use Rattle.std.specs.List.{range_with_len}
use Rattle.update_box.specs.Found.{lists_as_needed}
use Rattle.update_box.specs.TableLists.{lists_of}
use Rattle.update_box.proofs.CostLemmas.{cost_before}
use Rattle.update_box.proofs.units.all_sought.Given as goal

abbrev pub invariant-loop-place : goal.invariant-loop-place
invariant-loop-place g l = record {
  lists : map lists_of l.tables.items ≡ map (lists_as_needed l.rows l.t l.table l.needed) (range_with_len 0 l.place);
  steps : l.steps ≤ l.initial.steps + cost_before l.rows l.t l.place;
}
