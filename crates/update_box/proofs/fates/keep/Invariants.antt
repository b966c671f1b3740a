use Rattle.std.proofs.Common.{◌+◌, ◌*◌, ◌≤◌}
use Rattle.std.proofs.lemmas.List.Filters.{FiltersInPlace}
use Rattle.schema_facts.specs.Layout.{layout_of}
use Rattle.schema_facts.specs.Lineage.{death_cost}
use Rattle.update_box.specs.Fates.{has_fate}
use Rattle.update_box.proofs.fates.keep.Given as goal

abbrev pub invariant-loop-i : goal.invariant-loop-i
invariant-loop-i g l = record {
  kept : FiltersInPlace (has_fate l.rows l.table l.t l.fate) l.initial.list.items l.list.items l.kept l.i;
  steps : l.steps ≤ l.initial.steps + l.i * death_cost (layout_of l.rows).tables l.table;
}
