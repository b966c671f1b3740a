use Rattle.std.proofs.Common.{◌≡◌, true}
use Rattle.std.specs.List.{list_all, range_with_len}
use Rattle.schema_facts.specs.Layout.{births_of, window_layout}
use Rattle.schema_plan.specs.Rules.{has_parent_row, table_in}
use Rattle.schema_check.proofs.ReferenceLemmas.{IsLatest}
use Rattle.schema_check.proofs.reference_rules.has_parent_rows.Given as goal

abbrev pub invariant-loop-unit : goal.invariant-loop-unit
invariant-loop-unit l = record {
  latest : IsLatest (births_of (table_in l.tables l.parent)) l.unit l.latest;
  tried : list_all (has_parent_row (births_of (table_in l.tables l.child)) (births_of (table_in l.tables l.parent)) (window_layout l.window)) (range_with_len 0 l.unit) ≡ true;
}
