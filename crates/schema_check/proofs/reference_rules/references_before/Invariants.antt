use Rattle.std.proofs.Common.{◌≡◌, ◌≤◌, take}
use Rattle.std.specs.List.{count_by}
use Rattle.schema_model.specs.declared.column.Column.{Column}
use Rattle.schema_plan.specs.Rules.{is_reference}
use Rattle.schema_check.proofs.reference_rules.references_before.Given as goal

abbrev pub invariant-loop-column : goal.invariant-loop-column
invariant-loop-column l = record {
  so_far : l.count ≡ count_by (λ (column : Column). is_reference column.kind) (take l.column-index l.column-items);
  within : l.count ≤ l.column-index;
}
