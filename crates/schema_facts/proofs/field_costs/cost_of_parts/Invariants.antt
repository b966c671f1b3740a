use Rattle.std.proofs.Common.{◌≡◌, sum_by, take}
use Rattle.schema_model.specs.declared.column.Part.{Part}
use Rattle.schema_facts.specs.Capped.{capped}
use Rattle.schema_facts.specs.FieldCosts.{cost_of_part}
use Rattle.schema_facts.specs.Layout.{part_layout}
use Rattle.schema_facts.proofs.field_costs.cost_of_parts.Given as goal

abbrev pub invariant-loop-part : goal.invariant-loop-part
invariant-loop-part l =
    l.cost ≡ capped (sum_by (λ (part : Part). cost_of_part l.before.columns.now (part_layout l.before.table.now.columns part)) (take l.part-index l.parts))
