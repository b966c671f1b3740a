use Rattle.std.proofs.Common.{◌≡◌, map, take}
use Rattle.schema_model.specs.declared.column.Part.{Part}
use Rattle.schema_facts.specs.Layout.{part_layout}
use Rattle.schema_plan.specs.Ready.{ready_part}
use Rattle.schema_plan.proofs.ready_parts.ready_parts.Given as goal

abbrev pub invariant-loop-part : goal.invariant-loop-part
invariant-loop-part l =
    l.ready ≡ map (λ (part : Part). ready_part l.delimiter (part_layout l.columns part)) (take l.part-index l.parts)
