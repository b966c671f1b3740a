use Rattle.std.proofs.Common.{◌≡◌, List, map, sum_by, take}
use Rattle.schema_model.specs.declared.column.Part.{Part}
use Rattle.schema_facts.specs.Capped.{capped}
use Rattle.schema_facts.specs.Dictionaries.{Dictionary}
use Rattle.schema_facts.specs.Layout.{column_layout, part_layout}
use Rattle.schema_facts.specs.Lineage.{null_cost_of_part}
use Rattle.schema_facts.proofs.null_costs.null_cost_of_parts.Given as goal

abbrev pub invariant-loop-part : goal.invariant-loop-part
invariant-loop-part l = (dictionaries : List Dictionary) →
    l.cost ≡ capped (sum_by (λ (part : Part). null_cost_of_part (map (λ facts. facts.lineage) l.earlier) (map (column_layout dictionaries l.tables l.columns) l.columns) (part_layout l.columns part))
    (take l.part-index l.parts))
