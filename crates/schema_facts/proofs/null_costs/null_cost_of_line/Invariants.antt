use Rattle.std.proofs.Common.{◌≡◌, List, map, sum_by, take}
use Rattle.schema_model.specs.declared.column.Column.{Column}
use Rattle.schema_facts.specs.Capped.{capped}
use Rattle.schema_facts.specs.Dictionaries.{Dictionary}
use Rattle.schema_facts.specs.Layout.{column_layout, kind_layout}
use Rattle.schema_facts.specs.Lineage.{null_cost_of_field}
use Rattle.schema_facts.proofs.null_costs.null_cost_of_line.Given as goal

abbrev pub invariant-loop-column : goal.invariant-loop-column
invariant-loop-column l = (dictionaries : List Dictionary) →
    l.cost ≡ capped (sum_by (λ (column : Column). null_cost_of_field (map (λ facts. facts.lineage) l.earlier) (map (column_layout dictionaries l.tables l.columns) l.columns)
    (kind_layout dictionaries l.tables l.columns column.kind)) (take l.column-index l.columns))
