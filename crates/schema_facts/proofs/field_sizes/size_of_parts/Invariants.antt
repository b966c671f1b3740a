use Rattle.std.proofs.Common.{◌≡◌, List, map, sum_by, take}
use Rattle.schema_model.specs.declared.column.Part.{Part}
use Rattle.schema_model.specs.declared.table.Table.{Table}
use Rattle.schema_facts.specs.Capped.{capped}
use Rattle.schema_facts.specs.FieldSizes.{size_of_part}
use Rattle.schema_facts.specs.Layout.{column_layout, part_layout}
use Rattle.schema_facts.proofs.field_sizes.size_of_parts.Given as goal

abbrev pub invariant-loop-part : goal.invariant-loop-part
invariant-loop-part l = (tables : List Table) →
    l.size ≡ capped (sum_by (λ (part : Part). size_of_part l.delimiter (map (column_layout l.dictionaries tables l.columns) l.columns) (part_layout l.columns part)) (take l.part-index l.parts))
