use Rattle.std.proofs.Common.{◌≡◌, List, map, take}
use Rattle.std.specs.List.{fold}
use Rattle.schema_model.specs.declared.column.Column.{Column}
use Rattle.schema_facts.specs.declared.lineage.Lineage.{Lineage}
use Rattle.schema_facts.specs.Capped.{capped_lineage}
use Rattle.schema_facts.specs.Dictionaries.{Dictionary}
use Rattle.schema_facts.specs.Layout.{kind_layout, table_layout}
use Rattle.schema_facts.specs.Lineage.{own_lineage, with_kind}
use Rattle.schema_facts.proofs.lineage.lineage_of.Given as goal

abbrev pub invariant-loop-column : goal.invariant-loop-column
invariant-loop-column l =
    (dictionaries : List Dictionary) (given : List Lineage) → map (λ facts. facts.lineage) l.earlier ≡ map capped_lineage given →
    l.lineage ≡ capped_lineage (fold (λ own (column : Column). with_kind given own (kind_layout dictionaries l.tables l.table.columns column.kind))
    (own_lineage (table_layout dictionaries l.tables l.table).life) (take l.column-index l.columns))
