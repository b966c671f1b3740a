-- A detail table as a table beside a schema. After its own columns stands one more without a name: the reference to the parent, by which a
-- column of the kind `parent` is a lookup.
use Rattle.std.specs.Prelude.{ℕ, pos, List, [], ◌∷◌, ◌++◌, map, false, None}
use Rattle.schema_model.specs.declared.column.Column.{Column}
use Rattle.schema_model.specs.declared.column.Deal.TheVariants.{Turn}
use Rattle.schema_model.specs.declared.column.Kind.{Kind}
use Rattle.schema_model.specs.declared.column.Kind.TheVariants as kind
use Rattle.schema_model.specs.declared.column.OnDelete.TheVariants.{Cascade}
use Rattle.schema_model.specs.declared.column.Window.TheVariants.{All}
use Rattle.schema_model.specs.declared.table.Table.{Table}
use Rattle.detail_plan.specs.declared.detail.Detail.{Detail}
use Rattle.detail_plan.specs.declared.detail.DetailColumn.{DetailColumn}
use Rattle.detail_plan.specs.declared.detail.DetailKind.{DetailKind}
use Rattle.detail_plan.specs.declared.detail.DetailKind.TheVariants.{Leaf, Parent, After, Sum, Product}

abbrev pub kind_beside : DetailKind → Kind
kind_beside (Leaf leaf) = kind.Leaf leaf
kind_beside (Parent column) = kind.Lookup [] column
kind_beside (After of lo hi) = kind.After of lo hi
kind_beside (Sum of) = kind.Sum of
kind_beside (Product of) = kind.Product of

abbrev pub column_beside : DetailColumn → Column
column_beside column = record { name = column.name; kind = kind_beside column.kind; changes = column.changes; null = column.null }

-- the reference to the parent: all rows of that table may have lines
abbrev pub reference_to : List ℕ → Column
reference_to parent = record { name = []; kind = kind.Ref parent All (pos 1 ∷ []) Cascade Turn; changes = false; null = pos 0 }

abbrev pub columns_beside : Detail → List Column
columns_beside detail = map column_beside detail.columns ++ reference_to detail.parent ∷ []

abbrev pub table_beside : Detail → Table
table_beside detail =
    record { name = detail.name; rows = pos 0; insert = []; life = None; update = None; columns = columns_beside detail }
