use Rattle.std.proofs.Common.{◌≡◌, List, IfOk, subst}
use Rattle.toml.specs.View.{table_view}
use Rattle.schema_model.specs.declared.column.Leaf.{Leaf}
use Rattle.schema_read.specs.declared.schema_key.SchemaKey.TheVariants as key
use Rattle.schema_read.specs.Shape.{branch}
use Rattle.schema_read.proofs.Found.{value_or-tables}
use Rattle.schema_read.proofs.column_kind.read_branches.Goals as goal

pub returns : goal.returns
returns c = subst (λ (read : List Leaf). IfOk c.list_at.result (λ found. found ≡ read)) (value_or-tables branch key.Branches (table_view c.args.members.now)) c.list_at.ensures
