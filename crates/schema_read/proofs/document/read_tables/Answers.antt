use Rattle.std.proofs.Common.{◌≡◌, List, IfOk, subst}
use Rattle.toml.specs.View.{table_view}
use Rattle.schema_model.specs.declared.table.Table.{Table}
use Rattle.schema_read.specs.declared.schema_key.SchemaKey.TheVariants as key
use Rattle.schema_read.specs.Shape.{table}
use Rattle.schema_read.proofs.Found.{value_or-tables}
use Rattle.schema_read.proofs.document.read_tables.Goals as goal

pub returns : goal.returns
returns c = subst (λ (read : List Table). IfOk c.list_at.result (λ found. found ≡ read)) (value_or-tables table key.Table (table_view c.args.members.now)) c.list_at.ensures
