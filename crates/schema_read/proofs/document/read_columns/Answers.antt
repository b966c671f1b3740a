use Rattle.std.proofs.Common.{◌≡◌, List, IfOk, subst}
use Rattle.toml.specs.View.{table_view}
use Rattle.schema_model.specs.declared.column.Column.{Column}
use Rattle.schema_read.specs.declared.schema_key.SchemaKey.TheVariants as key
use Rattle.schema_read.specs.Shape.{column}
use Rattle.schema_read.proofs.Found.{value_or-tables}
use Rattle.schema_read.proofs.document.read_columns.Goals as goal

pub returns : goal.returns
returns c = subst (λ (read : List Column). IfOk c.list_at.result (λ found. found ≡ read)) (value_or-tables column key.Column (table_view c.args.members.now)) c.list_at.ensures
