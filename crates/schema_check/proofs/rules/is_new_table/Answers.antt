use Rattle.std.proofs.Common.{sym, ◌∙◌}
use Rattle.schema_model.specs.declared.table.Table.{Table}
use Rattle.schema_check.proofs.RuleLemmas.{is_new_at-item}
use Rattle.schema_check.proofs.rules.is_new_table.Goals as goal

pub returns-then-is_name : goal.returns-then-is_name
returns-then-is_name c =
    is_new_at-item (λ (table : Table). table.name) c.args.tables.now c.args.place c.index-tables-place.result c.is_table_named.result c.requires (sym c.is_name.ensures ∙ c.if-is_name.true) c.is_table_named.ensures
