use Rattle.std.proofs.Common.{sym, ◌∙◌}
use Rattle.schema_read.proofs.Documents.{tables-view, no_tables-view}
use Rattle.schema_read.proofs.types.table_elements.Goals as goal

pub returns-then-are_tables : goal.returns-then-are_tables
returns-then-are_tables c = tables-view c.in-Some.items.now _ c.in-Some.ensures (sym c.are_tables.ensures ∙ c.if-are_tables.true)

pub returns-else-are_tables : goal.returns-else-are_tables
returns-else-are_tables c = no_tables-view c.in-Some.items.now _ c.in-Some.ensures (sym c.are_tables.ensures ∙ c.if-are_tables.false)
