use Rattle.std.proofs.Common.{ap, arith, ◌∙◌}
use Rattle.schema_plan.specs.declared.ready.ReadyColumn.{ReadyColumn}
use Rattle.row_lines.specs.Lookups.{IsLookupOf}
use Rattle.row_lines.proofs.LookupLemmas.{is_lookup}
use Rattle.row_lines.proofs.RunLookupLemmas.{lookup-column, lookup-parent, lookup-ready}
use Rattle.row_lines.proofs.table_lines.shown_column.Goals as goal
use Rattle.row_lines.proofs.table_lines.shown_column.Goals.{In-Lookup}

lookup_is : (c : In-Lookup) → IsLookupOf (record { plan = c.args.plan.now; table = c.args.table; born = 0; unit = 0 }) c.args.column c.in-Lookup.lookup
lookup_is c =
    lookup-ready c.args.plan.now c.args.table c.args.column c.columns-columns.result.now c.index-columns-column.result c.in-Lookup.lookup c.columns-columns.ensures.columns c.requires.column
    c.index-columns-column.is (ap (λ (column : ReadyColumn). column.kind) c.index-columns-column.is ∙ c.in-Lookup.is)

pub overflow_cast-lookup : goal.overflow_cast-lookup
overflow_cast-lookup c =
    let here = (goal.at.overflow_cast-lookup c).In-Lookup in
    let few = lookup-column _ c.schema-limits.ensures.limits c.requires.table c.args.column c.in-Lookup.lookup (lookup_is here) in
    record { fits = omega (arith, few) }

pub new-requires-clause-table : goal.new-requires-clause-table
new-requires-clause-table c =
    let here = (goal.at.new-requires-clause-table c).In-Lookup in
    lookup-parent _ c.schema-limits.ensures.limits c.requires.table c.args.column c.in-Lookup.lookup (lookup_is here)

pub new-requires-clause-column : goal.new-requires-clause-column
new-requires-clause-column c =
    let here = (goal.at.new-requires-clause-column c).In-Lookup in
    (is_lookup _ c.schema-limits.ensures.limits c.requires.table c.args.column c.in-Lookup.lookup (lookup_is here)).looked_up.within
