use Rattle.std.proofs.Common.{List, length, ap, arith, ◌∙◌}
use Rattle.schema_plan.specs.declared.ready.ReadyColumn.{ReadyColumn}
use Rattle.life_intervals.proofs.CohortParentLemmas.{length-ready_columns, parent_below, reference_from_columns}
use Rattle.row_lines.proofs.table_lines.is_short.Goals as goal

pub has_short_keys-requires-in-Reference : goal.has_short_keys-requires-in-Reference
has_short_keys-requires-in-Reference c =
    parent_below c.args.plan.now c.schema-limits.ensures.limits c.args.table c.args.column c.in-Reference.reference c.requires.table
    (reference_from_columns c.args.plan.now c.args.table c.args.column c.columns-columns.result.now c.index-columns-column.result c.in-Reference.reference c.columns-columns.ensures.columns
    (omega (arith, c.requires.column, ap (λ (all : List ReadyColumn). length all) c.columns-columns.ensures.columns, length-ready_columns c.args.plan.now c.args.table))
    c.index-columns-column.is (ap (λ (column : ReadyColumn). column.kind) c.index-columns-column.is ∙ c.in-Reference.is))
