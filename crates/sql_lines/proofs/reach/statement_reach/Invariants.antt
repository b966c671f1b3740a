use Rattle.std.proofs.Common.{◌≡◌, ◌<◌, ◌≤◌, ◌^◌, take}
use Rattle.schema_facts.specs.FieldSizes.{greatest_by}
use Rattle.schema_facts.specs.Layout.{layout_of}
use Rattle.sql_lines.specs.Reach.{statement_of_table}
use Rattle.sql_lines.proofs.reach.statement_reach.Given as goal

abbrev pub invariant-loop-table : goal.invariant-loop-table
invariant-loop-table l = record {
  most : l.most ≡ greatest_by (statement_of_table (layout_of l.plan)) (take l.table (layout_of l.plan).tables);
  some : 0 < l.table → 1 ≤ l.most;
  few : l.most ≤ 2 ^ 18;
}
