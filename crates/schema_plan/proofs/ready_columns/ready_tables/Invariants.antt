use Rattle.std.proofs.Common.{◌≡◌, map}
use Rattle.std.specs.List.{range_with_len}
use Rattle.schema_facts.specs.Dictionaries.{project_of}
use Rattle.schema_facts.specs.Layout.{layout_of}
use Rattle.schema_plan.specs.Ready.{ready_columns}
use Rattle.schema_plan.proofs.ready_columns.ready_tables.Given as goal

abbrev pub invariant-loop-table : goal.invariant-loop-table
invariant-loop-table l = l.ready.items ≡ map (ready_columns (layout_of (project_of l.schema l.dictionaries))) (range_with_len 0 l.table-index)
