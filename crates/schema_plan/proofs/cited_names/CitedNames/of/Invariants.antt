use Rattle.std.proofs.Common.{◌≡◌, [], take}
use Rattle.std.specs.List.{fold}
use Rattle.schema_plan.specs.Citations.{names_in_tables, with_name}
use Rattle.schema_plan.proofs.cited_names.CitedNames.of.Given as goal

abbrev pub invariant-loop-table : goal.invariant-loop-table
invariant-loop-table l = l.names ≡ take 64 (fold with_name [] (names_in_tables (take l.table-index l.table-items)))
