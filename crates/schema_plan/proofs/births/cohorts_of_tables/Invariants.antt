use Rattle.std.proofs.Common.{◌≡◌, map, take}
use Rattle.schema_plan.specs.Planned.{births_through}
use Rattle.schema_plan.proofs.births.cohorts_of_tables.Given as goal

abbrev pub invariant-loop-table : goal.invariant-loop-table
invariant-loop-table l = l.cohorts.items ≡ map (births_through l.last) (take l.table-index l.tables)
