use Rattle.std.proofs.Common.{◌≡◌, ◌-◌, length}
use Rattle.std.specs.List.{range_with_len}
use Rattle.schema_plan.specs.Rules.{break_in_table, first_found}
use Rattle.schema_check.proofs.rules.first_break.Given as goal

abbrev pub invariant-loop-table : goal.invariant-loop-table
invariant-loop-table l =
    let look = break_in_table l.rule l.candidate in
    let count = length l.candidate.schema.tables in
    first_found look (range_with_len 0 count) ≡ first_found look (range_with_len l.table (count - l.table))
