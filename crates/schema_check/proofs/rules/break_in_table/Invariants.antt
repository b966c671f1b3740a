use Rattle.std.proofs.Common.{◌≡◌, ℕ, ◌-◌, length}
use Rattle.std.specs.List.{range_with_len}
use Rattle.schema_plan.specs.declared.site.Site.TheVariants.{OfColumn}
use Rattle.schema_plan.specs.Rules.{break_at, first_found}
use Rattle.schema_plan.specs.Sites.{columns_at}
use Rattle.schema_check.proofs.rules.break_in_table.Given as goal

abbrev pub invariant-loop-column : goal.invariant-loop-column
invariant-loop-column l =
    let look = λ (column : ℕ). break_at l.rule l.candidate (OfColumn l.table column) in
    let count = length (columns_at l.candidate.schema l.table) in
    first_found look (range_with_len 0 count) ≡ first_found look (range_with_len l.column (count - l.column))
