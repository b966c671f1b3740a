use Rattle.std.proofs.Common.{◌≡◌, ℕ, List, take}
use Rattle.std.specs.List.{fold}
use Rattle.schema_plan.specs.Citations.{names_in_columns, with_name}
use Rattle.schema_plan.proofs.cited_names.CitedNames.add_columns.Given as goal

abbrev pub invariant-loop-column : goal.invariant-loop-column
invariant-loop-column l =
    (before : List (List ℕ)) → l.fn.self ≡ take 64 before →
    l.self ≡ take 64 (fold with_name before (names_in_columns (take l.column-index l.columns)))
