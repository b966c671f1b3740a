use Rattle.std.proofs.Common.{◌≡◌, Some, pos, take}
use Rattle.std.specs.List.{fold}
use Rattle.schema_facts.specs.Numbers.{start_from, times}
use Rattle.schema_facts.proofs.NumberLemmas.{joining, operand_named}
use Rattle.schema_facts.proofs.numbers.product_of.Given as goal

-- so many operands are multiplied
abbrev pub invariant-loop-name : goal.invariant-loop-name
invariant-loop-name l =
    fold (joining times (operand_named l.before.columns.now l.before.table.now.columns)) (Some (start_from 0 (pos 1))) (take l.name-index l.names) ≡ Some l.product
