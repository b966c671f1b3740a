use Rattle.std.proofs.Common.{◌≡◌, Some, pos, take}
use Rattle.std.specs.List.{fold}
use Rattle.schema_facts.specs.Numbers.{plus, start_from}
use Rattle.schema_facts.proofs.NumberLemmas.{joining, operand_named}
use Rattle.schema_facts.proofs.numbers.sum_of.Given as goal

-- so many operands are added
abbrev pub invariant-loop-name : goal.invariant-loop-name
invariant-loop-name l = record {
  added : fold (joining plus (operand_named l.before.columns.now l.before.table.now.columns)) (Some (start_from l.decimals (pos 0))) (take l.name-index l.names) ≡ Some l.sum;
  digits : l.sum.decimals ≡ l.decimals;
}
