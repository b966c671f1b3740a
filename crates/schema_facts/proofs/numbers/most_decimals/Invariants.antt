use Rattle.std.proofs.Common.{◌≡◌, List, ℕ, take}
use Rattle.schema_facts.specs.FieldSizes.{greatest_by}
use Rattle.schema_facts.specs.Numbers.{decimals_of}
use Rattle.schema_facts.proofs.NumberLemmas.{operand_named}
use Rattle.schema_facts.proofs.numbers.most_decimals.Given as goal

abbrev pub invariant-loop-name : goal.invariant-loop-name
invariant-loop-name l =
    l.most ≡ greatest_by (λ (name : List ℕ). decimals_of (operand_named l.before.columns.now l.before.table.now.columns name)) (take l.name-index l.names)
