use Rattle.std.proofs.Common.{◌≡◌}
use Rattle.cohort_sizes.specs.Births.{first_ordinal}
use Rattle.schema_facts.specs.Capped.{capped}
use Rattle.schema_facts.specs.Layout.{births_of}
use Rattle.schema_check.proofs.phase_rules.rows_by.Given as goal

abbrev pub invariant-loop-born : goal.invariant-loop-born
invariant-loop-born l = l.rows ≡ capped (first_ordinal (births_of l.table) l.born)
