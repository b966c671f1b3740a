use Rattle.std.proofs.Common.{◌≡◌, take}
use Rattle.schema_facts.specs.FieldSizes.{greatest_by, written_size}
use Rattle.schema_facts.proofs.field_sizes.greatest_entry.Given as goal

abbrev pub invariant-loop-entry : goal.invariant-loop-entry
invariant-loop-entry l = l.most ≡ greatest_by (written_size l.delimiter) (take l.entry-index l.entries)
