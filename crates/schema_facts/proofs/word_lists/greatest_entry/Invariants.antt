use Rattle.std.proofs.Common.{◌≡◌, take}
use Rattle.schema_facts.specs.FieldSizes.{greatest_by, written_size}
use Rattle.schema_facts.proofs.word_lists.greatest_entry.Given as goal

abbrev pub invariant-loop-i : goal.invariant-loop-i
invariant-loop-i l = l.most ≡ greatest_by (written_size l.delimiter) (take l.i l.words.entries)
