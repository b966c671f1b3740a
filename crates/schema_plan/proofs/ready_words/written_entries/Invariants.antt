use Rattle.std.proofs.Common.{◌≡◌, map, take}
use Rattle.row_text.specs.Fields.{escaped_text}
use Rattle.schema_plan.proofs.ready_words.written_entries.Given as goal

abbrev pub invariant-loop-i : goal.invariant-loop-i
invariant-loop-i l = l.written ≡ map (escaped_text l.delimiter) (take l.i l.words.entries)
