use Rattle.std.proofs.Common.{◌≡◌, length}
use Rattle.dictionaries.proofs.ReadingLemmas.{AreTried}
use Rattle.dictionaries.proofs.read.read_lines.Given as goal

abbrev pub invariant-loop-part : goal.invariant-loop-part
invariant-loop-part l = record {
  counted : l.number ≡ length l.yielded;
  so_far : AreTried l.text (length l.yielded) l.draft.count l.draft.is_whole l.draft.entries l.draft.weights.items;
}
