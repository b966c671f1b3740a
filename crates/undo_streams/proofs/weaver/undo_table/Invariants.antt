use Rattle.std.proofs.Common.{List, ℕ, length}
use Rattle.stream_apply.specs.KeyedLines.{KeyedLine}
use Rattle.undo_streams.specs.Weaving.{IsWoven, undoing_of}
use Rattle.undo_streams.specs.declared.weaver.Weaver.{Weaver}
use Rattle.undo_streams.proofs.UndoLemmas.{IsUndoneTo}
use Rattle.undo_streams.proofs.weaver.undo_table.Given as goal

pub record IsWeavingTo (delimiter : ℕ) (table : List KeyedLine) (bytes rest : List ℕ) (weaver : Weaver) : Type 0 where
  pub sound : IsWoven weaver
  pub to : IsUndoneTo delimiter table bytes rest (undoing_of weaver)

abbrev pub invariant-loop-rest : goal.invariant-loop-rest
invariant-loop-rest l = IsWeavingTo l.delimiter l.fn.table l.bytes l.rest l.weaver

abbrev pub decreases-loop-rest : goal.decreases-loop-rest
decreases-loop-rest l = length l.rest
