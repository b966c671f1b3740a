use Rattle.std.proofs.Common.{◌≡◌, ◌+◌, ℕ, length}
use Rattle.undo_streams.specs.Weaving.{IsWoven, undoing_of}
use Rattle.undo_streams.specs.declared.weaver.Weaver.{Weaver}
use Rattle.undo_streams.proofs.weaver.Weaver.weave.Given as goal

pub record IsWeaving (first now : Weaver) (count : ℕ) : Type 0 where
  pub sound : IsWoven now
  pub undoing : undoing_of now ≡ record (undoing_of first) { least = length first.woven + count }
  pub next : now.next ≡ first.next + count
  pub table : now.table ≡ first.table

abbrev pub invariant-loop-index : goal.invariant-loop-index
invariant-loop-index l = IsWeaving l.fn.self l.self l._index
