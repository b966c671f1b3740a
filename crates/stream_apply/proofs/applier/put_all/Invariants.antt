use Rattle.std.proofs.Common.{◌≡◌, fold, take}
use Rattle.stream_apply.specs.KeyedLines.{put}
use Rattle.stream_apply.proofs.applier.put_all.Given as goal

abbrev pub invariant-loop-index : goal.invariant-loop-index
invariant-loop-index l = l.table ≡ fold put l.fn.table (take l.index l.lines)
