use Rattle.std.proofs.Common.{length}
use Rattle.stream_apply.specs.Streams.{IsReadTo}
use Rattle.stream_apply.proofs.stream.read_stream.Given as goal

abbrev pub invariant-loop-rest : goal.invariant-loop-rest
invariant-loop-rest l = IsReadTo l.keys l.delimiter l.kind l.table l.bytes l.lines l.rest

abbrev pub decreases-loop-rest : goal.decreases-loop-rest
decreases-loop-rest l = length l.rest
