use Rattle.std.proofs.Common.{arith}
use Rattle.stream_apply.proofs.MadeLemmas.{put_all-more}
use Rattle.stream_apply.proofs.applier.put_all.Goals as goal

pub loop-index-preserved : goal.loop-index-preserved
loop-index-preserved c =
    put_all-more c.args.table.now c.loop-index.table c.put.new.self c.args.lines.now c.loop-index.index c.key_at.result.now c.text_at.result.now
    (omega arith) c.loop-index.invariant c.key_at.ensures c.text_at.ensures c.in_ok-put.ensures
