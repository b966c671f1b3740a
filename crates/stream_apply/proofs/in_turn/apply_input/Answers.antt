use Rattle.stream_apply.proofs.InTurnLemmas.{put-made}
use Rattle.stream_apply.proofs.in_turn.apply_input.Goals as goal

pub returns-clause-applied : goal.returns-clause-applied
returns-clause-applied c =
    let lines = c.in_ok-lines.lines in
    let read = c.in_ok-lines.ensures.read in
    let put = c.in_ok-put_all-in-Updates.ensures in
    (lines, read, put-made c.args.keys c.args.delimiter c.args.kind c.args.table c.put_all.new.table lines c.args.bytes.now c.in-Updates.is read put)
