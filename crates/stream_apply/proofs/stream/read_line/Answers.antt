use Rattle.stream_apply.proofs.LineLemmas.{starts_none-lacks, starts_none-no_key}
use Rattle.stream_apply.proofs.StreamLemmas.{at_none}
use Rattle.stream_apply.proofs.stream.read_line.Goals as goal

pub returns-in_default : goal.returns-in_default
returns-in_default c = starts_none-lacks c.args.keys c.args.delimiter c.args.kind c.args.bytes.now c.in_default.ensures

pub returns-in-None : goal.returns-in-None
returns-in-None c =
    starts_none-no_key c.args.keys c.args.delimiter c.requires c.args.kind c.args.bytes.now c.in-Some.text.now c.in-Some.rest.now c.in-Some.ensures.0 c.in-Some.ensures.1
    (at_none c.in_ok-key_size.field-0 _ _ c.in-None.is c.in_ok-key_size.ensures)
