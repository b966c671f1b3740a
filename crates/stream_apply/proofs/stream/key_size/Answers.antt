use Rattle.stream_apply.proofs.LineLemmas.{key_size-told}
use Rattle.stream_apply.proofs.stream.key_size.Goals as goal

pub returns-in-Ok : goal.returns-in-Ok
returns-in-Ok c = key_size-told c.args.keys c.args.delimiter c.requires c.args.kind c.in-Ok.fields c.args.text.now c.front_size.result c.in-Ok.ensures.read c.front_size.ensures
