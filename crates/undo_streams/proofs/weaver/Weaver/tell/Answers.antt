use Rattle.std.proofs.Common.{List, ap, ◌∙◌}
use Rattle.stream_apply.specs.KeyedLines.{KeyedLine, keyed}
use Rattle.stream_apply.proofs.StreamLemmas.{put-absent}
use Rattle.undo_streams.specs.declared.weaver.Weaver.{Weaver}
use Rattle.undo_streams.proofs.weaver.Weaver.tell.Goals as goal

pub returns : goal.returns
returns c =
    let w : Weaver = c.args.self.now in
    ap (λ (told : List KeyedLine). record w { told = told })
    (c.in_ok-put.ensures ∙ put-absent w.told (keyed c.args.line.key.now c.args.line.text.now) c.requires)
