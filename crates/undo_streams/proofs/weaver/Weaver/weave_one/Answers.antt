use Rattle.undo_streams.proofs.WeaverLemmas.{line_at, undoing-next, woven-next}
use Rattle.undo_streams.proofs.weaver.Weaver.weave_one.Goals as goal

pub returns-clause-sound : goal.returns-clause-sound
returns-clause-sound c =
    let w = c.args.self.now in
    woven-next w c.put.new.self c.key_at.result.now c.text_at.result.now c.requires.sound c.requires.part c.requires.more c.len-apart.ensures.apart
    (line_at w.table w.next c.key_at.result.now c.text_at.result.now c.requires.more c.key_at.ensures c.text_at.ensures) c.in_ok-put.ensures

pub returns-clause-woven : goal.returns-clause-woven
returns-clause-woven c =
    let w = c.args.self.now in
    undoing-next w c.put.new.self c.key_at.result.now c.text_at.result.now c.requires.sound c.requires.part c.requires.more
    (line_at w.table w.next c.key_at.result.now c.text_at.result.now c.requires.more c.key_at.ensures c.text_at.ensures) c.in_ok-put.ensures
