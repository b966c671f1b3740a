use Rattle.std.proofs.Common.{◌-◌, arith}
use Rattle.undo_streams.proofs.WeaverLemmas.{woven-all}
use Rattle.undo_streams.proofs.weaver.Weaver.weave_rest.Goals as goal

pub returns : goal.returns
returns c =
    woven-all c.args.self c.weave.new.self (c.len.result - c.args.self.next) c.requires.part
    (omega (arith, c.len.ensures.number, c.requires.sound.within)) c.in_ok-weave.ensures.woven
