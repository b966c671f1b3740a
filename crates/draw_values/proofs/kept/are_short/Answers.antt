use Rattle.std.proofs.Common.{arith, sym}
use Rattle.draw_values.proofs.KeptLemmas.{long_found, short_more}
use Rattle.draw_values.proofs.kept.are_short.Goals as goal

pub loop-i-preserved : goal.loop-i-preserved
loop-i-preserved c = short_more c.args.texts.now c.loop-i.i c.get.result.now (omega arith) c.get.ensures (omega arith) c.loop-i.invariant

pub returns-then-get-gt-SHORT : goal.returns-then-get-gt-SHORT
returns-then-get-gt-SHORT c = sym (long_found c.args.texts.now c.loop-i.i c.get.result.now (omega arith) c.get.ensures (omega arith))
