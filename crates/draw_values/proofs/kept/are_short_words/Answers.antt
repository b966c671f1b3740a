use Rattle.std.proofs.Common.{arith, sym}
use Rattle.draw_values.proofs.KeptLemmas.{long_found, short_more}
use Rattle.draw_values.proofs.kept.are_short_words.Goals as goal

pub loop-i-preserved : goal.loop-i-preserved
loop-i-preserved c = short_more c.args.words.now.entries c.loop-i.i c.entry.result.now (omega arith) c.entry.ensures (omega arith) c.loop-i.invariant

pub returns-then-entry-gt-SHORT : goal.returns-then-entry-gt-SHORT
returns-then-entry-gt-SHORT c = sym (long_found c.args.words.now.entries c.loop-i.i c.entry.result.now (omega arith) c.entry.ensures (omega arith))
