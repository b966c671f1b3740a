use Rattle.std.proofs.Common.{arith, ap, ◌∙◌}
use Rattle.std.proofs.lemmas.List.{take_all}
use Rattle.stream_apply.specs.KeyedLines.{lines_text}
use Rattle.stream_apply.proofs.MadeLemmas.{text-more}
use Rattle.stream_apply.proofs.key_table.KeyTable.text.Goals as goal

pub loop-index-preserved : goal.loop-index-preserved
loop-index-preserved c =
    text-more c.args.self.now c.loop-index.index c.text_at.result.now c.loop-index.text.items c.put_line.new.text.items
    (omega arith) c.loop-index.invariant c.text_at.ensures c.in_ok-put_line.ensures

pub returns : goal.returns
returns c = c.loop-index.invariant ∙ ap lines_text (take_all c.loop-index.index c.args.self.now (omega arith))
