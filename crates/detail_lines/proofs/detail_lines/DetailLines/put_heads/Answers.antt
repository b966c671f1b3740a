use Rattle.std.proofs.Common.{arith}
use Rattle.detail_lines.proofs.LineListLemmas.{heads-made, keys-picked, keys-short, numbers-picked}
use Rattle.detail_lines.proofs.detail_lines.DetailLines.put_heads.Goals as goal

pub returns-clause-heads : goal.returns-clause-heads
returns-clause-heads c = λ made.
    heads-made c.args.self.now c.args.count _ _ c.args.run.now c.args.pieces.now c.fill_kept.new.pieces c.fill_kept-2.new.pieces (omega arith) (omega arith) c.requires.pieces (omega arith)
    (λ k inside.
    keys-picked c.args.self.now c.args.at.now.unit c.args.count c.delimiter.result c.args.run.now c.fill.new.pieces c.fill_kept.new.pieces c.requires.lines c.delimiter.ensures c.fill.ensures
    (λ i below. c.fill_kept.ensures i (omega (arith, below))) k inside)
    (λ k inside.
    numbers-picked c.args.self.now c.args.at.now.unit c.args.count c.args.run.now c.numbers.result.now c.fill_kept-2.new.pieces c.requires.lines c.numbers.ensures
    (λ i below. c.fill_kept-2.ensures i (omega (arith, below))) k inside)

pub returns-clause-keys : goal.returns-clause-keys
returns-clause-keys c = λ made. keys-short c.args.self.now c.args.at.now.unit c.args.count c.args.run.now c.requires.lines (λ i below. c.are_short.ensures c.if-not-are_short.false i 0 below)
