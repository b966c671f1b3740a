use Rattle.std.proofs.Common.{ℕ, decimal, get_or, arith}
use Rattle.draw_values.specs.Runs.{with_behind}
use Rattle.draw_values.proofs.PieceLemmas.{text-written}
use Rattle.draw_values.proofs.run_pieces.fill_units.Goals as goal

pub loop-i-preserved : goal.loop-i-preserved
loop-i-preserved c = record {
  texts =
      text-written (λ (k : ℕ). with_behind c.args.behind (decimal (get_or c.args.units.now k 0))) c.loop-i.pieces c.loop-i.i c.unit_piece-made.result (omega arith) c.loop-i.invariant.texts
      c.unit_piece-made.ensures;
  made = c.unit_piece-made.ensures;
}

pub returns : goal.returns
returns c = λ k within. c.loop-i.invariant.texts k (omega arith)
