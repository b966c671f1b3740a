use Rattle.std.proofs.Common.{arith}
use Rattle.line_pages.proofs.LowBytesJoined.{last_bytes, last_bytes-fit}
use Rattle.line_pages.proofs.piece.Piece.of_last_bytes.Goals as goal

pub returns : goal.returns
returns c = last_bytes c.args.count c.args.word c.from.result c.from-2.result c.requires.few c.from.ensures c.from-2.ensures

pub invariant_of-result : goal.invariant_of-result
invariant_of-result c = record {
  short = omega (arith, c.from-2.ensures);
  fits = last_bytes-fit c.args.count c.args.word c.from.result c.from-2.result c.requires.few c.ranges.word.fits c.from.ensures c.from-2.ensures;
}
