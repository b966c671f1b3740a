use Rattle.std.proofs.Common.{length, ap, arith}
use Rattle.std.proofs.lemmas.Fmt.{length-decimal-le}
use Rattle.line_pages.proofs.piece.Piece.of_number.Goals as goal

pub prepend_number-requires : goal.prepend_number-requires
prepend_number-requires c =
    omega (arith, ap length c.new.ensures, length-decimal-le 15 c.args.number (omega arith) c.requires (omega arith))
