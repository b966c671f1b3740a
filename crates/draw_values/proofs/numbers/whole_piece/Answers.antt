use Rattle.std.proofs.Common.{◌∷◌, [], w64, decimal, length, length-append, ap, arith}
use Rattle.std.specs.Prelude.{unsigned_abs}
use Rattle.std.proofs.lemmas.Fmt.{length-decimal-le}
use Rattle.std.proofs.lemmas.Int.{to_z-of_z}
use Rattle.draw_values.proofs.numbers.whole_piece.Goals as goal

pub prepend-requires : goal.prepend-requires
prepend-requires c =
    omega (
      arith,
      ap length c.piece-piece.ensures,
      length-append (decimal c.unsigned_abs.result) (c.args.behind ∷ []),
      length-decimal-le 14 c.unsigned_abs.result (omega arith) (omega (arith, c.unsigned_abs.ensures, ap unsigned_abs (to_z-of_z w64 c.args.value c.ranges.value), c.requires)) (omega arith),
    )
