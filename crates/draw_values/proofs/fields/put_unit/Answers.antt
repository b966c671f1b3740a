use Rattle.std.proofs.Common.{length, ap, arith}
use Rattle.draw_values.proofs.ColumnLemmas.{length-decimal-unit}
use Rattle.draw_values.proofs.fields.put_unit.Goals as goal

pub put_piece-requires : goal.put_piece-requires
put_piece-requires c = omega (arith, ap length c.of_number.ensures, length-decimal-unit c.args.unit c.requires.unit, c.requires.room)

pub returns-clause-size : goal.returns-clause-size
returns-clause-size c = length-decimal-unit c.args.unit c.requires.unit
