use Rattle.std.proofs.Common.{arith}
use Rattle.std.proofs.Math.Nat.{mul-le-mul_left}
use Rattle.schema_facts.specs.Layout.{layout_of}
use Rattle.row_lines.specs.Runs.{RunLinesOf}
use Rattle.sql_lines.specs.Told.{many_told}
use Rattle.sql_lines.proofs.SizeLemmas.{line-within}
use Rattle.sql_lines.proofs.rows.put_few.Goals as goal

pub put_lines-requires-clause-room : goal.put_lines-requires-clause-room
put_lines-requires-clause-room g c =
    let lines : RunLinesOf = c.args.of.now in
    omega (arith, c.requires.room, mul-le-mul_left (many_told c.args.told) (line-within (layout_of lines.plan) lines.table))
