use Rattle.std.proofs.Common.{subst}
use Rattle.sql_lines.specs.declared.rows.Told.{Told}
use Rattle.sql_lines.specs.Told.{AreListed, AreTold}
use Rattle.sql_lines.proofs.rows.put_lines.Goals as goal

pub put_listed-requires-clause-alive : goal.put_listed-requires-clause-alive
put_listed-requires-clause-alive g c = λ i below.
    let listed : AreListed c.args.of.now c.in-Listed.ordinals.now = subst (λ (t : Told). AreTold c.args.of.now t) c.in-Listed.is c.requires.told in
    listed.alive i 0 below
