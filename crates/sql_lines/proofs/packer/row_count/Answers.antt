use Rattle.std.proofs.Common.{arith, subst}
use Rattle.sql_lines.specs.Packages.{AreBorn, AreRowsOf, rows_stated}
use Rattle.sql_lines.specs.declared.stated.Stated.{Stated}
use Rattle.sql_lines.proofs.PackageLemmas.{born-few}
use Rattle.sql_lines.proofs.packer.row_count.Goals as goal

pub returns-in-Inserted-clause-few : goal.returns-in-Inserted-clause-few
returns-in-Inserted-clause-few c =
    let rows : AreBorn c.args.plan.now c.args.table c.in-Inserted.from c.in-Inserted.to c.in-Inserted.unit =
    subst (λ (stated : Stated). AreRowsOf c.args.plan.now c.args.table (rows_stated stated)) c.in-Inserted.is c.requires.rows in
    omega (arith, born-few c.args.plan.now c.args.table c.in-Inserted.from c.in-Inserted.to c.in-Inserted.unit c.table-limits.ensures.limits rows)
