use Rattle.std.proofs.Common.{suc, arith, ◌∙◌}
use Rattle.row_lines.specs.Derived.{columns_before}
use Rattle.row_lines.proofs.StillRowLemmas.{number_here}
use Rattle.row_lines.proofs.still_row.StillRow.number.Goals as goal

pub returns-clause-number : goal.returns-clause-number
returns-clause-number g c =
    c.number.ensures.number (suc (columns_before c.self.inside.fields.table c.args.column)) (omega arith)
    ∙ number_here c.self.inside.fields c.self.inside.values c.self.inside.index c.args.self.now c.self.view_is c.self.invariant c.args.column c.requires c.self.inside.values.changed
