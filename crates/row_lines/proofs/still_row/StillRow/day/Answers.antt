use Rattle.std.proofs.Common.{suc, arith, ◌∙◌}
use Rattle.row_lines.specs.Derived.{columns_before}
use Rattle.row_lines.proofs.StillRowLemmas.{day_here}
use Rattle.row_lines.proofs.still_row.StillRow.day.Goals as goal

pub returns-clause-day : goal.returns-clause-day
returns-clause-day g c =
    c.day.ensures.day (suc (columns_before c.self.inside.fields.table c.args.column)) (omega arith)
    ∙ day_here c.self.inside.fields c.self.inside.values c.self.inside.index c.args.self.now c.self.view_is c.self.invariant c.args.column c.requires c.self.inside.values.changed
