use Rattle.std.proofs.Common.{ap, ◌∙◌}
use Rattle.detail_rows.specs.Packages.{count_of}
use Rattle.detail_rows.proofs.packer.DetailPackerPacker.count.Goals as goal

pub returns-clause-count : goal.returns-clause-count
returns-clause-count c = c.self.invariant.count_is ∙ ap count_of c.self.view_is
