use Rattle.std.proofs.Common.{length, arith}
use Rattle.undo_streams.specs.UndoText.{undo_lines_of}
use Rattle.undo_streams.proofs.ListLemmas.{package-count}
use Rattle.undo_streams.proofs.undo_packer.UndoPackerPacker.count.Goals as goal

pub returns-clause-most : goal.returns-clause-most
returns-clause-most c =
    let self = c.self.inside in
    omega (
      arith,
      c.self.invariant.count_is,
      c.self.invariant.few,
      c.self.invariant.size_limit,
      package-count (length (undo_lines_of self.rows.now self.unit self.table)) self.size,
    )
