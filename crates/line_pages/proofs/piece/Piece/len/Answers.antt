use Rattle.std.proofs.Common.{sym}
use Rattle.line_pages.proofs.LowBytes.{length-low_bytes}
use Rattle.line_pages.proofs.piece.Piece.len.Goals as goal

pub returns-clause-len : goal.returns-clause-len
returns-clause-len c = sym (length-low_bytes c.args.self.now.len c.args.self.now.word)
