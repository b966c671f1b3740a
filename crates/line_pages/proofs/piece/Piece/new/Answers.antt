use Rattle.line_pages.proofs.LowBytes.{low_bytes-zero}
use Rattle.line_pages.proofs.piece.Piece.new.Goals as goal

pub returns : goal.returns
returns c = low_bytes-zero 0
