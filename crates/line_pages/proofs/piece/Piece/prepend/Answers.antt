use Rattle.std.proofs.Common.{◌<◌, ◌^◌, ℕ, ◌+◌, ◌*◌, ap, ◌∙◌, arith}
use Rattle.line_pages.specs.Pieces.{low_bytes}
use Rattle.line_pages.proofs.LowBytes.{length-low_bytes, low_bytes-prepend, fits-prepend, room-prepend}
use Rattle.line_pages.proofs.piece.Piece.prepend.Goals as goal

pub overflow_mul-result : goal.overflow_mul-result
overflow_mul-result c =
    let piece = c.args.self in
    let short : piece.len < 16 = omega (arith, c.requires, length-low_bytes piece.len piece.word) in
    let small : piece.word < 256 ^ 15 = room-prepend piece.len piece.word short piece.fits in
    omega arith

pub overflow_add-result : goal.overflow_add-result
overflow_add-result c =
    let piece = c.args.self in
    let short : piece.len < 16 = omega (arith, c.requires, length-low_bytes piece.len piece.word) in
    let small : piece.word < 256 ^ 15 = room-prepend piece.len piece.word short piece.fits in
    omega arith

pub invariant_of-result : goal.invariant_of-result
invariant_of-result c =
    let piece = c.args.self in
    record {
      short = omega (arith, c.requires, length-low_bytes piece.len piece.word);
      fits = fits-prepend piece.len piece.word c.from.result (omega arith) piece.fits;
    }

pub returns : goal.returns
returns c =
    ap (λ (byte : ℕ). low_bytes (c.args.self.len + 1) (c.args.self.word * 256 + byte)) c.from.ensures
    ∙ low_bytes-prepend c.args.self.len c.args.self.word c.args.byte (omega arith)
