use Rattle.std.proofs.Common.{◌+◌, ◌*◌, ◌%◌, ◌^◌, ◌<◌, ◌≤◌, arith}
use Rattle.line_pages.proofs.LowBytes.{length-low_bytes}
use Rattle.line_pages.proofs.LowBytesJoined.{low_bytes-shifted, shifted-fits, shifted-below}
use Rattle.line_pages.proofs.piece.Piece.then.Goals as goal

pub overflow_shl-result : goal.overflow_shl-result
overflow_shl-result c = omega (arith, length-low_bytes c.args.self.len c.args.self.word)

pub overflow_add-result : goal.overflow_add-result
overflow_add-result c =
    let front = c.args.self in
    let rest = c.args.rest in
    let room : front.len + rest.len ≤ 16 = omega (arith, length-low_bytes front.len front.word, length-low_bytes rest.len rest.word) in
    let below : front.word + rest.word * 2 ^ (8 * front.len) % 2 ^ 128 < 2 ^ 128 =
    shifted-below front.len rest.len front.word rest.word front.fits rest.fits room
    in
    omega arith

pub invariant_of-result : goal.invariant_of-result
invariant_of-result c =
    let front = c.args.self in
    let rest = c.args.rest in
    let room : front.len + rest.len ≤ 16 = omega (arith, length-low_bytes front.len front.word, length-low_bytes rest.len rest.word) in
    record {
      short = room;
      fits = shifted-fits front.len rest.len front.word rest.word front.fits rest.fits room;
    }

pub returns : goal.returns
returns c =
    let front = c.args.self in
    let rest = c.args.rest in
    let room : front.len + rest.len ≤ 16 = omega (arith, length-low_bytes front.len front.word, length-low_bytes rest.len rest.word) in
    low_bytes-shifted front.len rest.len front.word rest.word front.fits rest.fits room
