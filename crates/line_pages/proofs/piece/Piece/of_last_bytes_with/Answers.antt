use Rattle.std.proofs.Common.{◌≡◌, ◌+◌, ◌*◌, ◌%◌, ◌^◌, ◌-◌, ◌/◌, ap, ℕ, arith}
use Rattle.line_pages.proofs.LowBytesJoined.{last_bytes-with, last_bytes-with-fit}
use Rattle.line_pages.proofs.piece.Piece.of_last_bytes_with.Goals as goal

pub invariant_of-result : goal.invariant_of-result
invariant_of-result c =
    let nine : c.from.result + c.from-2.result * 2 ^ 64 % 2 ^ 128 ≡ c.args.word + c.args.end * 2 ^ 64 = omega (arith, c.from.ensures, c.from-2.ensures) in
    record {
      short = omega (arith, c.from-3.ensures);
      fits =
          last_bytes-with-fit c.args.count c.args.word c.args.end _ c.from-3.result c.requires.few (omega arith) (omega arith)
          (ap (λ (n : ℕ). n / 2 ^ (8 * (8 - c.args.count))) nine) c.from-3.ensures;
    }

pub returns : goal.returns
returns c =
    let nine : c.from.result + c.from-2.result * 2 ^ 64 % 2 ^ 128 ≡ c.args.word + c.args.end * 2 ^ 64 = omega (arith, c.from.ensures, c.from-2.ensures) in
    last_bytes-with c.args.count c.args.word c.args.end _ c.from-3.result c.requires.few (omega arith) (omega arith)
    (ap (λ (n : ℕ). n / 2 ^ (8 * (8 - c.args.count))) nine) c.from-3.ensures
