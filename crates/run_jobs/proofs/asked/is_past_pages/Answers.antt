use Rattle.std.proofs.Common.{◌≤◌, ◌*◌, arith}
use Rattle.std.proofs.lemmas.Nat.{mul-le}
use Rattle.run_jobs.proofs.asked.is_past_pages.Goals as goal

pub overflow_mul-result-3 : goal.overflow_mul-result-3
overflow_mul-result-3 c =
    let lines : 8 * c.from.result * c.args.lines ≤ 512 * 1000000 =
    mul-le (8 * c.from.result) c.args.lines 512 1000000 (omega (arith, c.from.ensures, c.requires.worker_limit)) c.requires.line_limit in
    let all : 8 * c.from.result * c.args.lines * c.args.bytes ≤ 512 * 1000000 * 262144 =
    mul-le (8 * c.from.result * c.args.lines) c.args.bytes (512 * 1000000) 262144 lines c.requires.byte_limit in
    omega (arith, all)
