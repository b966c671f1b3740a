use Rattle.std.proofs.Common.{arith}
use Rattle.range_workers.proofs.StepLemmas.{read_allowed}
use Rattle.range_workers.proofs.claims.Claims.claimed.Goals as goal

pub load-requires : goal.load-requires
load-requires c =
    let seat = c.args.seat.now.seat in
    (c.requires.seat, omega (arith, c.args.self.now.one_word), read_allowed _ seat.id seat.me.0 seat.me.1 c.requires.alone)
