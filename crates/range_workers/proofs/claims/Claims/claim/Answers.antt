use Rattle.std.proofs.Common.{arith}
use Rattle.range_workers.proofs.StepLemmas.{claim_allowed}
use Rattle.range_workers.proofs.claims.Claims.claim.Goals as goal

pub fetch_add-requires : goal.fetch_add-requires
fetch_add-requires c =
    let seat = c.args.seat.now.seat in
    (c.requires.seat, omega (arith, c.args.self.now.one_word), claim_allowed _ seat.id seat.me.0 seat.me.1 c.requires.worker)
