use Rattle.std.proofs.Common.{arith}
use Rattle.range_workers.proofs.StepLemmas.{split_allowed}
use Rattle.range_workers.proofs.claims.Claims.split.Goals as goal

pub split_seat-seat-requires : goal.split_seat-seat-requires
split_seat-seat-requires c =
    let seat = c.args.seat.now.seat in
    (c.requires.seat, omega (arith, c.args.self.now.one_word), split_allowed seat.id seat.me.0 c.requires.caller)
