use Rattle.std.proofs.Common.{arith}
use Rattle.range_workers.proofs.StepLemmas.{join_allowed}
use Rattle.range_workers.proofs.claims.Claims.join.Goals as goal

pub join_seat-requires : goal.join_seat-requires
join_seat-requires c =
    let seat = c.args.seat.now.seat in
    let other = c.args.other.seat in (
      c.requires.seat,
      c.requires.other_seat,
      c.args.other.no_slots,
      omega (arith, c.args.self.now.one_word),
      join_allowed seat.id other.id seat.me.0 other.me.0 c.requires.caller_and_worker,
    )
