use Rattle.std.proofs.Common.{arith}
use Rattle.life_intervals.specs.CohortOrders.{order_for}
use Rattle.life_intervals.proofs.KeptLemmas.{kept-found}
use Rattle.life_intervals.proofs.kept.TableOrders.order.Goals as goal

pub returns-then-unit-len : goal.returns-then-unit-len
returns-then-unit-len c = λ plan table are.
    kept-found (order_for plan table c.args.purpose) c.in_ok-kept.kept.now.orders c.args.unit c.get.result (c.in_ok-kept.ensures plan table are)
    (omega (arith, c.if-unit-len.true, c.len.ensures)) c.get.ensures
