use Rattle.std.proofs.Common.{refl}
use Rattle.ordered_sink.specs.Calls.{first_offered}
use Rattle.ordered_sink.specs.Ordered.{begun}
use Rattle.ordered_sink.proofs.CallLemmas.{IsRound-begun, handed_out-in_order}
use Rattle.ordered_sink.proofs.laws.pages_come_in_order.Goals as goal

pub returns : goal.returns
returns c calls before first count =
    handed_out-in_order (first_offered calls) calls (begun before first count) (IsRound-begun (first_offered calls) calls before first count (λ n. refl))
