use Rattle.ordered_sink.proofs.RoundLemmas.{round_in-new}
use Rattle.ordered_sink.proofs.ordered.Ordered.new.Goals as goal

pub returns : goal.returns
returns c = rw c.in_ok-slots.ensures (round_in-new c.args.capacity)
