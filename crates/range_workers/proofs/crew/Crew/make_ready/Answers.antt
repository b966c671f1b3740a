use Rattle.std.proofs.Common.{◌∙◌, sym}
use Rattle.std.specs.Prelude.{is_ok}
use Rattle.std.proofs.Common.{ap}
use Rattle.range_workers.proofs.OfferLemmas.{left_over, used_up}
use Rattle.range_workers.proofs.crew.Crew.make_ready.Goals as goal

pub next_round-requires-clause-used_up : goal.next_round-requires-clause-used_up
next_round-requires-clause-used_up g c =
    λ lifetimes outlive. used_up c.args.self.now.ordered (ap is_ok (sym c.finish.ensures) ∙ sym c.is_ok.ensures.value ∙ c.if-is_ok.true)

pub returns-else-is_ok-clause-begun : goal.returns-else-is_ok-clause-begun
returns-else-is_ok-clause-begun g c =
    left_over c.args.self.now.ordered (ap is_ok (sym c.finish.ensures) ∙ sym c.is_ok.ensures.value ∙ c.if-is_ok.false) c.requires.at.handed
