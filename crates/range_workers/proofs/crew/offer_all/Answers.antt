use Rattle.std.proofs.Common.{ap, ◌∙◌}
use Rattle.ordered_sink.specs.Ordered.{Round}
use Rattle.range_workers.proofs.OfferLemmas.{capacity-offer, offering_next}
use Rattle.range_workers.proofs.crew.offer_all.Goals as goal

pub loop-made-preserved : goal.loop-made-preserved
loop-made-preserved c =
    let it = c.take_last.result in
    record {
      offered = λ text room round offering.
          offering_next text room round c.loop-made.made.items c.take_last.new.self.items it.n it.page c.loop-made.ordered c.offer_one.new.ordered
          c.take_last.ensures.items c.offer_one.ensures (c.loop-made.invariant.offered text room round offering);
      capacity = ap (λ (round : Round). round.capacity) c.offer_one.ensures ∙ capacity-offer c.loop-made.ordered it.n it.page ∙ c.loop-made.invariant.capacity;
      made_fit = c.take_last.ensures.capacity ∙ c.loop-made.invariant.made_fit;
    }
