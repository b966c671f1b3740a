use Rattle.std.proofs.Common.{◌≡◌, ◌-◌, true, false, Some, subst}
use Rattle.std.specs.Prelude.{slice_set}
use Rattle.ordered_sink.specs.Ordered.{Round, after_offer, has_number, was_offered}
use Rattle.ordered_sink.proofs.RoundLemmas.{round_in, round_in-offered}
use Rattle.ordered_sink.proofs.ordered.Ordered.offer.Goals as goal

pub returns-clause-after : goal.returns-clause-after
returns-clause-after c =
    let has : has_number c.args.self.now c.args.n ≡ true = cc in
    let new : was_offered c.args.self.now c.args.n ≡ false = cc in
    let slots = c.self.inside.slots.items in
    let first = c.self.inside.first in
    subst (λ (round : Round). has_number round c.args.n ≡ true → was_offered round c.args.n ≡ false →
    round_in (slice_set slots (c.args.n - first) (Some c.args.page)) first c.self.inside.count c.self.inside.handed ≡ after_offer round c.args.n c.args.page) c.self.view_is
    (round_in-offered slots first c.self.inside.count c.self.inside.handed c.args.n c.args.page c.self.invariant) has new
