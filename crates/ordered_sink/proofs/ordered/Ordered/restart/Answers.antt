use Rattle.std.proofs.Common.{◌≡◌, ap, subst, sym, ◌∙◌}
use Rattle.ordered_sink.specs.Ordered.{Round, begun}
use Rattle.ordered_sink.proofs.RoundLemmas.{round_in, round_in-begun}
use Rattle.ordered_sink.proofs.ordered.Ordered.restart.Goals as goal

pub returns : goal.returns
returns c =
    let done : c.self.inside.handed ≡ c.self.inside.count =
    ap (λ (round : Round). round.handed) c.self.view_is ∙ c.requires.done ∙ sym (ap (λ (round : Round). round.count) c.self.view_is) in
    subst (λ (round : Round). round_in c.self.inside.slots.items c.args.first c.args.count 0 ≡ begun round c.args.first c.args.count) c.self.view_is
    (round_in-begun c.self.inside.slots.items c.self.inside.first c.self.inside.count c.self.inside.handed c.args.first c.args.count c.self.invariant done)
