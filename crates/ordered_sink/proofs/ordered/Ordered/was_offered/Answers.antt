use Rattle.std.proofs.Common.{◌≡◌, ◌≤◌, ◌<◌, ◌+◌, ◌-◌, None, ap, arith, length, subst, sym, ◌∙◌}
use Rattle.std.specs.Option.{is_some}
use Rattle.std.specs.Prelude.{slice_index_or}
use Rattle.std.proofs.lemmas.List.{get_or_default}
use Rattle.ordered_sink.specs.Ordered.{Round, was_offered}
use Rattle.ordered_sink.proofs.RoundLemmas.{has_number-within, was_offered-slot}
use Rattle.ordered_sink.proofs.ordered.Ordered.was_offered.Goals as goal

pub returns-else-n-self : goal.returns-else-n-self
returns-else-n-self c =
    let slots = c.self.inside.slots.items in
    let place = c.args.n - c.self.inside.first in
    let within = subst (λ (round : Round). (round.first ≤ c.args.n) × (c.args.n < round.first + round.count)) (sym c.self.view_is)
    (has_number-within c.args.self.now c.args.n c.requires) in
    let fits : place < length slots = omega (arith, within.0, within.1, c.self.invariant.fits) in
    let slot : c.index.result.now ≡ slice_index_or slots place None = c.index.ensures ∙ get_or_default slots place c.index.result.now None fits in
    c.is_some.ensures ∙ ap is_some slot
    ∙ subst (λ (round : Round). is_some (slice_index_or slots place None) ≡ was_offered round c.args.n) c.self.view_is
    (sym (was_offered-slot slots c.self.inside.first c.self.inside.count c.self.inside.handed c.args.n c.if-n-self.false))
