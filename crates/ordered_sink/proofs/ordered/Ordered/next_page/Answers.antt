use Rattle.std.proofs.Common.{◌≡◌, ◌+◌, Some, None, arith, subst, sym, ◌∙◌}
use Rattle.std.specs.Prelude.{slice_index_or, slice_set}
use Rattle.std.proofs.lemmas.Grind.{common_steps}
use Rattle.ordered_sink.specs.Ordered.{Round, after_next, next}
use Rattle.ordered_sink.proofs.SlotLemmas.{numbered}
use Rattle.ordered_sink.proofs.RoundLemmas.{after_next-none, next-slot, round_in, round_in-next, round_in-stays}
use Rattle.ordered_sink.proofs.ordered.Ordered.next_page.Goals as goal

pub returns-then-self-clause-page : goal.returns-then-self-clause-page
returns-then-self-clause-page c =
    let empty : slice_index_or c.self.inside.slots.items c.self.inside.handed None ≡ None = c.self.invariant.behind c.self.inside.handed (omega arith) in
    subst (λ (round : Round). None ≡ next round) c.self.view_is
    (sym (next-slot c.self.inside.slots.items c.self.inside.first c.self.inside.count c.self.inside.handed None empty))

pub returns-then-self-clause-after : goal.returns-then-self-clause-after
returns-then-self-clause-after c = sym (after_next-none c.args.self.now (sym (returns-then-self-clause-page c)))

pub returns-in_err-page-clause-page : goal.returns-in_err-page-clause-page
returns-in_err-page-clause-page c =
    let empty : slice_index_or c.self.inside.slots.items c.self.inside.handed None ≡ None = grind (arith, common_steps) in
    c.from_residual.ensures
    ∙ subst (λ (round : Round). None ≡ next round) c.self.view_is
    (sym (next-slot c.self.inside.slots.items c.self.inside.first c.self.inside.count c.self.inside.handed None empty))

pub returns-in_err-page-clause-after : goal.returns-in_err-page-clause-after
returns-in_err-page-clause-after c =
    let empty : slice_index_or c.self.inside.slots.items c.self.inside.handed None ≡ None = grind (arith, common_steps) in
    let none : None ≡ next c.args.self.now = sym c.from_residual.ensures ∙ returns-in_err-page-clause-page c in
    rw c.take.ensures.after
    (round_in-stays c.self.inside.slots.items c.self.inside.first c.self.inside.count c.self.inside.handed empty
    ∙ c.self.view_is ∙ sym (after_next-none c.args.self.now (sym none)))

pub returns-clause-page : goal.returns-clause-page
returns-clause-page c =
    let full : slice_index_or c.self.inside.slots.items c.self.inside.handed None ≡ Some c.in_ok-page.page = grind (arith, common_steps) in
    subst (λ (round : Round). Some (numbered (c.self.inside.first + c.self.inside.handed) c.in_ok-page.page) ≡ next round) c.self.view_is
    (sym (next-slot c.self.inside.slots.items c.self.inside.first c.self.inside.count c.self.inside.handed (Some c.in_ok-page.page) full))

pub returns-clause-after : goal.returns-clause-after
returns-clause-after c =
    let full : slice_index_or c.self.inside.slots.items c.self.inside.handed None ≡ Some c.in_ok-page.page = grind (arith, common_steps) in
    rw c.take.ensures.after
    (subst (λ (round : Round). round_in (slice_set c.self.inside.slots.items c.self.inside.handed None) c.self.inside.first c.self.inside.count (c.self.inside.handed + 1) ≡ after_next round) c.self.view_is
    (round_in-next c.self.inside.slots.items c.self.inside.first c.self.inside.count c.self.inside.handed c.in_ok-page.page full))
