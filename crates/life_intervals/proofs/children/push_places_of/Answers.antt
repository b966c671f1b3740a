use Rattle.std.proofs.Common.{◌≡◌, ◌≤◌, ◌<◌, ◌+◌, ◌-◌, ◌++◌, ℕ, List, ap, ap₂, arith, refl, sym, ◌∙◌}
use Rattle.std.proofs.lemmas.List.{append-nil}
use Rattle.id_permutation.specs.Order.{Arrangement}
use Rattle.life_intervals.specs.Blocks.{places_choosing}
use Rattle.life_intervals.proofs.AppendLemmas.{GoesOn-same}
use Rattle.life_intervals.proofs.BlockLemmas.{places_of_parent-candidate, places_of_parent-none}
use Rattle.life_intervals.proofs.children.push_places_of.Goals as goal
use Rattle.life_intervals.proofs.children.push_places_of.Goals.{then-parent-window-via-then-parent-window, then-parent-window-via-else-parent-window+then-parent-window-2}

no_candidate : (g : _) (c : goal.Joined-then-parent-window g) (candidate : ℕ) → candidate < c.args.window.now.count → c.args.window.now.first + candidate ≡ c.args.parent → ⊥
no_candidate g c candidate below is =
    elim c.then-parent-window.branch [
      | then-parent-window-via-then-parent-window w ↦ omega (arith, w.if-parent-window.true, is)
      | then-parent-window-via-else-parent-window+then-parent-window-2 w ↦ omega (arith, w.if-parent-window-2.true, is, below, c.number-count.ensures.number)
    ]

pub returns-then-parent-window-clause-places : goal.returns-then-parent-window-clause-places
returns-then-parent-window-clause-places g c =
    sym (append-nil c.args.places.now.items)
    ∙ ap (λ (xs : List ℕ). c.args.places.now.items ++ xs)
    (places_of_parent-none c.args.reference.now.spread c.args.deal.now c.args.window.now.first c.args.size c.args.parent (omega (arith, c.requires.some, c.requires.deal)) (λ candidate below. no_candidate g c candidate (omega (arith, below, c.requires.deal))))

pub returns-then-parent-window-clause-before : goal.returns-then-parent-window-clause-before
returns-then-parent-window-clause-before g c = GoesOn-same c.args.places.now.items c.args.places.now.items refl

pub returns-clause-places : goal.returns-clause-places
returns-clause-places g c =
    let spread : List ℕ = c.args.reference.now.spread in
    let deal : Arrangement = c.args.deal.now in
    let candidate : ℕ = c.args.parent - c.args.window.now.first in
    let begun : c.args.window.now.first ≤ c.args.parent = omega (arith, c.if-parent-window.false) in
    let many : c.number-count.result ≡ deal.size = omega (arith, c.number-count.ensures.number, c.requires.deal) in
    let below : candidate < deal.size = omega (arith, c.if-parent-window-2.false, many) in
    c.in_ok-push_choosing.ensures.places
    ∙ ap₂ (λ (count number : ℕ). c.args.places.now.items ++ places_choosing spread c.args.size count number) many c.unplace-number.ensures.exact
    ∙ ap (λ (places : List ℕ). c.args.places.now.items ++ places) (places_of_parent-candidate spread deal c.args.window.now.first c.args.size c.args.parent candidate below (omega (arith, begun)))
