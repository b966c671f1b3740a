use Rattle.std.proofs.Common.{ℕ, ◌<◌, sym, ap, ◌∙◌, subst}
use Rattle.id_permutation.specs.Order.{number_at}
use Rattle.id_permutation.proofs.OrderLaws.{AreInversesBelow-number_at}
use Rattle.id_permutation.proofs.order.Order.place.Goals as goal

pub returns-clause-below : goal.returns-clause-below
returns-clause-below g c =
    let order = c.args.self.now in
    subst (λ (found : ℕ). found < order.size) (sym c.found_place.ensures.exact) ((AreInversesBelow-number_at order).within c.args.x c.requires.below)

pub returns-clause-undone : goal.returns-clause-undone
returns-clause-undone g c =
    let order = c.args.self.now in
    ap (number_at order) c.found_place.ensures.exact ∙ (AreInversesBelow-number_at order).undone c.args.x c.requires.below
