use Rattle.std.proofs.Common.{ℕ, ◌<◌, sym, ap, ◌∙◌, subst}
use Rattle.id_permutation.specs.Order.{place_in}
use Rattle.id_permutation.proofs.OrderLaws.{AreInversesBelow-number_at}
use Rattle.id_permutation.proofs.order.Order.unplace.Goals as goal

pub returns-clause-below : goal.returns-clause-below
returns-clause-below g c =
    let order = c.args.self.now in
    subst (λ (found : ℕ). found < order.size) (sym c.found_number.ensures.exact) ((AreInversesBelow-number_at order).within_back c.args.y c.requires.below)

pub returns-clause-redone : goal.returns-clause-redone
returns-clause-redone g c =
    let order = c.args.self.now in
    ap (place_in order) c.found_number.ensures.exact ∙ (AreInversesBelow-number_at order).redone c.args.y c.requires.below
