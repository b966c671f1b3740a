use Rattle.std.proofs.Common.{◌≡◌, ◌<◌, ◌+◌, ℕ, List, drop, get_or, length, length-drop, ap, arith, subst, sym, ◌∙◌}
use Rattle.std.proofs.lemmas.List.{get_or-drop}
use Rattle.id_permutation.specs.Fours.{four_by}
use Rattle.id_permutation.specs.declared.fours.Four.{Four}
use Rattle.id_permutation.proofs.FourLaws.{four_after-six}
use Rattle.id_permutation.proofs.table_network.TableNetwork.number_eight.Goals as goal

pub put_four_numbers-requires-clause-unmixed : goal.put_four_numbers-requires-clause-unmixed
put_four_numbers-requires-clause-unmixed c =
    let network = c.args.self.now.network in
    let by : ℕ → Four → Four = four_by network.height network.width network.seed in
    four_after-six network.height network.width network.seed c.unmix_four-first-3.result
    ∙ ap (by 2) (ap (by 1) c.unmix_four-first-3.ensures.undone ∙ c.unmix_four-first-2.ensures.undone)
    ∙ c.unmix_four-first.ensures.undone
    ∙ c.split_four-first.ensures.exact

pub put_four_numbers-requires-2-clause-below : goal.put_four_numbers-requires-2-clause-below
put_four_numbers-requires-2-clause-below c = λ k d inside.
    let places : List ℕ = c.args.places.now in
    let size : ℕ = c.args.self.now.network.size in
    let back : c.split_at_mut-low.result.1.now ≡ drop 4 places = c.split_at_mut-low.ensures.back in
    subst (λ (xs : List ℕ). get_or xs k d < size) (sym back)
    (subst (λ (x : ℕ). x < size) (sym (get_or-drop 4 places k d)) (c.requires.below (4 + k) d (omega (arith, inside, ap length back, length-drop 4 places, c.requires.eight))))

pub put_four_numbers-requires-2-clause-unmixed : goal.put_four_numbers-requires-2-clause-unmixed
put_four_numbers-requires-2-clause-unmixed c =
    let network = c.args.self.now.network in
    let by : ℕ → Four → Four = four_by network.height network.width network.seed in
    four_after-six network.height network.width network.seed c.unmix_four-second-3.result
    ∙ ap (by 2) (ap (by 1) c.unmix_four-second-3.ensures.undone ∙ c.unmix_four-second-2.ensures.undone)
    ∙ c.unmix_four-second.ensures.undone
    ∙ c.split_four-second.ensures.exact
