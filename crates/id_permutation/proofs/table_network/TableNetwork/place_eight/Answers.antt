use Rattle.std.proofs.Common.{◌≡◌, ◌<◌, ◌+◌, ℕ, List, drop, get_or, length, length-drop, ap, arith, subst, sym, ◌∙◌}
use Rattle.std.proofs.lemmas.List.{get_or-drop}
use Rattle.id_permutation.specs.Fours.{four_by}
use Rattle.id_permutation.specs.declared.fours.Four.{Four}
use Rattle.id_permutation.proofs.FourLaws.{four_of-six}
use Rattle.id_permutation.proofs.table_network.TableNetwork.place_eight.Goals as goal

pub put_four-requires-clause-mixed : goal.put_four-requires-clause-mixed
put_four-requires-clause-mixed c =
    let network = c.args.self.now.network in
    let by : ℕ → Four → Four = four_by network.height network.width network.seed in
    c.mix_four-first-3.ensures.exact
    ∙ ap (by 2) (c.mix_four-first-2.ensures.exact ∙ ap (by 1) (c.mix_four-first.ensures.exact ∙ ap (by 0) c.split_four-first.ensures.exact))
    ∙ four_of-six network.height network.width network.seed c.split_at_mut-low.result.0.now

pub put_four-requires-2-clause-below : goal.put_four-requires-2-clause-below
put_four-requires-2-clause-below c = λ k d inside.
    let numbers : List ℕ = c.args.numbers.now in
    let size : ℕ = c.args.self.now.network.size in
    let back : c.split_at_mut-low.result.1.now ≡ drop 4 numbers = c.split_at_mut-low.ensures.back in
    subst (λ (xs : List ℕ). get_or xs k d < size) (sym back)
    (subst (λ (x : ℕ). x < size) (sym (get_or-drop 4 numbers k d)) (c.requires.below (4 + k) d (omega (arith, inside, ap length back, length-drop 4 numbers, c.requires.eight))))

pub put_four-requires-2-clause-mixed : goal.put_four-requires-2-clause-mixed
put_four-requires-2-clause-mixed c =
    let network = c.args.self.now.network in
    let by : ℕ → Four → Four = four_by network.height network.width network.seed in
    c.mix_four-second-3.ensures.exact
    ∙ ap (by 2) (c.mix_four-second-2.ensures.exact ∙ ap (by 1) (c.mix_four-second.ensures.exact ∙ ap (by 0) c.split_four-second.ensures.exact))
    ∙ four_of-six network.height network.width network.seed c.split_at_mut-low.result.1.now
