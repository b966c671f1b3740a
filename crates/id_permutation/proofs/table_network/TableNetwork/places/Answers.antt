use Rattle.std.proofs.Common.{◌≡◌, ◌≤◌, ℕ, ◌+◌, ◌-◌, ◌++◌, List, drop, get_or, length, map, take, ap, arith, subst, sym, ◌∙◌}
use Rattle.id_permutation.specs.Placement.{place}
use Rattle.id_permutation.specs.declared.network.Network.{Network}
use Rattle.id_permutation.proofs.FourLaws.{map_over_part}
use Rattle.id_permutation.proofs.LoopLaws.{map_over_next}
use Rattle.id_permutation.proofs.table_network.TableNetwork.places.Goals as goal
use borrow.Rule.Slice.PartMut.{put_mid}

pub loop-numbers-preserved : goal.loop-numbers-preserved
loop-numbers-preserved c =
    let network : Network = c.args.self.now.network in
    let by : Network → ℕ → ℕ = λ n x. place n.size n.seed x in
    let all : List ℕ = c.args.numbers.now in
    let done : ℕ = c.loop-numbers.done in
    let part : List ℕ = c.place_eight.new.numbers in
    let within : done + 8 ≤ length all = omega (arith, c.loop-numbers-test.true, c.loop-numbers.auto.numbers) in
    let eight : (done + 8) - done ≡ 8 = omega arith in
    let placed : part ≡ map (by network) (take 8 (drop done c.loop-numbers.numbers)) =
    c.place_eight.ensures
    ∙ ap (λ (n : Network). map (by n) (take ((done + 8) - done) (drop done c.loop-numbers.numbers))) c.copied-tables.ensures
    ∙ ap (λ (k : ℕ). map (by network) (take k (drop done c.loop-numbers.numbers))) eight in
    record {
      within = within;
      so_far = subst (λ (k : ℕ). put_mid done k c.loop-numbers.numbers part ≡ map (by network) (take (done + 8) all) ++ drop (done + 8) all) (sym eight)
          (map_over_part (by network) all c.loop-numbers.numbers part done 8 within c.loop-numbers.invariant.so_far placed);
    }

pub loop-i-preserved : goal.loop-i-preserved
loop-i-preserved c =
    let network : Network = c.args.self.now.network in
    map_over_next (λ (x : ℕ). place network.size network.seed x) _ _ _ _ (omega arith) (omega arith) c.loop-i.invariant
    (c.place.ensures.exact ∙ ap (λ (n : Network). place n.size n.seed (get_or c.loop-i.numbers c.loop-i.i 0)) c.copied-tables.ensures)
