use Rattle.std.proofs.Common.{◌≡◌, ◌≤◌, ℕ, ◌+◌, ◌-◌, ◌++◌, List, drop, get_or, length, map, take, ap, arith, subst, sym, ◌∙◌}
use Rattle.id_permutation.specs.Placement.{unplace}
use Rattle.id_permutation.specs.declared.network.Network.{Network}
use Rattle.id_permutation.proofs.FourLaws.{map_over_part}
use Rattle.id_permutation.proofs.LoopLaws.{map_over_next}
use Rattle.id_permutation.proofs.table_network.TableNetwork.numbers.Goals as goal
use borrow.Rule.Slice.PartMut.{put_mid}

pub loop-places-preserved : goal.loop-places-preserved
loop-places-preserved c =
    let network : Network = c.args.self.now.network in
    let by : Network → ℕ → ℕ = λ n x. unplace n.size n.seed x in
    let all : List ℕ = c.args.places.now in
    let done : ℕ = c.loop-places.done in
    let part : List ℕ = c.number_eight.new.places in
    let within : done + 8 ≤ length all = omega (arith, c.loop-places-test.true, c.loop-places.auto.places) in
    let eight : (done + 8) - done ≡ 8 = omega arith in
    let placed : part ≡ map (by network) (take 8 (drop done c.loop-places.places)) =
    c.number_eight.ensures
    ∙ ap (λ (n : Network). map (by n) (take ((done + 8) - done) (drop done c.loop-places.places))) c.copied-tables.ensures
    ∙ ap (λ (k : ℕ). map (by network) (take k (drop done c.loop-places.places))) eight in
    record {
      within = within;
      so_far = subst (λ (k : ℕ). put_mid done k c.loop-places.places part ≡ map (by network) (take (done + 8) all) ++ drop (done + 8) all) (sym eight)
          (map_over_part (by network) all c.loop-places.places part done 8 within c.loop-places.invariant.so_far placed);
    }

pub loop-i-preserved : goal.loop-i-preserved
loop-i-preserved c =
    let network : Network = c.args.self.now.network in
    map_over_next (λ (x : ℕ). unplace network.size network.seed x) _ _ _ _ (omega arith) (omega arith) c.loop-i.invariant
    (c.unplace.ensures.exact ∙ ap (λ (n : Network). unplace n.size n.seed (get_or c.loop-i.places c.loop-i.i 0)) c.copied-tables.ensures)
