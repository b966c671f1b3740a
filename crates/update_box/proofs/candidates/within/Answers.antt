use Rattle.std.proofs.Common.{◌≡◌, ℕ, ◌+◌, ◌-◌, List, drop, length, take, length-drop, take_all, arith, ap, sym, subst, ◌∙◌}
use Rattle.std.specs.Prelude.{nat_lt, false, true}
use Rattle.std.specs.List.{AllWithin}
use Rattle.std.specs.List.Sorted.{IsNonDecreasing, IsPartitionPoint}
use Rattle.std.proofs.lemmas.List.{get_or-drop}
use Rattle.std.proofs.lemmas.List.Sorted.{IsNonDecreasingBy-drop}
use Rattle.update_box.proofs.OrdinalLemmas.{filter-high, filter-low}
use Rattle.update_box.proofs.candidates.within.Goals as goal

pub returns : goal.returns
returns c =
    let ordinals : List ℕ = c.args.ordinals.now in
    let first : ℕ = c.args.first in
    let from : ℕ = c.count_below.result in
    let near : List ℕ = drop from ordinals in
    let rest : take (length ordinals - from) near ≡ near = take_all (length ordinals - from) near (omega (arith, length-drop from ordinals)) in
    let part = subst (λ (xs : List ℕ). IsPartitionPoint (λ x. nat_lt x c.args.end ≡ true) (λ x. nat_lt x c.args.end ≡ false) xs c.count_below-2.result) rest c.count_below-2.ensures.parted in
    let begun : AllWithin (λ x. nat_lt x first ≡ false) near 0 (length near) =
    λ k d low inside. ap (λ (x : ℕ). nat_lt x first) (get_or-drop from ordinals k d) ∙ c.count_below.ensures.parted.1 (from + k) d (omega arith) (omega (arith, inside, length-drop from ordinals)) in
    ap (take c.count_below-2.result) rest
    ∙ filter-low first c.args.end c.count_below-2.result near part.0 part.1 begun
    ∙ filter-high first c.args.end from ordinals c.count_below.ensures.parted.0

pub count_below-requires-2 : goal.count_below-requires-2
count_below-requires-2 c =
    let near : List ℕ = drop c.count_below.result c.args.ordinals.now in
    let rest : take (length c.args.ordinals.now - c.count_below.result) near ≡ near = take_all (length c.args.ordinals.now - c.count_below.result) near (omega (arith, length-drop c.count_below.result c.args.ordinals.now)) in
    subst IsNonDecreasing (sym rest) (IsNonDecreasingBy-drop (λ x. x) c.count_below.result c.args.ordinals.now c.requires)
