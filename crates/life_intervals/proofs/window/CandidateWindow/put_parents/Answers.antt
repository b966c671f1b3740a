use Rattle.std.proofs.Common.{◌≡◌, ◌≤◌, ◌<◌, ◌+◌, ◌^◌, ℕ, List, get_or, map, ap, arith, subst, sym, ◌∙◌}
use Rattle.std.specs.Prelude.{All}
use Rattle.std.proofs.lemmas.List.Elements.{All-map}
use Rattle.std.proofs.lemmas.Nat.{mod_below}
use Rattle.std.proofs.lemmas.Simd.{map-map}
use Rattle.id_permutation.specs.Order.{place_in}
use Rattle.id_permutation.proofs.OrderLaws.{AreInversesBelow-number_at}
use Rattle.life_intervals.specs.References.{choice}
use Rattle.life_intervals.proofs.window.CandidateWindow.put_parents.Goals as goal

-- places choose candidates
chosen-below : (spread : List ℕ) (count size : ℕ) (places numbers : List ℕ) → numbers ≡ map (choice spread count) places → 1 ≤ count → size ≡ count → All (λ x. x < size) numbers
chosen-below spread count size places numbers are some is =
    subst (All (λ x. x < size)) (sym are)
    (All-map (λ x. x < size) (choice spread count) places (λ k d inside.
    subst (λ (n : ℕ). choice spread count (get_or places k d) < n) (sym is) (mod_below _ count (omega (arith, some)))))

pub places-requires : goal.places-requires
places-requires g c = record {
  below = chosen-below c.args.reference.now.spread c.args.self.now.count c.args.deal.now.size c.args.places.now c.put_numbers.new.places c.put_numbers.ensures c.requires.some c.requires.deal;
}

pub add_start-requires-clause-limits : goal.add_start-requires-clause-limits
add_start-requires-clause-limits g c =
    let order = c.args.deal.now in
    let numbers : List ℕ = c.put_numbers.new.places in
    let below : All (λ x. x < order.size) numbers =
    chosen-below c.args.reference.now.spread c.args.self.now.count order.size c.args.places.now numbers c.put_numbers.ensures c.requires.some c.requires.deal in
    subst (All (λ j. j < 2 ^ 40)) (sym c.places.ensures.exact)
    (All-map (λ j. j < 2 ^ 40) (place_in order) numbers (λ k d inside.
    omega (arith, (AreInversesBelow-number_at order).within (get_or numbers k d) (below k d inside), c.requires.deal, c.requires.count)))

pub returns-clause-parents : goal.returns-clause-parents
returns-clause-parents g c =
    let first : ℕ = c.args.self.now.first in
    let dealt : ℕ → ℕ = place_in c.args.deal.now in
    let chosen : ℕ → ℕ = choice c.args.reference.now.spread c.args.self.now.count in
    c.add_start.ensures
    ∙ ap (map (λ j. first + j)) (c.places.ensures.exact ∙ ap (map dealt) c.put_numbers.ensures ∙ map-map dealt chosen c.args.places.now)
    ∙ map-map (λ j. first + j) (λ place. dealt (chosen place)) c.args.places.now
