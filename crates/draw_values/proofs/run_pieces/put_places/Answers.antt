use Rattle.std.proofs.Common.{◌≡◌, ◌∙◌, ◌<◌, ◌%◌, ℕ, List, get_or, ap, arith}
use Rattle.std.proofs.lemmas.List.{get_or-map}
use Rattle.draw_values.proofs.run_pieces.put_places.Goals as goal

pub returns-clause-within : goal.returns-clause-within
returns-clause-within c = λ i within.
    let count : ℕ = c.args.list.now.count in
    let place : get_or c.remainders.new.numbers i 0 ≡ get_or c.args.ordinals.now i 0 % count =
    ap (λ (numbers : List ℕ). get_or numbers i 0) c.remainders.ensures
    ∙ get_or-map (λ (x : ℕ). x % count) c.copy_from_slice.new.self i 0 0 (omega (arith, within, c.copy_from_slice.ensures.len))
    ∙ ap (λ (numbers : List ℕ). get_or numbers i 0 % count) c.copy_from_slice.ensures.after in
    let some : 0 < count = omega (arith, c.number-some.ensures.number, c.number-some.ensures.some) in
    let below : get_or c.args.ordinals.now i 0 % count < count = omega arith in
    omega (arith, place, below, c.requires.ready)
