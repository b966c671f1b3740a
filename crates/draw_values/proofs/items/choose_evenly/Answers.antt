use Rattle.std.proofs.Common.{◌<◌, ◌%◌, ℕ, List, get_or, ap, arith}
use Rattle.std.proofs.lemmas.List.{get_or-map}
use Rattle.draw_values.proofs.items.choose_evenly.Goals as goal

pub returns-clause-within : goal.returns-clause-within
returns-clause-within c = λ i within.
    let some : 0 < c.args.count.now = omega (arith, c.number-some.ensures.some, c.number-some.ensures.number) in
    let below : get_or c.args.draws.now i 0 % c.args.count.now < c.args.count.now = omega arith in
    omega (arith, ap (λ (places : List ℕ). get_or places i 0) c.remainders.ensures, get_or-map (λ (x : ℕ). x % c.args.count.now) c.args.draws.now i 0 0 within)
