-- The halves of four numbers.
use Rattle.std.specs.Prelude.{ℕ, ◌+◌, ◌*◌, List, get_or}
use Rattle.id_permutation.specs.Placement.{IsWithin, halves_of, round, round_count, rounds}
use Rattle.id_permutation.specs.declared.fours.Four.{Four}
use Rattle.id_permutation.specs.declared.halves.Halves.{Halves}

-- those of the first four of some numbers, after the first rounds, so many
abbrev pub four_of : ℕ → ℕ → ℕ → ℕ → List ℕ → Four
four_of a b seed count numbers =
    let of : ℕ → Halves = λ i. rounds a b seed count (halves_of b (get_or numbers i 0)) in
    record { first = of 0; second = of 1; third = of 2; fourth = of 3 }

-- what a pair of rounds makes of them: the even one and the odd one after it
abbrev pub four_by : ℕ → ℕ → ℕ → ℕ → Four → Four
four_by a b seed pair four =
    let by : Halves → Halves = λ halves. round a b seed (2 * pair + 1) (round a b seed (2 * pair) halves) in
    record { first = by four.first; second = by four.second; third = by four.third; fourth = by four.fourth }

-- what all rounds make of them
abbrev pub four_after : ℕ → ℕ → ℕ → Four → Four
four_after a b seed four =
    let after : Halves → Halves = rounds a b seed round_count in
    record { first = after four.first; second = after four.second; third = after four.third; fourth = after four.fourth }

-- all are of a rectangle of height a and width b
pub record AreWithin (a b : ℕ) (four : Four) : Type 0 where
  pub first : IsWithin a b four.first
  pub second : IsWithin a b four.second
  pub third : IsWithin a b four.third
  pub fourth : IsWithin a b four.fourth
