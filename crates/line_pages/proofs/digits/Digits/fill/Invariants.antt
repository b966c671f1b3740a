use Rattle.std.proofs.Common.{◌≡◌, ℕ, [], ◌∷◌, ◌++◌, map, take}
use Rattle.std.specs.Fmt.{decimal}
use Rattle.line_pages.specs.Pieces.{piece_text}
use Rattle.line_pages.proofs.digits.Digits.fill.Given as goal

abbrev pub invariant-loop-i : goal.invariant-loop-i
invariant-loop-i l = map piece_text (take l.i l.pieces) ≡ map (λ (number : ℕ). decimal number ++ l.end ∷ []) (take l.i l.numbers)
