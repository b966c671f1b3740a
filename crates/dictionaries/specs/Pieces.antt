-- A text that is cut into pieces.
use Rattle.std.specs.Prelude.{◌≡◌, ℕ, ◌≤◌, List, [], ◌∷◌, length, slice_range}
use Rattle.std.specs.Str.{IsCharBoundary}

-- the pieces of a text that end at these places: the first begins at `start`, each other one where the one before it ends
unfoldable pub pieces_from : ℕ → List ℕ → List ℕ → List (List ℕ)
pieces_from start text [] = []
pieces_from start text (end ∷ ends) = slice_range text start end ∷ pieces_from end text ends

-- the ends rise from `start` to the end of the text, and no character is cut
unfoldable pub IsCutFrom : ℕ → List ℕ → List ℕ → Type 0
IsCutFrom start text [] = start ≡ length text
IsCutFrom start text (end ∷ ends) = (start ≤ end) × IsCharBoundary text end × IsCutFrom end text ends
