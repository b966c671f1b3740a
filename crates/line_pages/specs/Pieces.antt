-- Short texts in a number.
use Rattle.std.specs.Prelude.{ℕ, zero, suc, ◌/◌, ◌%◌, List, [], ◌∷◌}
use Rattle.line_pages.specs.declared.piece.Piece.{Piece}

-- the k lowest bytes of a number, the lowest first
unfoldable pub low_bytes : ℕ → ℕ → List ℕ
low_bytes zero n = []
low_bytes (suc k) n = n % 256 ∷ low_bytes k (n / 256)

-- the bytes of a piece
abbrev pub piece_text : Piece → List ℕ
piece_text piece = low_bytes piece.len piece.word
