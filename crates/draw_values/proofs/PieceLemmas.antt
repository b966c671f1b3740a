-- Loops that write a piece at each place of a list in turn, and the texts of pieces that are read.
use Rattle.std.proofs.Common.{◌≡◌, ◌≢◌, ◌<◌, ℕ, ◌+◌, List, [], get_or, length, map, ap, sym, ◌∙◌, arith, below_more}
use Rattle.std.proofs.Math.ListN.{set, length-set}
use Rattle.std.proofs.lemmas.List.{get_or-map, get_or-set_other, get_or-set_same}
use Rattle.line_pages.specs.declared.piece.Piece.{Piece}
use Rattle.line_pages.specs.Pieces.{piece_text}

-- the piece that is read at a place
pub text-read : (pieces : List Piece) (i : ℕ) (piece : Piece) → i < length pieces → piece ≡ get_or pieces i piece → get_or (map piece_text pieces) i [] ≡ piece_text piece
text-read pieces i piece within read = get_or-map piece_text pieces i piece [] within ∙ ap piece_text (sym read)

text-set_same : (pieces : List Piece) (i : ℕ) (piece : Piece) → i < length pieces → get_or (map piece_text (set pieces i piece)) i [] ≡ piece_text piece
text-set_same pieces i piece within =
    get_or-map piece_text (set pieces i piece) i piece [] (omega (arith, length-set pieces i piece)) ∙ ap piece_text (get_or-set_same pieces i piece piece within)

text-set_other : (pieces : List Piece) (i k : ℕ) (piece : Piece) → k ≢ i → k < length pieces → get_or (map piece_text (set pieces i piece)) k [] ≡ get_or (map piece_text pieces) k []
text-set_other pieces i k piece other within =
    get_or-map piece_text (set pieces i piece) k piece [] (omega (arith, length-set pieces i piece))
    ∙ ap piece_text (get_or-set_other pieces i k piece piece other)
    ∙ sym (get_or-map piece_text pieces k piece [] within)

-- one piece more that is written
pub text-written : (text : ℕ → List ℕ) (pieces : List Piece) (i : ℕ) (piece : Piece) → i < length pieces → ((k : ℕ) → k < i → get_or (map piece_text pieces) k [] ≡ text k) → piece_text piece ≡ text i →
    (k : ℕ) → k < i + 1 → get_or (map piece_text (set pieces i piece)) k [] ≡ text k
text-written text pieces i piece within so_far here =
    below_more _ _
    (λ k below. text-set_other pieces i k piece (omega arith) (omega arith) ∙ so_far k below)
    (text-set_same pieces i piece within ∙ here)

-- and those after it are as they were
pub text-kept : (text : ℕ → List ℕ) (pieces : List Piece) (i : ℕ) (piece : Piece) → ((k : ℕ) → i < k + 1 → k < length pieces → get_or (map piece_text pieces) k [] ≡ text k) →
    (k : ℕ) → i + 1 < k + 1 → k < length (set pieces i piece) → get_or (map piece_text (set pieces i piece)) k [] ≡ text k
text-kept text pieces i piece so_far k past within =
    let kept : k < length pieces = omega (arith, length-set pieces i piece) in
    text-set_other pieces i k piece (omega arith) kept ∙ so_far k (omega arith) kept
