-- Rows of pieces. Columns stand one after the other in a list of pieces, each over as many rows as the stride says.
use Rattle.std.specs.Prelude.{ℕ, ◌+◌, ◌*◌, List, [], get_or, map}
use Rattle.std.specs.List.{flat_map, range_with_len}
use Rattle.line_pages.specs.declared.piece.Piece.{Piece}
use Rattle.line_pages.specs.Pieces.{piece_text}

-- the text of the piece at a place of the list
abbrev pub piece_text_at : List Piece → ℕ → List ℕ
piece_text_at pieces place = get_or (map piece_text pieces) place []

-- the pieces of row i, one after the other
abbrev pub row_of_pieces : List Piece → ℕ → ℕ → ℕ → List ℕ
row_of_pieces pieces columns stride i = flat_map (λ column. piece_text_at pieces (column * stride + i)) (range_with_len 0 columns)

-- the first rows, one after the other
abbrev pub rows_of_pieces : List Piece → ℕ → ℕ → ℕ → List ℕ
rows_of_pieces pieces columns stride count = flat_map (row_of_pieces pieces columns stride) (range_with_len 0 count)
