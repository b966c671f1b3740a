-- Rows of pieces, piece by piece and row by row.
use Rattle.std.proofs.Common.{◌≡◌, ℕ, zero, suc, ◌+◌, ◌*◌, ◌<◌, ◌≤◌, List, [], ◌∷◌, ◌++◌, length, take, get_or, refl, sym, ap, ◌∙◌, arith, length-append}
use Rattle.std.specs.List.{flat_map, range_with_len}
use Rattle.std.proofs.lemmas.List.{flat_map_more, get_or-map}
use Rattle.std.proofs.lemmas.List.Folds.{length-flat_map-take}
use Rattle.std.proofs.lemmas.List.FromFn.{length-range_with_len, get_or-range_with_len}
use Rattle.std.proofs.Math.Nat.{mul-le-mul_right}
use Rattle.line_pages.specs.declared.piece.Piece.{Piece}
use Rattle.line_pages.specs.Pieces.{piece_text}
use Rattle.line_pages.specs.Rows.{piece_text_at, row_of_pieces, rows_of_pieces}

range-more : (a n : ℕ) → range_with_len a (n + 1) ≡ range_with_len a n ++ (a + n) ∷ []
range-more a zero = let same : a ≡ a + 0 = omega arith in ap (λ (x : ℕ). x ∷ []) same
range-more a (suc n) =
    let next : suc n + 1 ≡ suc (n + 1) = omega arith in
    let last : a + 1 + n ≡ a + suc n = omega arith in
    rw next (ap (λ (xs : List ℕ). a ∷ xs) (range-more (a + 1) n ∙ ap (λ (x : ℕ). range_with_len (a + 1) n ++ x ∷ []) last))

take-range : (a n k : ℕ) → k ≤ n → take k (range_with_len a n) ≡ range_with_len a k
take-range a n zero within = refl
take-range a zero (suc k) within = absurd (omega arith)
take-range a (suc n) (suc k) within = ap (λ (xs : List ℕ). a ∷ xs) (take-range (a + 1) n k (omega arith))

-- the text of the piece that was read
pub piece_text_at-read : (pieces : List Piece) (place : ℕ) (piece : Piece) → place < length pieces → piece ≡ get_or pieces place piece →
    piece_text_at pieces place ≡ piece_text piece
piece_text_at-read pieces place piece within read = get_or-map piece_text pieces place piece [] within ∙ ap piece_text (sym read)

-- one text more
pub texts-next : (f : ℕ → List ℕ) (n : ℕ) (start so_far text : List ℕ) → so_far ≡ start ++ flat_map f (range_with_len 0 n) → text ≡ f n →
    so_far ++ text ≡ start ++ flat_map f (range_with_len 0 (n + 1))
texts-next f n start so_far text before here =
    let last : 0 + n ≡ n = omega arith in
    let more : range_with_len 0 (n + 1) ≡ range_with_len 0 n ++ n ∷ [] = rw last at (range-more 0 n) in
    ap (λ (xs : List ℕ). so_far ++ xs) here
    ∙ ap (λ (xs : List ℕ). xs ++ f n) before
    ∙ flat_map_more f start (range_with_len 0 n) n
    ∙ ap (λ (xs : List ℕ). start ++ flat_map f xs) (sym more)

pub length-texts-next : (f : ℕ → List ℕ) (n : ℕ) →
    length (flat_map f (range_with_len 0 (n + 1))) ≡ length (flat_map f (range_with_len 0 n)) + length (f n)
length-texts-next f n =
    ap length (sym (texts-next f n [] (flat_map f (range_with_len 0 n)) (f n) refl refl))
    ∙ length-append (flat_map f (range_with_len 0 n)) (f n)

-- and it fits where all do
pub texts-fit : (f : ℕ → List ℕ) (n all : ℕ) → n < all →
    length (flat_map f (range_with_len 0 n)) + length (f n) ≤ length (flat_map f (range_with_len 0 all))
texts-fit f n all within =
    let front : take n (range_with_len 0 all) ≡ range_with_len 0 n = take-range 0 all n (omega arith) in
    let here : get_or (range_with_len 0 all) n 0 ≡ n = omega (arith, get_or-range_with_len 0 all n 0 within) in
    rw (front, here) at (length-flat_map-take f (range_with_len 0 all) n 0 (omega (arith, length-range_with_len 0 all)))

-- rows of at most so many bytes each
pub length-rows_of_pieces : (pieces : List Piece) (columns stride count line : ℕ) →
    ((i : ℕ) → i < count → length (row_of_pieces pieces columns stride i) ≤ line) → length (rows_of_pieces pieces columns stride count) ≤ count * line
length-rows_of_pieces pieces columns stride zero line each = omega arith
length-rows_of_pieces pieces columns stride (suc count) line each =
    let next : count + 1 ≡ suc count = omega arith in
    let before = length-rows_of_pieces pieces columns stride count line (λ i under. each i (omega arith)) in
    let more = length-texts-next (row_of_pieces pieces columns stride) count in
    let more' = rw next at more in
    let more_lines : suc count * line ≡ count * line + line = omega arith in
    omega (arith, before, more', each count (omega arith))

-- the place of a piece is within the columns
pub place-within : (column columns stride row : ℕ) → column < columns → row < stride → column * stride + row + stride ≤ columns * stride + row
place-within column columns stride row under in_row =
    let up : suc column * stride ≤ columns * stride = mul-le-mul_right stride under in
    let more : suc column * stride ≡ column * stride + stride = omega arith in
    omega arith
