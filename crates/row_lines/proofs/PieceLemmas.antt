-- The texts of pieces, by their places in a list of which a part, or an item, is set.
use Rattle.std.proofs.Common.{◌≡◌, ℕ, ◌+◌, ◌*◌, ◌<◌, ◌≤◌, List, [], ◌++◌, get_or, get_or-set_other, get_or-set_same, length, length-take, map, take, slice_set, ap, sym, arith, ◌∙◌}
use Rattle.std.proofs.lemmas.List.{get_or-append-add, get_or_append_left, get_or-take, length-map, map-append, map-set, take-map}
use Rattle.std.proofs.lemmas.Slice.{take-put_mid}
use Rattle.std.proofs.Math.Nat.{mul-le-mul_left}
use Rattle.line_pages.specs.declared.piece.Piece.{Piece}
use Rattle.line_pages.specs.Pieces.{piece_text}
use Rattle.line_pages.specs.Rows.{piece_text_at}
use Rattle.row_lines.specs.RunFields.{AreMade}
use Rattle.row_lines.specs.Runs.{RunLinesOf}
use borrow.Rule.Slice.PartMut.{put_mid}

-- an item of the first ones
piece_text_at-take : (n : ℕ) (pieces : List Piece) (i : ℕ) → i < n → piece_text_at (take n pieces) i ≡ piece_text_at pieces i
piece_text_at-take n pieces i below =
    ap (λ (texts : List (List ℕ)). get_or texts i []) (sym (take-map piece_text n pieces)) ∙ get_or-take n (map piece_text pieces) i [] below

-- before the part that is set, and in it
pub piece_text_at-before : (start k : ℕ) (pieces fields : List Piece) (i : ℕ) → i < start → start ≤ length pieces → piece_text_at (put_mid start k pieces fields) i ≡ piece_text_at pieces i
piece_text_at-before start k pieces fields i before within =
    sym (piece_text_at-take (start + length fields) (put_mid start k pieces fields) i (omega (arith, before)))
    ∙ ap (λ (all : List Piece). piece_text_at all i) (take-put_mid start k pieces fields (start + length fields) (omega arith) within)
    ∙ ap (λ (texts : List (List ℕ)). get_or texts i []) (map-append piece_text (take start pieces) fields)
    ∙ get_or_append_left (map piece_text (take start pieces)) (map piece_text fields) [] i
    (omega (arith, before, within, length-map (take start pieces) piece_text, length-take start pieces))
    ∙ piece_text_at-take start pieces i before

pub piece_text_at-in : (start k : ℕ) (pieces fields : List Piece) (i : ℕ) → i < length fields → start ≤ length pieces → piece_text_at (put_mid start k pieces fields) (start + i) ≡ piece_text_at fields i
piece_text_at-in start k pieces fields i inside within =
    let front : length (map piece_text (take start pieces)) ≡ start = omega (arith, within, length-map (take start pieces) piece_text, length-take start pieces) in
    sym (piece_text_at-take (start + length fields) (put_mid start k pieces fields) (start + i) (omega (arith, inside)))
    ∙ ap (λ (all : List Piece). piece_text_at all (start + i)) (take-put_mid start k pieces fields (start + length fields) (omega arith) within)
    ∙ ap (λ (texts : List (List ℕ)). get_or texts (start + i) []) (map-append piece_text (take start pieces) fields)
    ∙ ap (λ (place : ℕ). get_or (map piece_text (take start pieces) ++ map piece_text fields) (place + i) []) (sym front)
    ∙ get_or-append-add (map piece_text (take start pieces)) (map piece_text fields) i []

-- an item that is set, and the others
pub piece_text_at-set : (pieces : List Piece) (i : ℕ) (piece : Piece) → i < length pieces → piece_text_at (slice_set pieces i piece) i ≡ piece_text piece
piece_text_at-set pieces i piece below =
    ap (λ (texts : List (List ℕ)). get_or texts i []) (map-set piece_text pieces i piece)
    ∙ get_or-set_same (map piece_text pieces) i (piece_text piece) [] (omega (arith, below, length-map pieces piece_text))

pub piece_text_at-set_other : (pieces : List Piece) (i j : ℕ) (piece : Piece) → (j ≡ i → ⊥) → piece_text_at (slice_set pieces i piece) j ≡ piece_text_at pieces j
piece_text_at-set_other pieces i j piece apart =
    ap (λ (texts : List (List ℕ)). get_or texts j []) (map-set piece_text pieces i piece)
    ∙ get_or-set_other (map piece_text pieces) i j (piece_text piece) [] apart

-- the column at a place is made where its part is, and those before stay
pub made_in : (lines : RunLinesOf) (ordinals : List ℕ) (pieces fields : List Piece) (start k column : ℕ) → start ≤ length pieces → length fields ≡ length ordinals →
    AreMade lines ordinals fields 0 column → AreMade lines ordinals (put_mid start k pieces fields) start column
made_in lines ordinals pieces fields start k column within many made = record {
  text = λ i below.
      let begun : 0 + i ≡ i = omega arith in
      piece_text_at-in start k pieces fields i (omega (arith, below, many)) within ∙ ap (piece_text_at fields) (sym begun) ∙ made.text i below;
  size = made.size;
}

pub made_before : (lines : RunLinesOf) (ordinals : List ℕ) (pieces fields : List Piece) (start k from column : ℕ) → start ≤ length pieces → from + length ordinals ≤ start →
    AreMade lines ordinals pieces from column → AreMade lines ordinals (put_mid start k pieces fields) from column
made_before lines ordinals pieces fields start k from column within before made = record {
  text = λ i below. piece_text_at-before start k pieces fields (from + i) (omega (arith, below, before)) within ∙ made.text i below;
  size = made.size;
}

-- where columns stand that have so many pieces each
pub columns_within : (column columns count : ℕ) → column < columns → column * count + count ≤ count * columns
columns_within column columns count below = let next : column + 1 ≤ columns = omega (arith, below) in omega (arith, mul-le-mul_left count next)

pub column_behind : (k column count : ℕ) → k < column → k * count + count ≤ column * count
column_behind k column count before = let next : k + 1 ≤ column = omega (arith, before) in omega (arith, mul-le-mul_left count next)
