-- Texts that are short, and lists of pieces of texts.
use Rattle.std.proofs.Common.{◌≡◌, ◌<◌, ◌≤◌, ℕ, ◌+◌, Bool, true, false, ◌&&◌, List, [], ◌∷◌, ◌++◌, get_or, inl, inr, length, map, take, Some, ap, sym, ◌∙◌, arith}
use Rattle.std.specs.Prelude.{slice_get}
use Rattle.std.specs.List.{list_all, range_with_len}
use Rattle.std.proofs.lemmas.Bool.{cases_lt, le-ltb, lt-ltb}
use Rattle.std.proofs.lemmas.List.{map-append, take_more}
use Rattle.std.proofs.lemmas.List.Folds.{list_all_at, list_all_more}
use Rattle.std.proofs.lemmas.List.FromFn.{map-range_with_len_more}
use Rattle.std.proofs.lemmas.Option.{get_or_from_slice_get}
use Rattle.line_pages.specs.declared.piece.Piece.{Piece}
use Rattle.line_pages.specs.Pieces.{piece_text}
use Rattle.draw_values.specs.Runs.{is_short_text, with_behind}

-- one short text more
pub short_more : (texts : List (List ℕ)) (i : ℕ) (text : List ℕ) → i < length texts → slice_get texts i ≡ Some text → length text ≤ 15 → list_all is_short_text (take i texts) ≡ true →
    list_all is_short_text (take (i + 1) texts) ≡ true
short_more texts i text within found short so_far =
    let entry : get_or texts i [] ≡ text = get_or_from_slice_get texts i text [] found in
    list_all_more is_short_text texts i [] within
    ∙ ap (λ (front : Bool). front && is_short_text (get_or texts i [])) so_far
    ∙ lt-ltb (length (get_or texts i [])) 16 (omega (arith, ap (length {A = ℕ}) entry))

-- a long one
pub long_found : (texts : List (List ℕ)) (i : ℕ) (text : List ℕ) → i < length texts → slice_get texts i ≡ Some text → 15 < length text → list_all is_short_text texts ≡ false
long_found texts i text within found long =
    let entry : get_or texts i [] ≡ text = get_or_from_slice_get texts i text [] found in
    list_all_at is_short_text texts i [] within (le-ltb (length (get_or texts i [])) 16 (omega (arith, ap (length {A = ℕ}) entry)))

-- one of short texts
pub short_at : (texts : List (List ℕ)) (i : ℕ) (text : List ℕ) → list_all is_short_text texts ≡ true → i < length texts → slice_get texts i ≡ Some text → length text ≤ 15
short_at texts i text short within found =
    elim (cases_lt 15 (length text)) [
      | inl long ↦ let none = long_found texts i text within found long in absurd (cc)
      | inr few ↦ omega arith
    ]

-- the piece of one text more
pub pieces_more : (behind : ℕ) (texts : List (List ℕ)) (i : ℕ) (text : List ℕ) (pieces : List Piece) (piece : Piece) → i < length texts → slice_get texts i ≡ Some text →
    map piece_text pieces ≡ map (with_behind behind) (take i texts) → piece_text piece ≡ with_behind behind text → map piece_text (pieces ++ piece ∷ []) ≡ map (with_behind behind) (take (i + 1) texts)
pieces_more behind texts i text pieces piece within found so_far here =
    let entry : get_or texts i [] ≡ text = get_or_from_slice_get texts i text [] found in
    map-append piece_text pieces (piece ∷ [])
    ∙ ap (λ (front : List (List ℕ)). front ++ piece_text piece ∷ []) so_far
    ∙ ap (λ (last : List ℕ). map (with_behind behind) (take i texts) ++ last ∷ []) (here ∙ ap (with_behind behind) (sym entry))
    ∙ sym (map-append (with_behind behind) (take i texts) (get_or texts i [] ∷ []))
    ∙ ap (map (with_behind behind)) (sym (take_more texts i [] within))

-- the piece of one choice more
pub choices_more : (behind : ℕ) (text : ℕ → List ℕ) (n : ℕ) (pieces : List Piece) (piece : Piece) → map piece_text pieces ≡ map (with_behind behind) (map text (range_with_len 0 n)) →
    piece_text piece ≡ with_behind behind (text n) → map piece_text (pieces ++ piece ∷ []) ≡ map (with_behind behind) (map text (range_with_len 0 (n + 1)))
choices_more behind text n pieces piece so_far here =
    map-append piece_text pieces (piece ∷ [])
    ∙ ap (λ (front : List (List ℕ)). front ++ piece_text piece ∷ []) so_far
    ∙ ap (λ (last : List ℕ). map (with_behind behind) (map text (range_with_len 0 n)) ++ last ∷ []) here
    ∙ sym (map-append (with_behind behind) (map text (range_with_len 0 n)) (text n ∷ []))
    ∙ ap (map (with_behind behind)) (sym (map-range_with_len_more text 0 n n (omega arith)))

-- the same of texts with no byte after them
pub bare_more : (texts : List (List ℕ)) (i : ℕ) (text : List ℕ) (pieces : List Piece) (piece : Piece) → i < length texts → slice_get texts i ≡ Some text → map piece_text pieces ≡ take i texts →
    piece_text piece ≡ text → map piece_text (pieces ++ piece ∷ []) ≡ take (i + 1) texts
bare_more texts i text pieces piece within found so_far here =
    let entry : get_or texts i [] ≡ text = get_or_from_slice_get texts i text [] found in
    map-append piece_text pieces (piece ∷ [])
    ∙ ap (λ (front : List (List ℕ)). front ++ piece_text piece ∷ []) so_far
    ∙ ap (λ (last : List ℕ). take i texts ++ last ∷ []) (here ∙ sym entry)
    ∙ sym (take_more texts i [] within)
