-- The pieces of a text, and one piece more after them.
use Rattle.std.proofs.Common.{◌≡◌, ℕ, zero, suc, ◌-◌, ◌<◌, ◌≤◌, List, [], ◌∷◌, ◌++◌, Some, length, get_or, take, drop, refl, ap, sym, ◌∙◌, inl, inr, arith}
use Rattle.std.proofs.lemmas.Bool.{cases_lt}
use Rattle.std.proofs.lemmas.List.{length-append, get_or_append_left, take_all, drop_at, drop-append-le, take-append-le, length-drop}
use Rattle.std.proofs.lemmas.Str.{IsCharBoundary-at_seam, IsCharBoundary-end}
use Rattle.std.specs.List.{slice_get, slice_range}
use Rattle.std.specs.Str.{IsCharBoundary, IsUtf8}
use Rattle.dictionaries.specs.Pieces.{pieces_from, IsCutFrom}

pub length-pieces_from : (start : ℕ) (text ends : List ℕ) → length (pieces_from start text ends) ≡ length ends
unfolding pieces_from
length-pieces_from start text [] = refl
length-pieces_from start text (end ∷ ends) = ap suc (length-pieces_from end text ends)

pub pieces_from-none : (start : ℕ) (text : List ℕ) → pieces_from start text [] ≡ []
unfolding pieces_from
pieces_from-none start text = refl

-- a piece stands between its end and that of the one before it
pub slice_get-pieces_from : (start : ℕ) (text ends : List ℕ) (i : ℕ) → i < length ends →
    slice_get (pieces_from start text ends) i ≡ Some (slice_range text (get_or (start ∷ ends) i 0) (get_or ends i 0))
unfolding pieces_from
slice_get-pieces_from start text [] i within = absurd (omega arith)
slice_get-pieces_from start text (end ∷ ends) zero within = refl
slice_get-pieces_from start text (end ∷ ends) (suc i) within = slice_get-pieces_from end text ends i (omega arith)

-- no character is cut where a piece ends
pub end_is_boundary : (start : ℕ) (text ends : List ℕ) (i : ℕ) → IsCutFrom start text ends → i < length ends →
    IsCharBoundary text (get_or ends i 0)
unfolding IsCutFrom
end_is_boundary start text [] i cut within = absurd (omega arith)
end_is_boundary start text (end ∷ ends) zero cut within = cut.1
end_is_boundary start text (end ∷ ends) (suc i) cut within = end_is_boundary end text ends i cut.2 (omega arith)

-- nor where it begins
pub start_is_boundary : (text ends : List ℕ) (i : ℕ) → IsCutFrom 0 text ends → i < length ends →
    0 < get_or (0 ∷ ends) i 0 → IsCharBoundary text (get_or (0 ∷ ends) i 0)
start_is_boundary text ends zero cut within some = absurd (omega arith)
start_is_boundary text ends (suc i) cut within some = end_is_boundary 0 text ends i cut (omega arith)

-- and it begins at or before its end
pub start-le-end : (start : ℕ) (text ends : List ℕ) (i : ℕ) → IsCutFrom start text ends → i < length ends →
    get_or (start ∷ ends) i 0 ≤ get_or ends i 0
unfolding IsCutFrom
start-le-end start text [] i cut within = absurd (omega arith)
start-le-end start text (end ∷ ends) zero cut within = cut.0
start-le-end start text (end ∷ ends) (suc i) cut within = start-le-end end text ends i cut.2 (omega arith)

-- what is appended to a text cuts no character of it
IsCharBoundary-append : (text more : List ℕ) (end : ℕ) → IsUtf8 more → IsCharBoundary text end → IsCharBoundary (text ++ more) end
IsCharBoundary-append text more end utf8 boundary =
    let fits : end ≤ length text = boundary.0 in
    elim (cases_lt end (length text)) [
      | inl inside ↦
          let same = get_or_append_left text more 0 end inside in
          (omega (arith, length-append text more), λ _ high. rw same (boundary.1 inside (rw same at high)))
      | inr past ↦
          let last : length text ≡ end = omega arith in
          rw last at (IsCharBoundary-at_seam (text ++ more) text more refl utf8)
    ]

pub IsCutFrom-none : IsCutFrom 0 [] []
unfolding IsCutFrom
IsCutFrom-none = refl

pub IsCutFrom-push : (start : ℕ) (text ends more : List ℕ) → IsUtf8 more → IsCutFrom start text ends →
    IsCutFrom start (text ++ more) (ends ++ length (text ++ more) ∷ [])
unfolding IsCutFrom
IsCutFrom-push start text [] more utf8 cut =
    (omega (arith, length-append text more), IsCharBoundary-end (text ++ more), refl)
IsCutFrom-push start text (end ∷ ends) more utf8 cut =
    (cut.0, IsCharBoundary-append text more end utf8 cut.1, IsCutFrom-push end text ends more utf8 cut.2)

-- the range of a text is that of the text with more after it
slice_range-append : (text more : List ℕ) (start end : ℕ) → start ≤ end → end ≤ length text →
    slice_range (text ++ more) start end ≡ slice_range text start end
slice_range-append text more start end ordered fits =
    let shorter : end - start ≤ length (drop start text) = omega (arith, length-drop start text) in
    ap (take (end - start)) (drop-append-le start text more (omega arith)) ∙ take-append-le (end - start) (drop start text) more shorter

slice_range-seam : (text more : List ℕ) (start : ℕ) → start ≡ length text → slice_range (text ++ more) start (length (text ++ more)) ≡ more
slice_range-seam text more start at_end =
    let long : length more ≤ length (text ++ more) - start = omega (arith, length-append text more) in
    ap (take (length (text ++ more) - start)) (drop_at text more start (sym at_end)) ∙ take_all (length (text ++ more) - start) more long

pub pieces_from-push : (start : ℕ) (text ends more : List ℕ) → IsCutFrom start text ends →
    pieces_from start (text ++ more) (ends ++ length (text ++ more) ∷ []) ≡ pieces_from start text ends ++ more ∷ []
unfolding pieces_from IsCutFrom
pieces_from-push start text [] more cut = ap (λ (piece : List ℕ). piece ∷ []) (slice_range-seam text more start cut)
pieces_from-push start text (end ∷ ends) more cut =
    let boundary : IsCharBoundary text end = cut.1 in
    rw (slice_range-append text more start end cut.0 boundary.0, pieces_from-push end text ends more cut.2) refl

-- there are as many pieces as ends
pub within-ends : (text ends : List ℕ) (pieces : List (List ℕ)) (i : ℕ) → pieces_from 0 text ends ≡ pieces → i < length pieces →
    i < length ends
within-ends text ends pieces i view within =
    omega (arith, length-pieces_from 0 text ends, ap length view)
