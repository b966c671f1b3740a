-- Pieces joined by a byte.
use Rattle.std.proofs.Common.{◌≡◌, ◌∙◌, ℕ, ◌+◌, ◌==◌, if◌then◌else◌, List, [], ◌∷◌, ◌++◌, append_assoc, length, map, refl, ap, sym, arith}
use Rattle.std.specs.List.{join_with_byte, range_with_len}
use Rattle.std.proofs.lemmas.Bool.Decides.{nat_tests}
use Rattle.std.proofs.lemmas.List.FromFn.{length-map-range_with_len, map-range_with_len_more}

-- one more piece after others: the byte goes before it
join_with_byte-append : (c : ℕ) (first : List ℕ) (pieces : List (List ℕ)) (piece : List ℕ) → join_with_byte c ((first ∷ pieces) ++ piece ∷ []) ≡ join_with_byte c (first ∷ pieces) ++ ((c ∷ []) ++ piece)
join_with_byte-append c first [] piece = refl
join_with_byte-append c first (second ∷ pieces) piece =
    ap (λ (text : List ℕ). first ++ (c ∷ text)) (join_with_byte-append c second pieces piece)
    ∙ sym (append_assoc first (c ∷ join_with_byte c (second ∷ pieces)) ((c ∷ []) ++ piece))

-- one more piece: the byte goes before it, but before the first
join_with_byte-push : (c : ℕ) (pieces : List (List ℕ)) (piece : List ℕ) (n : ℕ) → length pieces ≡ n → join_with_byte c (pieces ++ piece ∷ []) ≡ join_with_byte c pieces ++ ((if n == 0 then [] else c ∷ []) ++ piece)
join_with_byte-push c [] piece n count = ap (λ (m : ℕ). (if m == 0 then [] else c ∷ []) ++ piece) count
join_with_byte-push c (first ∷ pieces) piece n count =
    let later : (if n == 0 then [] else c ∷ []) ≡ c ∷ [] = grind (arith, nat_tests) in
    join_with_byte-append c first pieces piece
    ∙ ap (λ (between : List ℕ). join_with_byte c (first ∷ pieces) ++ (between ++ piece)) (sym later)

-- one more field of a line, after the first ones
pub join_with_byte-range_more : (c : ℕ) (f : ℕ → List ℕ) (n : ℕ) (old text : List ℕ) → text ≡ old ++ join_with_byte c (map f (range_with_len 0 n)) →
    (text ++ (if n == 0 then [] else c ∷ [])) ++ f n ≡ old ++ join_with_byte c (map f (range_with_len 0 (n + 1)))
join_with_byte-range_more c f n old text text_is =
    let between : List ℕ = if n == 0 then [] else c ∷ [] in
    let pieces : List (List ℕ) = map f (range_with_len 0 n) in
    ap (λ t. (t ++ between) ++ f n) text_is
    ∙ append_assoc (old ++ join_with_byte c pieces) between (f n)
    ∙ append_assoc old (join_with_byte c pieces) (between ++ f n)
    ∙ ap (λ t. old ++ t)
    (sym (join_with_byte-push c pieces (f n) n (length-map-range_with_len f 0 n))
    ∙ ap (join_with_byte c) (sym (map-range_with_len_more f 0 n n (omega arith))))
