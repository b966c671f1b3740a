-- Lists of texts.
use Rattle.std.proofs.Common.{◌≡◌, ◌<◌, ℕ, suc, List, [], ◌∷◌, ap, arith, get_or, length, refl, ◌∙◌}

-- lists of the same items are one
pub same_items : (xs ys : List (List ℕ)) → length xs ≡ length ys → ((i : ℕ) → i < length xs → get_or xs i [] ≡ get_or ys i []) → xs ≡ ys
same_items [] [] count same = refl
same_items [] (y ∷ ys) count same = absurd (omega (arith, count))
same_items (x ∷ xs) [] count same = absurd (omega (arith, count))
same_items (x ∷ xs) (y ∷ ys) count same =
    ap (λ (first : List ℕ). first ∷ xs) (same 0 (omega arith))
    ∙ ap (λ (rest : List (List ℕ)). y ∷ rest) (same_items xs ys (omega (arith, count)) (λ i below. same (suc i) (omega (arith, below))))
