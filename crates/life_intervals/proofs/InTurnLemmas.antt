-- What comes of items in turn, known otherwise.
use Rattle.std.proofs.Common.{◌≡◌, ℕ, suc, ◌<◌, List, [], ◌∷◌, ◌++◌, length, map, take, zip, get_or, refl, ap, arith, append_assoc, sym, ◌∙◌}
use Rattle.std.proofs.lemmas.List.{append-nil}
use Rattle.schema_facts.specs.InTurn.{in_turn}

in_turn_from : {K X Y : Type 0} (f : List Y → X × Y → Y) (before after : K → Y) (k0 : K) (x0 : X) (done : List Y) (xs : List X) (ks : List K) → length xs ≡ length ks →
    ((i : ℕ) → i < length xs → f (done ++ map after (take i ks)) (get_or xs i x0, before (get_or ks i k0)) ≡ after (get_or ks i k0)) →
    in_turn f done (zip xs (map before ks)) ≡ map after ks
in_turn_from f before after k0 x0 done [] [] same each = refl
in_turn_from f before after k0 x0 done [] (k ∷ ks) same each = absurd (omega (arith, same))
in_turn_from f before after k0 x0 done (x ∷ xs) [] same each = absurd (omega (arith, same))
in_turn_from f before after k0 x0 done (x ∷ xs) (k ∷ ks) same each =
    let here : f done (x, before k) ≡ after k = ap (λ ys. f ys (x, before k)) (sym (append-nil done)) ∙ each 0 (omega arith) in
    rw here
    (ap (λ ys. after k ∷ ys)
    (in_turn_from f before after k0 x0 (done ++ after k ∷ []) xs ks (omega (arith, same))
    (λ i below. ap (λ ys. f ys (get_or xs i x0, before (get_or ks i k0))) (append_assoc done (after k ∷ []) (map after (take i ks))) ∙ each (suc i) (omega arith))))

-- items are paired with what a map makes of what is known of each. Where each becomes what another map makes of it, so do all
pub in_turn-zip_known : {K X Y : Type 0} (f : List Y → X × Y → Y) (before after : K → Y) (k0 : K) (x0 : X) (xs : List X) (ks : List K) → length xs ≡ length ks →
    ((i : ℕ) → i < length xs → f (map after (take i ks)) (get_or xs i x0, before (get_or ks i k0)) ≡ after (get_or ks i k0)) →
    in_turn f [] (zip xs (map before ks)) ≡ map after ks
in_turn-zip_known f before after k0 x0 xs ks same each = in_turn_from f before after k0 x0 [] xs ks same each
