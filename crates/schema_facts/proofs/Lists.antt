-- Lists made of numbers in a row, and in turn.
use Rattle.std.proofs.Common.{◌≡◌, Bool, ◌||◌, ℕ, zero, suc, ◌+◌, ◌<◌, List, [], ◌∷◌, ◌++◌, length, map, get_or, take, refl, sym, ap, ◌∙◌, arith, append_assoc}
use Rattle.std.specs.List.{list_any, range_with_len}
use Rattle.std.proofs.Math.ListN.{set}
use Rattle.std.proofs.lemmas.List.{append-nil, map-append, take_more, take_more_set}
use Rattle.std.proofs.lemmas.List.FromFn.{fill_by_all, length-map-range_with_len, get_or-map-range_with_len}
use Rattle.schema_facts.specs.InTurn.{in_turn}

pub map-map : {A B C : Type 0} (g : B → C) (f : A → B) (xs : List A) → map g (map f xs) ≡ map (λ x. g (f x)) xs
map-map g f [] = refl
map-map g f (x ∷ xs) = ap (λ ys. g (f x) ∷ ys) (map-map g f xs)

-- two functions that agree below a number give the same list
pub map-same : {A : Type 0} (f g : ℕ → A) (n : ℕ) → ((k : ℕ) → k < n → f k ≡ g k) → map f (range_with_len 0 n) ≡ map g (range_with_len 0 n)
map-same f g n same =
    fill_by_all g (map f (range_with_len 0 n)) n (f 0) (length-map-range_with_len f 0 n)
    (λ k h. get_or-map-range_with_len f 0 n k k (f 0) h (omega arith) ∙ same k h)

pub length-in_turn : {A B : Type 0} (give : List B → A → B) (given : List B) (xs : List A) → length (in_turn give given xs) ≡ length xs
length-in_turn give given [] = refl
length-in_turn give given (x ∷ xs) = ap suc (length-in_turn give (given ++ give given x ∷ []) xs)

-- what comes of the item at a place, by what came of those before it
in_turn_from : {A B : Type 0} (give : List B → A → B) (given : List B) (xs : List A) (i : ℕ) (d : B) (e : A) → i < length xs → get_or (in_turn give given xs) i d ≡ give (given ++ take i (in_turn give given xs)) (get_or xs i e)
in_turn_from give given [] i d e h = absurd (omega arith)
in_turn_from give given (x ∷ xs) zero d e h = ap (λ g. give g x) (sym (append-nil given))
in_turn_from give given (x ∷ xs) (suc i) d e h =
    in_turn_from give (given ++ give given x ∷ []) xs i d e (omega arith)
    ∙ ap (λ g. give g (get_or xs i e)) (append_assoc given (give given x ∷ []) (take i (in_turn give (given ++ give given x ∷ []) xs)))

pub get_or-in_turn : {A B : Type 0} (give : List B → A → B) (xs : List A) (i : ℕ) (d : B) (e : A) → i < length xs → get_or (in_turn give [] xs) i d ≡ give (take i (in_turn give [] xs)) (get_or xs i e)
get_or-in_turn give xs i d e h = in_turn_from give [] xs i d e h

pub list_any-map : {A B : Type 0} (test : B → Bool) (f : A → B) (xs : List A) → list_any test (map f xs) ≡ list_any (λ x. test (f x)) xs
list_any-map test f [] = refl
list_any-map test f (x ∷ xs) = ap (λ rest. test (f x) || rest) (list_any-map test f xs)

-- one more item of a list that is filled with what comes of some items in turn, as it is kept
pub next_in_turn : {A B C : Type 0} (give : List B → A → B) (keep : B → C) (xs : List A) (filled : List C) (i : ℕ) (d : B) (e : A) (next : C) → i < length xs → i < length filled →
    take i filled ≡ map keep (take i (in_turn give [] xs)) → next ≡ keep (give (take i (in_turn give [] xs)) (get_or xs i e)) →
    take (i + 1) (set filled i next) ≡ map keep (take (i + 1) (in_turn give [] xs))
next_in_turn give keep xs filled i d e next within room so_far next_is =
    let all = in_turn give [] xs in
    let inside : i < length all = omega (arith, within, length-in_turn give [] xs) in
    take_more_set filled i next room
    ∙ ap (λ front. front ++ next ∷ []) so_far
    ∙ ap (λ one. map keep (take i all) ++ one ∷ []) (next_is ∙ ap keep (sym (get_or-in_turn give xs i d e within)))
    ∙ sym (ap (map keep) (take_more all i d inside) ∙ map-append keep (take i all) (get_or all i d ∷ []))
