-- Four numbers side by side, and parts of a list whose places are put.
use Rattle.std.proofs.Common.{◌≡◌, ◌≤◌, ℕ, ◌+◌, List, [], ◌∷◌, ◌++◌, append_assoc, drop, drop-drop, drop_at, get_or, length, length-take, map, set, take, take-add, take_at, refl, ap, ap₂, arith, sym, ◌∙◌}
use Rattle.std.proofs.lemmas.List.{length-map, map-append}
use Rattle.id_permutation.specs.declared.fours.Four.{Four}
use Rattle.id_permutation.specs.Fours.{four_after, four_by, four_of}
use Rattle.id_permutation.specs.Placement.{round_count, rounds}
use borrow.Rule.Slice.PartMut.{put_mid}

-- all rounds are three pairs
pub four_of-six : (a b seed : ℕ) (numbers : List ℕ) →
    four_by a b seed 2 (four_by a b seed 1 (four_by a b seed 0 (four_of a b seed 0 numbers))) ≡ four_of a b seed round_count numbers
unfolding rounds
four_of-six a b seed numbers = refl

pub four_after-six : (a b seed : ℕ) (four : Four) → four_after a b seed four ≡ four_by a b seed 2 (four_by a b seed 1 (four_by a b seed 0 four))
unfolding rounds
four_after-six a b seed four = refl

-- what four writes make of four numbers
pub four_sets : (f : ℕ → ℕ) (xs : List ℕ) (first second third fourth : ℕ) → length xs ≡ 4 →
    first ≡ f (get_or xs 0 0) → second ≡ f (get_or xs 1 0) → third ≡ f (get_or xs 2 0) → fourth ≡ f (get_or xs 3 0) →
    set (set (set (set xs 0 first) 1 second) 2 third) 3 fourth ≡ map f xs
four_sets f [] first second third fourth long one two three four = absurd (omega (arith, long))
four_sets f (a ∷ []) first second third fourth long one two three four = absurd (omega (arith, long))
four_sets f (a ∷ b ∷ []) first second third fourth long one two three four = absurd (omega (arith, long))
four_sets f (a ∷ b ∷ c ∷ []) first second third fourth long one two three four = absurd (omega (arith, long))
four_sets f (a ∷ b ∷ c ∷ d ∷ []) first second third fourth long one two three four = cc
four_sets f (a ∷ b ∷ c ∷ d ∷ e ∷ xs) first second third fourth long one two three four = absurd (omega (arith, long))

-- a loop that writes f x over each number x, some numbers more
pub map_over_part : (f : ℕ → ℕ) (xs ys part : List ℕ) (i k : ℕ) → i + k ≤ length xs → ys ≡ map f (take i xs) ++ drop i xs → part ≡ map f (take k (drop i ys)) →
    put_mid i k ys part ≡ map f (take (i + k) xs) ++ drop (i + k) xs
map_over_part f xs ys part i k within so_far is =
    let front : List ℕ = map f (take i xs) in
    let long : length front ≡ i = length-map (take i xs) f ∙ omega (arith, length-take i xs, within) in
    let before : take i ys ≡ front = ap (take i) so_far ∙ take_at front (drop i xs) i long in
    let rest : drop i ys ≡ drop i xs = ap (drop i) so_far ∙ drop_at front (drop i xs) i long in
    let behind : drop k (drop i ys) ≡ drop (i + k) xs = ap (drop k) rest ∙ drop-drop k i xs in
    let more : part ≡ map f (take k (drop i xs)) = is ∙ ap (λ (zs : List ℕ). map f (take k zs)) rest in
    ap₂ (λ (zs all : List ℕ). zs ++ all) before (ap₂ (λ (zs all : List ℕ). zs ++ all) more behind)
    ∙ sym (append_assoc front (map f (take k (drop i xs))) (drop (i + k) xs))
    ∙ ap (λ (zs : List ℕ). zs ++ drop (i + k) xs) (sym (map-append f (take i xs) (take k (drop i xs))) ∙ ap (map f) (sym (take-add i k xs)))
