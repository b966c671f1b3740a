-- Lists by their indices, and fields with the byte after each.
use Rattle.std.proofs.Common.{◌≡◌, ℕ, zero, suc, ◌+◌, ◌-◌, ◌*◌, ◌<◌, ◌≤◌, List, [], ◌∷◌, ◌++◌, map, length, get_or, codes, refl, ap, sym, arith, ◌∙◌, append_assoc, length-append}
use Rattle.std.proofs.lemmas.Bool.Decides.{nat_tests}
use Rattle.std.proofs.lemmas.List.{append-nil}
use Rattle.std.proofs.lemmas.List.Folds.{flat_map-map}
use Rattle.std.proofs.lemmas.List.FromFn.{fill_by_all}
use Rattle.std.specs.List.{range_with_len, flat_map, join_with_byte}
use Rattle.row_lines.specs.Runs.{behind}

-- the pieces of a range by two maps that agree on it
pub flat_map-range_same : {A : Type 0} (f g : ℕ → List A) (a n : ℕ) → ((k : ℕ) → k < n → f (a + k) ≡ g (a + k)) →
    flat_map f (range_with_len a n) ≡ flat_map g (range_with_len a n)
flat_map-range_same f g a zero same = refl
flat_map-range_same f g a (suc n) same =
    let here : a + 0 ≡ a = omega arith in
    let head : f a ≡ g a = ap f (sym here) ∙ same 0 (omega arith) ∙ ap g here in
    let rest : flat_map f (range_with_len (a + 1) n) ≡ flat_map g (range_with_len (a + 1) n) =
    flat_map-range_same f g (a + 1) n (λ k below.
    let next : (a + 1) + k ≡ a + (k + 1) = omega arith in
    ap f next ∙ same (k + 1) (omega arith) ∙ ap g (sym next)) in
    cc

-- those of a list, index by index
pub flat_map-indices : {X A : Type 0} (f : X → List A) (xs : List X) (n : ℕ) (d : X) → length xs ≡ n →
    flat_map (λ i. f (get_or xs i d)) (range_with_len 0 n) ≡ flat_map f xs
flat_map-indices f xs n d many =
    let at : ℕ → _ = λ i. get_or xs i d in
    sym (flat_map-map f at (range_with_len 0 n)) ∙ ap (flat_map f) (sym (fill_by_all at xs n d many (λ k below. refl)))

-- each of at most so many items
pub length-flat_map_most : {X A : Type 0} (f : X → List A) (most : ℕ) (xs : List X) (d : X) → ((i : ℕ) → i < length xs → length (f (get_or xs i d)) ≤ most) →
    length (flat_map f xs) ≤ length xs * most
length-flat_map_most f most [] d short = omega arith
length-flat_map_most f most (x ∷ xs) d short =
    omega (
      arith,
      length-append (f x) (flat_map f xs),
      short 0 (omega arith),
      length-flat_map_most f most xs d (λ i below. short (suc i) (omega arith)),
    )

-- one more field before others, with the byte between
joined-front : (delimiter : ℕ) (field : List ℕ) (f : ℕ → List ℕ) (b n : ℕ) →
    join_with_byte delimiter (field ∷ map f (range_with_len b (n + 1))) ≡ field ++ delimiter ∷ join_with_byte delimiter (map f (range_with_len b (n + 1)))
joined-front delimiter field f b n =
    let some : n + 1 ≡ suc n = omega arith in
    rw some refl

-- a byte after each of some fields, and a line feed after the last, is what joins them, and the line feed
joined-behind : (delimiter : ℕ) (f : ℕ → List ℕ) (a n : ℕ) →
    join_with_byte delimiter (map f (range_with_len a (n + 1))) ++ 10 ∷ []
    ≡ flat_map (λ column. f column ++ behind delimiter (a + (n + 1)) column ∷ []) (range_with_len a (n + 1))
joined-behind delimiter f a zero =
    let last : behind delimiter (a + (0 + 1)) a ≡ 10 = grind (arith, nat_tests) in
    ap (λ (byte : ℕ). f a ++ byte ∷ []) (sym last) ∙ sym (append-nil (f a ++ behind delimiter (a + (0 + 1)) a ∷ []))
joined-behind delimiter f a (suc n) =
    let front : suc n + 1 ≡ suc (n + 1) = omega arith in
    let shift : (a + 1) + (n + 1) ≡ a + (suc n + 1) = omega arith in
    let more : behind delimiter (a + (suc n + 1)) a ≡ delimiter = grind (arith, nat_tests) in
    let others : List (List ℕ) = map f (range_with_len (a + 1) (n + 1)) in
    let piece : ℕ → List ℕ = λ column. f column ++ behind delimiter (a + (suc n + 1)) column ∷ [] in
    ap (λ (many : ℕ). join_with_byte delimiter (map f (range_with_len a many)) ++ 10 ∷ []) front
    ∙ ap (λ (text : List ℕ). text ++ 10 ∷ []) (joined-front delimiter (f a) f (a + 1) n)
    ∙ append_assoc (f a) (delimiter ∷ join_with_byte delimiter others) (10 ∷ [])
    ∙ ap (λ (text : List ℕ). f a ++ delimiter ∷ text) (joined-behind delimiter f (a + 1) n)
    ∙ ap (λ (count : ℕ). f a ++ delimiter ∷ flat_map (λ column. f column ++ behind delimiter count column ∷ []) (range_with_len (a + 1) (n + 1))) shift
    ∙ ap (λ (byte : ℕ). f a ++ byte ∷ flat_map piece (range_with_len (a + 1) (n + 1))) (sym more)
    ∙ sym (append_assoc (f a) (behind delimiter (a + (suc n + 1)) a ∷ []) (flat_map piece (range_with_len (a + 1) (n + 1))))
    ∙ ap (λ (many : ℕ). flat_map piece (range_with_len a many)) (sym front)

pub joined_fields : (delimiter : ℕ) (f : ℕ → List ℕ) (count : ℕ) → 1 ≤ count →
    join_with_byte delimiter (map f (range_with_len 0 count)) ++ codes "\n" ≡ flat_map (λ column. f column ++ behind delimiter count column ∷ []) (range_with_len 0 count)
joined_fields delimiter f count some =
    let is : (count - 1) + 1 ≡ count = omega arith in
    let start : 0 + ((count - 1) + 1) ≡ count = omega arith in
    ap (λ (many : ℕ). join_with_byte delimiter (map f (range_with_len 0 many)) ++ codes "\n") (sym is)
    ∙ joined-behind delimiter f 0 (count - 1)
    ∙ ap (λ (many : ℕ). flat_map (λ column. f column ++ behind delimiter many column ∷ []) (range_with_len 0 ((count - 1) + 1))) start
    ∙ ap (λ (many : ℕ). flat_map (λ column. f column ++ behind delimiter count column ∷ []) (range_with_len 0 many)) is
