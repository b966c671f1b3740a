-- The search for what is found first, as a loop makes it.
use Rattle.std.proofs.Common.{◌≡◌, ℕ, suc, ◌+◌, ◌-◌, ◌<◌, List, length, get_or, drop, Option, Some, None, refl, ap, ◌∙◌, add-one, arith}
use Rattle.std.specs.List.{range_with_len}
use Rattle.std.specs.Option.{option_or}
use Rattle.std.proofs.Math.Seq.{drop-cons}
use Rattle.schema_plan.specs.Rules.{first_found}

-- one place further: what is found at the place itself, or else after it
pub first_found-range : {B : Type 0} (look : ℕ → Option B) (i n : ℕ) → i < n → first_found look (range_with_len i (n - i)) ≡ option_or (look i) (first_found look (range_with_len (i + 1) (n - (i + 1))))
first_found-range look i n h =
    let e : n - i ≡ suc (n - (i + 1)) = omega arith in
    ap (λ m. first_found look (range_with_len i m)) e

pub found_at_place : {B : Type 0} (look : ℕ → Option B) (i n : ℕ) (b : B) → i < n → look i ≡ Some b → first_found look (range_with_len i (n - i)) ≡ Some b
found_at_place look i n b h found =
    first_found-range look i n h ∙ ap (λ o. option_or o (first_found look (range_with_len (i + 1) (n - (i + 1))))) found

pub found_past_place : {B : Type 0} (look : ℕ → Option B) (i n : ℕ) → i < n → look i ≡ None → first_found look (range_with_len i (n - i)) ≡ first_found look (range_with_len (i + 1) (n - (i + 1)))
found_past_place look i n h none =
    first_found-range look i n h ∙ ap (λ o. option_or o (first_found look (range_with_len (i + 1) (n - (i + 1))))) none

pub none_past_end : {B : Type 0} (look : ℕ → Option B) (i n : ℕ) → n ≡ i → first_found look (range_with_len i (n - i)) ≡ None
none_past_end look i n h =
    let e : n - i ≡ 0 = omega arith in
    ap (λ m. first_found look (range_with_len i m)) e

-- one item further
pub first_found-drop : {A B : Type 0} (look : A → Option B) (xs : List A) (i : ℕ) (d : A) → i < length xs → first_found look (drop i xs) ≡ option_or (look (get_or xs i d)) (first_found look (drop (i + 1) xs))
first_found-drop look xs i d h = rw (add-one i, drop-cons xs i d h) refl

pub found_at_item : {A B : Type 0} (look : A → Option B) (xs : List A) (i : ℕ) (d : A) (b : B) → i < length xs → look (get_or xs i d) ≡ Some b → first_found look (drop i xs) ≡ Some b
found_at_item look xs i d b h found =
    first_found-drop look xs i d h ∙ ap (λ o. option_or o (first_found look (drop (i + 1) xs))) found

pub found_past_item : {A B : Type 0} (look : A → Option B) (xs : List A) (i : ℕ) (d : A) → i < length xs → look (get_or xs i d) ≡ None → first_found look (drop i xs) ≡ first_found look (drop (i + 1) xs)
found_past_item look xs i d h none =
    first_found-drop look xs i d h ∙ ap (λ o. option_or o (first_found look (drop (i + 1) xs))) none
