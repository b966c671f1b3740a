-- Passes over lists that leave some items out.
use Rattle.std.proofs.Common.{◌≡◌, ℕ, zero, suc, ◌+◌, ◌<◌, ◌≤◌, Bool, true, List, [], ◌∷◌, map, filter, filter_map, Option, Some, None, option_map, option_and_then, inl, inr, arith, refl, sym, ap, ap₂}
use Rattle.std.specs.Prelude.{if◌then◌else◌}
use Rattle.std.specs.List.{range_with_len, cons_option}
use Rattle.std.proofs.lemmas.Bool.{cases_Bool}

-- two passes are one
pub filter_map-filter_map : {X Y Z : Type 0} (f : Y → Option Z) (g : X → Option Y) (xs : List X) → filter_map f (filter_map g xs) ≡ filter_map (λ x. option_and_then f (g x)) xs
filter_map-filter_map f g [] = refl
filter_map-filter_map f g (x ∷ xs) =
    elim (g x) as (λ o. filter_map f (cons_option o (filter_map g xs)) ≡ cons_option (option_and_then f o) (filter_map (λ x. option_and_then f (g x)) xs)) [
      | None ↦ filter_map-filter_map f g xs
      | Some y ↦ ap (cons_option (f y)) (filter_map-filter_map f g xs)
    ]

pub map-filter_map : {X Y Z : Type 0} (f : Y → Z) (g : X → Option Y) (xs : List X) → map f (filter_map g xs) ≡ filter_map (λ x. option_map f (g x)) xs
map-filter_map f g [] = refl
map-filter_map f g (x ∷ xs) =
    elim (g x) as (λ o. map f (cons_option o (filter_map g xs)) ≡ cons_option (option_map f o) (filter_map (λ x. option_map f (g x)) xs)) [
      | None ↦ map-filter_map f g xs
      | Some y ↦ ap (λ ys. f y ∷ ys) (map-filter_map f g xs)
    ]

-- two passes over a range that agree at each number
pub filter_map-range_same : {X : Type 0} (f g : ℕ → Option X) (a n : ℕ) → ((j : ℕ) → a ≤ j → j < a + n → f j ≡ g j) → filter_map f (range_with_len a n) ≡ filter_map g (range_with_len a n)
filter_map-range_same f g a zero same = refl
filter_map-range_same f g a (suc n) same =
    ap₂ cons_option (same a (omega arith) (omega arith)) (filter_map-range_same f g (a + 1) n (λ j low high. same j (omega arith) (omega arith)))

-- a map of the places of a range is a pass over its numbers that leaves none out
pub map-filter_map_range : {X : Type 0} (f : ℕ → X) (g : ℕ → Option X) (a i n : ℕ) → ((k : ℕ) → i ≤ k → k < i + n → Some (f k) ≡ g (a + k)) → map f (range_with_len i n) ≡ filter_map g (range_with_len (a + i) n)
map-filter_map_range f g a i zero same = refl
map-filter_map_range f g a i (suc n) same =
    let next : a + i + 1 ≡ a + (i + 1) = omega arith in
    rw (sym (same i (omega arith) (omega arith)), next)
    (ap (λ xs. f i ∷ xs) (map-filter_map_range f g a (i + 1) n (λ k low high. same k (omega arith) (omega arith))))

-- a filter is such a pass
pub filter-filter_map : {X : Type 0} (p : X → Bool) (xs : List X) → filter p xs ≡ filter_map (λ x. if p x then Some x else None) xs
filter-filter_map p [] = refl
filter-filter_map p (x ∷ xs) = elim (cases_Bool (p x)) [
  | inl passes ↦ rw passes (ap (λ ys. x ∷ ys) (filter-filter_map p xs))
  | inr fails ↦ rw fails (filter-filter_map p xs)
]

-- and so is a map of what a test lets through
pub map-filter : {X Y : Type 0} (p : X → Bool) (f : X → Y) (xs : List X) → map f (filter p xs) ≡ filter_map (λ x. if p x then Some (f x) else None) xs
map-filter p f [] = refl
map-filter p f (x ∷ xs) = elim (cases_Bool (p x)) [
  | inl passes ↦ rw passes (ap (λ ys. f x ∷ ys) (map-filter p f xs))
  | inr fails ↦ rw fails (map-filter p f xs)
]

-- a pass over a range that leaves out each number, and one that leaves out none
pub filter_map-range_none : {X : Type 0} (f : ℕ → Option X) (a n : ℕ) → ((j : ℕ) → a ≤ j → j < a + n → f j ≡ None) → filter_map f (range_with_len a n) ≡ []
filter_map-range_none f a zero none = refl
filter_map-range_none f a (suc n) none =
    rw (none a (omega arith) (omega arith)) (filter_map-range_none f (a + 1) n (λ j low high. none j (omega arith) (omega arith)))

-- a filter of a list that a map makes keeps all of it where each item passes
pub filter-map_all : {X Y : Type 0} (p : Y → Bool) (f : X → Y) (xs : List X) → ((x : X) → p (f x) ≡ true) → filter p (map f xs) ≡ map f xs
filter-map_all p f [] passes = refl
filter-map_all p f (x ∷ xs) passes = rw (passes x) (ap (λ ys. f x ∷ ys) (filter-map_all p f xs passes))
