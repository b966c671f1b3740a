-- Lists: pieces of what passes a test, the first number of a range that does, and a part of a list.
use Rattle.std.proofs.Common.{◌≡◌, ℕ, zero, suc, ◌+◌, ◌-◌, ◌<◌, ◌≤◌, Bool, true, false, List, [], ◌∷◌, ◌++◌, Some, None, inl, inr, length, length-drop, length-take, get_or, get_or-drop, get_or-take, take, drop, filter, if◌then◌else◌, refl, ap, sym, arith, ◌∙◌}
use Rattle.std.specs.List.{find, flat_map, range_with_len}
use Rattle.std.proofs.lemmas.Bool.{cases_lt}
use Rattle.std.proofs.lemmas.List.{append-nil}
use Rattle.std.proofs.lemmas.List.Concat.{flat_map-append}
use Rattle.std.proofs.lemmas.List.Elements.{filter-append}
use Rattle.life_intervals.proofs.Ranges.{range_with_len-add}

-- the pieces of what passes a test, of two lists
pub flat_map-filter_append : {A B : Type 0} (f : A → List B) (p : A → Bool) (xs ys : List A) →
    flat_map f (filter p (xs ++ ys)) ≡ flat_map f (filter p xs) ++ flat_map f (filter p ys)
flat_map-filter_append f p xs ys =
    ap (flat_map f) (filter-append p xs ys) ∙ flat_map-append f (filter p xs) (filter p ys)

-- and of many
pub flat_map-filter_flat_map : {A B C : Type 0} (f : B → List C) (p : B → Bool) (g : A → List B) (xs : List A) →
    flat_map f (filter p (flat_map g xs)) ≡ flat_map (λ x. flat_map f (filter p (g x))) xs
flat_map-filter_flat_map f p g [] = refl
flat_map-filter_flat_map f p g (x ∷ xs) =
    flat_map-filter_append f p (g x) (flat_map g xs)
    ∙ ap (λ ys. flat_map f (filter p (g x)) ++ ys) (flat_map-filter_flat_map f p g xs)

flat_map-if : {A B : Type 0} (f : A → List B) (x : A) (passes : Bool) → flat_map f (if passes then x ∷ [] else []) ≡ (if passes then f x else [])
flat_map-if f x true = append-nil (f x)
flat_map-if f x false = refl

-- one more number at the end of a range, whose piece is there where it passes the test
pub flat_map-filter_range_more : {B : Type 0} (f : ℕ → List B) (p : ℕ → Bool) (a n : ℕ) →
    flat_map f (filter p (range_with_len a (n + 1))) ≡ flat_map f (filter p (range_with_len a n)) ++ (if p (a + n) then f (a + n) else [])
flat_map-filter_range_more f p a n =
    ap (λ xs. flat_map f (filter p xs)) (range_with_len-add a n 1)
    ∙ flat_map-filter_append f p (range_with_len a n) ((a + n) ∷ [])
    ∙ ap (λ ys. flat_map f (filter p (range_with_len a n)) ++ ys) (flat_map-if f (a + n) (p (a + n)))

-- what comes of the first numbers of a range begins what comes of all
pub flat_map-filter_range_front : {B : Type 0} (f : ℕ → List B) (p : ℕ → Bool) (a m all : ℕ) → m ≤ all →
    flat_map f (filter p (range_with_len a all)) ≡ flat_map f (filter p (range_with_len a m)) ++ flat_map f (filter p (range_with_len (a + m) (all - m)))
flat_map-filter_range_front f p a m all within =
    let whole : all ≡ m + (all - m) = omega arith in
    ap (λ (n : ℕ). flat_map f (filter p (range_with_len a n))) whole
    ∙ ap (λ xs. flat_map f (filter p xs)) (range_with_len-add a m (all - m))
    ∙ flat_map-filter_append f p (range_with_len a m) (range_with_len (a + m) (all - m))

-- of a range of which each number fails a test, none is left
pub filter-none : (p : ℕ → Bool) (a n : ℕ) → ((k : ℕ) → k < n → p (a + k) ≡ false) → filter p (range_with_len a n) ≡ []
filter-none p a zero fails = refl
filter-none p a (suc n) fails =
    let here : a + 0 ≡ a = omega arith in
    let head : p a ≡ false = ap p (sym here) ∙ fails 0 (omega arith) in
    let rest : filter p (range_with_len (a + 1) n) ≡ [] =
    filter-none p (a + 1) n (λ k below. let next : (a + 1) + k ≡ a + (k + 1) = omega arith in ap p next ∙ fails (k + 1) (omega arith)) in
    rw (head, rest) refl

-- the first number of a range that passes a test
pub find-range_first : (p : ℕ → Bool) (a n k : ℕ) → a ≤ k → k < a + n → ((j : ℕ) → a ≤ j → j < k → p j ≡ false) → p k ≡ true → find p (range_with_len a n) ≡ Some k
find-range_first p a zero k from below before passes = absurd (omega arith)
find-range_first p a (suc n) k from below before passes = elim (cases_lt a k) [
  | inl later ↦ rw (before a (omega arith) later) (find-range_first p (a + 1) n k (omega arith) (omega arith) (λ j low high. before j (omega arith) high) passes)
  | inr here ↦
      let same : a ≡ k = omega arith in
      let passes_here : p a ≡ true = ap p same ∙ passes in
      rw passes_here (ap Some same)
]

-- and of one of which each number fails it, none
pub find-range_none : (p : ℕ → Bool) (a n : ℕ) → ((j : ℕ) → a ≤ j → j < a + n → p j ≡ false) → find p (range_with_len a n) ≡ None
find-range_none p a zero fails = refl
find-range_none p a (suc n) fails = rw (fails a (omega arith) (omega arith)) (find-range_none p (a + 1) n (λ j low high. fails j (omega arith) (omega arith)))

-- a part has as many items as it was asked for, which stand in the list after its start
pub part_length : {A : Type 0} (start count : ℕ) (items : List A) → start + count ≤ length items → length (take (start + count - start) (drop start items)) ≡ count
part_length start count items within = omega (arith, length-take (start + count - start) (drop start items), length-drop start items)

pub get_or-part : {A : Type 0} (start count : ℕ) (items : List A) (i : ℕ) (d : A) → i < count → get_or (take count (drop start items)) i d ≡ get_or items (start + i) d
get_or-part start count items i d inside = get_or-take count (drop start items) i d inside ∙ get_or-drop start items i d
