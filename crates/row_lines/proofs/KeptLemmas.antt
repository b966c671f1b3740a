-- What is kept of a list.
use Rattle.std.proofs.Common.{◌≡◌, ℕ, zero, suc, ◌+◌, ◌<◌, ◌≤◌, Bool, true, false, List, [], ◌∷◌, ◌++◌, length, get_or, take, filter, if◌then◌else◌, refl, ap, sym, arith, ◌∙◌, slice_set, append-nil}
use Rattle.std.proofs.lemmas.Grind.{get_or_default_zero}
use Rattle.std.proofs.lemmas.List.{take-set, take_more_set}
use Rattle.schema_facts.specs.Lineage.{one_if}
use Rattle.row_lines.specs.Kept.{kept_by}

-- one more item
kept_by-suc : {A : Type 0} (flags : List Bool) (items : List A) (i : ℕ) (item : A) → i < length items → length flags ≡ length items → get_or items i item ≡ item →
    kept_by (take (suc i) flags) (take (suc i) items) ≡ kept_by (take i flags) (take i items) ++ (if get_or flags i false then item ∷ [] else [])
kept_by-suc [] [] i item below many is = absurd (omega (arith, below))
kept_by-suc [] (x ∷ items) i item below many is = absurd (omega (arith, many))
kept_by-suc (flag ∷ flags) [] i item below many is = absurd (omega (arith, many))
kept_by-suc (flag ∷ flags) (x ∷ items) zero item below many is = ap (λ y. if flag then y ∷ [] else []) is
kept_by-suc {A = A} (flag ∷ flags) (x ∷ items) (suc i) item below many is =
    kept_before flag x (kept_by (take (suc i) flags) (take (suc i) items)) (kept_by (take i flags) (take i items)) (if get_or flags i false then item ∷ [] else [])
    (kept_by-suc flags items i item (omega (arith, below)) (omega (arith, many)) is)
  where
    kept_before : (b : Bool) (x : A) (all front last : List A) → all ≡ front ++ last → (if b then x ∷ all else all) ≡ (if b then x ∷ front else front) ++ last
    kept_before true x all front last same = ap (λ ys. x ∷ ys) same
    kept_before false x all front last same = same

kept_by-more : {A : Type 0} (flags : List Bool) (items : List A) (i : ℕ) (item : A) → i < length items → length flags ≡ length items → get_or items i item ≡ item →
    kept_by (take (i + 1) flags) (take (i + 1) items) ≡ kept_by (take i flags) (take i items) ++ (if get_or flags i false then item ∷ [] else [])
kept_by-more flags items i item below many is =
    let next : i + 1 ≡ suc i = omega arith in
    ap (λ (n : ℕ). kept_by (take n flags) (take n items)) next ∙ kept_by-suc flags items i item below many is

-- the step of a loop that keeps items in place
pub kept_by-step : (flags : List Bool) (items list : List ℕ) (kept i : ℕ) → i < length items → length flags ≡ length items → length list ≡ length items → kept ≤ i →
    take kept list ≡ kept_by (take i flags) (take i items) → get_or list i 0 ≡ get_or items i 0 →
    take (kept + one_if (get_or flags i false)) (slice_set list kept (get_or list i 0)) ≡ kept_by (take (i + 1) flags) (take (i + 1) items)
kept_by-step flags items list kept i below many same_length early kept_is here =
    by_flag (get_or flags i false)
    ∙ ap (λ (xs : List ℕ). xs ++ (if get_or flags i false then get_or list i 0 ∷ [] else [])) kept_is
    ∙ sym (kept_by-more flags items i (get_or list i 0) below many (get_or_default_zero items i (get_or list i 0) below ∙ sym here))
  where
    by_flag : (b : Bool) → take (kept + one_if b) (slice_set list kept (get_or list i 0)) ≡ take kept list ++ (if b then get_or list i 0 ∷ [] else [])
    by_flag true = take_more_set list kept (get_or list i 0) (omega (arith, below, same_length, early))
    by_flag false =
        let none : kept + 0 ≡ kept = omega arith in
        ap (λ (n : ℕ). take n (slice_set list kept (get_or list i 0))) none
        ∙ take-set list kept (get_or list i 0) ∙ sym (append-nil (take kept list))

-- where the flags are a test of the items, those that pass it
pub kept_by-filter : (p : ℕ → Bool) (flags : List Bool) (items : List ℕ) → length flags ≡ length items →
    ((i : ℕ) → i < length items → get_or flags i false ≡ p (get_or items i 0)) → kept_by flags items ≡ filter p items
kept_by-filter p [] [] many same = refl
kept_by-filter p [] (x ∷ items) many same = absurd (omega (arith, many))
kept_by-filter p (flag ∷ flags) [] many same = absurd (omega (arith, many))
kept_by-filter p (flag ∷ flags) (x ∷ items) many same =
    let here : flag ≡ p x = same 0 (omega arith) in
    let rest : kept_by flags items ≡ filter p items = kept_by-filter p flags items (omega (arith, many)) (λ i below. same (suc i) (omega (arith, below))) in
    ap (λ (b : Bool). if b then x ∷ kept_by flags items else kept_by flags items) here ∙ ap (λ ys. if p x then x ∷ ys else ys) rest

-- two lists of which the same is kept are as long
pub length-kept_by : {A B : Type 0} (flags : List Bool) (items : List A) (others : List B) → length items ≡ length others → length (kept_by flags items) ≡ length (kept_by flags others)
length-kept_by [] items others many = refl
length-kept_by (flag ∷ flags) [] [] many = refl
length-kept_by (flag ∷ flags) [] (y ∷ others) many = absurd (omega (arith, many))
length-kept_by (flag ∷ flags) (x ∷ items) [] many = absurd (omega (arith, many))
length-kept_by {A = A} {B = B} (flag ∷ flags) (x ∷ items) (y ∷ others) many = by_flag flag x y (kept_by flags items) (kept_by flags others) (length-kept_by flags items others (omega (arith, many)))
  where
    by_flag : (b : Bool) (x : A) (y : B) (xs : List A) (ys : List B) → length xs ≡ length ys → length (if b then x ∷ xs else xs) ≡ length (if b then y ∷ ys else ys)
    by_flag true x y xs ys same = omega (arith, same)
    by_flag false x y xs ys same = same

pub length-kept_by-le : {A : Type 0} (flags : List Bool) (items : List A) → length (kept_by flags items) ≤ length items
length-kept_by-le [] items = omega arith
length-kept_by-le (flag ∷ flags) [] = omega arith
length-kept_by-le {A = A} (flag ∷ flags) (x ∷ items) = by_flag flag x (kept_by flags items) (length items) (length-kept_by-le flags items)
  where
    by_flag : (b : Bool) (x : A) (xs : List A) (n : ℕ) → length xs ≤ n → length (if b then x ∷ xs else xs) ≤ suc n
    by_flag true x xs n few = omega (arith, few)
    by_flag false x xs n few = omega (arith, few)

-- what holds of each two items side by side beside which the flag is true holds of what is kept of them
pub kept_by-each : (P : ℕ → ℕ → Type 0) (flags : List Bool) (items others : List ℕ) → length flags ≡ length items → length others ≡ length items →
    ((i : ℕ) → i < length items → get_or flags i false ≡ true → P (get_or items i 0) (get_or others i 0)) →
    (j : ℕ) → j < length (kept_by flags items) → P (get_or (kept_by flags items) j 0) (get_or (kept_by flags others) j 0)
kept_by-each P [] [] [] many beside each j below = absurd (omega (arith, below))
kept_by-each P [] (x ∷ items) others many beside each j below = absurd (omega (arith, many))
kept_by-each P [] [] (y ∷ others) many beside each j below = absurd (omega (arith, beside))
kept_by-each P (flag ∷ flags) [] others many beside each j below = absurd (omega (arith, many))
kept_by-each P (flag ∷ flags) (x ∷ items) [] many beside each j below = absurd (omega (arith, beside))
kept_by-each P (flag ∷ flags) (x ∷ items) (y ∷ others) many beside each j below =
    by_flag flag x y (kept_by flags items) (kept_by flags others)
    (kept_by-each P flags items others (omega (arith, many)) (omega (arith, beside)) (λ i inside. each (suc i) (omega (arith, inside)))) (each 0 (omega arith)) j below
  where
    first : (x y : ℕ) (xs ys : List ℕ) → ((j : ℕ) → j < length xs → P (get_or xs j 0) (get_or ys j 0)) → P x y → (j : ℕ) → j < suc (length xs) → P (get_or (x ∷ xs) j 0) (get_or (y ∷ ys) j 0)
    first x y xs ys rest here zero inside = here
    first x y xs ys rest here (suc j) inside = rest j (omega (arith, inside))

    by_flag : (b : Bool) (x y : ℕ) (xs ys : List ℕ) → ((j : ℕ) → j < length xs → P (get_or xs j 0) (get_or ys j 0)) → (b ≡ true → P x y) →
        (j : ℕ) → j < length (if b then x ∷ xs else xs) → P (get_or (if b then x ∷ xs else xs) j 0) (get_or (if b then y ∷ ys else ys) j 0)
    by_flag true x y xs ys rest here j inside = first x y xs ys rest (here refl) j (omega (arith, inside))
    by_flag false x y xs ys rest here j inside = rest j inside
