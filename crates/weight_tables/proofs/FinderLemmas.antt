-- A search from a group on, tables of groups and first groups of slices.
use Rattle.std.proofs.Common.{◌≡◌, ℕ, suc, ◌+◌, ◌-◌, ◌*◌, ◌/◌, ◌%◌, ◌<◌, ◌≤◌, ◌^◌, inl, inr, List, [], ◌∷◌, ◌++◌, All, length, get_or, map, take, drop, sum, ap, sym, ◌∙◌, add-zero, length-append, arith}
use Rattle.std.proofs.Math.ListN.{set, get_or-append}
use Rattle.std.proofs.Math.Nat.{one-le-pow, div-mul-le_self, mul-le-mul_right, mod-eq_of_lt}
use Rattle.std.proofs.lemmas.Bool.{cases_lt}
use Rattle.std.proofs.lemmas.Nat.{le-div}
use Rattle.std.proofs.lemmas.List.{get_or_default, get_or_push, get_or-drop, get_or-append-add, length-map, length-take-le}
use Rattle.std.proofs.lemmas.List.Edits.{map_over_more}
use Rattle.weight_tables.specs.Finders.{ArePassed, IsGuide, IsTable}
use Rattle.weight_tables.specs.PrefixSums.{ArePrefixSums, weights_of}
use Rattle.weight_tables.specs.Weights.{Selects, selected}
use Rattle.weight_tables.proofs.PrefixSumLemmas.{prefix_sums_length, prefix_sums_at, weight_before-all, sum-cons}
use Rattle.weight_tables.proofs.SelectionLemmas.{Selects-selected, Selects-unique}

-- a group before which all are passed is one of the list
pub passed-within : (sums : List ℕ) (x group : ℕ) → ArePrefixSums sums → x < sum (weights_of sums) → ArePassed (weights_of sums) group x →
    group < length sums
passed-within sums x group kept below passed =
    let weights = weights_of sums in
    let long = prefix_sums_length sums kept in
    let some : 0 < length weights = kept.some in
    elim (cases_lt group (length weights)) [
      | inl inside ↦ omega arith
      | inr past ↦
          let last = passed (length weights - 1) (omega arith) in
          absurd (omega (arith, weight_before-all weights (length weights - 1 + 1) (omega arith)))
    ]

-- one group more is passed
pub passed-more : (sums : List ℕ) (x group : ℕ) → ArePrefixSums sums → group < length sums → get_or sums group 0 ≤ x →
    ArePassed (weights_of sums) group x → ArePassed (weights_of sums) (group + 1) x
passed-more sums x group kept within low passed h before =
    elim (cases_lt h group) [
      | inl earlier ↦ passed h earlier
      | inr here ↦
          let same : h ≡ group = omega arith in
          let read = prefix_sums_at sums group 0 kept (omega (arith, prefix_sums_length sums kept)) in
          rw same (omega (arith, read))
    ]

-- the first group that isn't passed is selected
pub Selects-reached : (sums : List ℕ) (x group : ℕ) → ArePrefixSums sums → group < length sums → x < get_or sums group 0 →
    ArePassed (weights_of sums) group x → Selects (weights_of sums) x group
Selects-reached sums x group kept within above passed =
    let inside : group < length (weights_of sums) = omega (arith, prefix_sums_length sums kept) in
    record {
      within = inside;
      below = omega (arith, prefix_sums_at sums group 0 kept inside);
      first = passed;
    }

pub passed-later : (weights : List ℕ) (group x y : ℕ) → x ≤ y → ArePassed weights group x → ArePassed weights group y
passed-later weights group x y up passed h before = omega (arith, passed h before)

pub passed-fewer : (weights : List ℕ) (group fewer x : ℕ) → fewer ≤ group → ArePassed weights group x → ArePassed weights fewer x
passed-fewer weights group fewer x down passed h before = passed h (omega arith)

pub selected-is : (weights : List ℕ) (x group : ℕ) → x < sum weights → Selects weights x group → group ≡ selected weights x
selected-is weights x group below one = Selects-unique weights x group (selected weights x) one (Selects-selected weights x below)

-- a table that has something has each number
pub tabled-within : (weights table : List ℕ) (x : ℕ) → IsTable weights table → 0 < length table → x < sum weights → x < length table
tabled-within weights table x tabled some below = omega (arith, tabled.whole some)

pub tabled-is : (weights table : List ℕ) (x v : ℕ) → IsTable weights table → 0 < length table → x < sum weights → v ≡ get_or table x 0 →
    v ≡ selected weights x
tabled-is weights table x v tabled some below read = read ∙ tabled.each x (tabled-within weights table x tabled some below)

-- there are no more groups than numbers
length-le-sum : (weights : List ℕ) → All (λ weight. 1 ≤ weight) weights → length weights ≤ sum weights
length-le-sum [] positive = omega arith
length-le-sum (weight ∷ others) positive =
    omega (
      arith,
      sum-cons weight others,
      positive 0 0 (omega arith),
      length-le-sum others (λ k d within. positive (suc k) d (omega arith)),
    )

pub groups-few : (sums : List ℕ) → ArePrefixSums sums → length sums ≤ sum (weights_of sums)
groups-few sums kept = omega (arith, prefix_sums_length sums kept, length-le-sum (weights_of sums) kept.positive)

-- the first number of a slice is below the total
pub slice-below : (total slice shift : ℕ) → 1 ≤ total → slice < (total - 1) / 2 ^ shift + 1 → slice * 2 ^ shift < total
slice-below total slice shift some under =
    let up : slice ≤ (total - 1) / 2 ^ shift = omega arith in
    omega (arith, mul-le-mul_right (2 ^ shift) up, div-mul-le_self (total - 1) (2 ^ shift))

pub slice-shifted : (total slice shift : ℕ) → total ≤ 2 ^ 40 → slice * 2 ^ shift < total → slice * 2 ^ shift % 2 ^ 64 ≡ slice * 2 ^ shift
slice-shifted total slice shift small below = mod-eq_of_lt (omega arith)

-- each number is in one of the slices
pub slices-all : (total shift x : ℕ) → x < total → x / 2 ^ shift < (total - 1) / 2 ^ shift + 1
slices-all total shift x below =
    let some : 0 < 2 ^ shift = one-le-pow shift 2 (omega arith) in
    omega (arith, le-div (x / 2 ^ shift) (total - 1) (2 ^ shift) some (omega (arith, div-mul-le_self x (2 ^ shift))))

-- and at its first group a search may begin
pub passed-guided : (weights firsts : List ℕ) (shift x : ℕ) → IsGuide weights firsts shift → x < sum weights →
    ArePassed weights (get_or firsts (x / 2 ^ shift) 0) x
passed-guided weights firsts shift x guided below =
    passed-later weights (get_or firsts (x / 2 ^ shift) 0) (x / 2 ^ shift * 2 ^ shift) x (div-mul-le_self x (2 ^ shift))
    (guided.each (x / 2 ^ shift) (guided.all x below))

-- a loop that pushes f x for each number x
pub length-pushed : (xs more : List ℕ) (x v : ℕ) → length xs ≡ x → more ≡ xs ++ v ∷ [] → length more ≡ x + 1
length-pushed xs more x v long is = omega (arith, ap (λ (zs : List ℕ). length zs) is, length-append xs (v ∷ []))

pub each-pushed : (f : ℕ → ℕ) (xs more : List ℕ) (x v : ℕ) → length xs ≡ x → more ≡ xs ++ v ∷ [] → v ≡ f x →
    ((y : ℕ) → y < x → get_or xs y 0 ≡ f y) → (y : ℕ) → y < x + 1 → get_or more y 0 ≡ f y
each-pushed f xs more x v long is value each y within =
    elim (cases_lt y x) [
      | inl before ↦ ap (λ (zs : List ℕ). get_or zs y 0) is ∙ get_or-append xs (v ∷ []) 0 y (omega arith) ∙ each y before
      | inr last ↦
          let same : y ≡ x = omega arith in
          rw same (ap (λ (zs : List ℕ). get_or zs x 0) is ∙ get_or_push xs v 0 x long ∙ value)
    ]

-- a loop that puts f x in place of each number x
pub map_over_next : (f : ℕ → ℕ) (xs ys : List ℕ) (i v : ℕ) → i < length xs → length ys ≡ length xs → ys ≡ map f (take i xs) ++ drop i xs →
    v ≡ f (get_or ys i 0) → set ys i v ≡ map f (take (i + 1) xs) ++ drop (i + 1) xs
map_over_next f xs ys i v within same invariant value =
    ap (set ys i) value ∙ map_over_more f xs ys i (get_or ys i 0) within invariant (get_or_default ys i 0 _ (omega arith))

-- and the numbers that it hasn't reached are as they were
pub rest-kept : (f : ℕ → ℕ) (xs ys : List ℕ) (i : ℕ) → i < length xs → ys ≡ map f (take i xs) ++ drop i xs → get_or ys i 0 ≡ get_or xs i 0
rest-kept f xs ys i within invariant =
    let front : length (map f (take i xs)) + 0 ≡ i = omega (arith, length-map (take i xs) f, length-take-le i xs (omega arith)) in
    ap (λ (zs : List ℕ). get_or zs i 0) invariant
    ∙ ap (λ (k : ℕ). get_or (map f (take i xs) ++ drop i xs) k 0) (sym front)
    ∙ get_or-append-add (map f (take i xs)) (drop i xs) 0 0
    ∙ get_or-drop i xs 0 0
    ∙ ap (λ (k : ℕ). get_or xs k 0) (add-zero i)
