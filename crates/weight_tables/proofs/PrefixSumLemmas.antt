-- Prefix sums, the weights that they are of, and how they rise.
use Rattle.std.proofs.Common.{◌≡◌, ℕ, zero, suc, ◌+◌, ◌-◌, ◌<◌, ◌≤◌, ◌^◌, List, [], ◌∷◌, ◌++◌, All, length, get_or, sum, take, refl, ap, sym, ◌∙◌, arith}
use Rattle.std.proofs.lemmas.List.Sums.{sum_by_more, sum_by-cons, sum_by-take-le, get_or-le-sum_by}
use Rattle.weight_tables.specs.Weights.{weight_before, prefix_sum}
use Rattle.std.proofs.lemmas.List.{take_more}
use Rattle.weight_tables.specs.PrefixSums.{ArePrefixSums, prefix_sums, weights_of, prefix_sums_from, differences_from}

pub differences_from-prefix_sums_from : (before : ℕ) (weights : List ℕ) →
    differences_from before (prefix_sums_from before weights) ≡ weights
unfolding prefix_sums_from differences_from
differences_from-prefix_sums_from before [] = refl
differences_from-prefix_sums_from before (weight ∷ others) =
    let own : before + weight - before ≡ weight = omega arith in
    rw (own, differences_from-prefix_sums_from (before + weight) others) refl

pub length-prefix_sums_from : (before : ℕ) (weights : List ℕ) → length (prefix_sums_from before weights) ≡ length weights
unfolding prefix_sums_from
length-prefix_sums_from before [] = refl
length-prefix_sums_from before (weight ∷ others) = ap (λ (n : ℕ). suc n) (length-prefix_sums_from (before + weight) others)

pub sum-cons : (weight : ℕ) (others : List ℕ) → sum (weight ∷ others) ≡ weight + sum others
sum-cons weight others = sum_by-cons (λ x. x) weight others

pub weight_before-later : (weight : ℕ) (others : List ℕ) (g : ℕ) →
    weight_before (weight ∷ others) (suc g) ≡ weight + weight_before others g
weight_before-later weight others g = sum-cons weight (take g others)

-- the first group's prefix sum, and those of the others
pub prefix_sum-first : (weight : ℕ) (others : List ℕ) → prefix_sum (weight ∷ others) 0 ≡ weight
prefix_sum-first weight others = omega arith

pub prefix_sum-later : (weight : ℕ) (others : List ℕ) (g : ℕ) →
    prefix_sum (weight ∷ others) (suc g) ≡ weight + prefix_sum others g
prefix_sum-later weight others g =
    let next : suc g + 1 ≡ suc (g + 1) = omega arith in
    rw next (weight_before-later weight others (g + 1))

pub get_or-prefix_sums_from : (before : ℕ) (weights : List ℕ) (g d : ℕ) → g < length weights →
    get_or (prefix_sums_from before weights) g d ≡ before + prefix_sum weights g
unfolding prefix_sums_from
get_or-prefix_sums_from before [] g d within = absurd (omega arith)
get_or-prefix_sums_from before (weight ∷ others) zero d within = omega (arith, prefix_sum-first weight others)
get_or-prefix_sums_from before (weight ∷ others) (suc g) d within =
    omega (arith, prefix_sum-later weight others g, get_or-prefix_sums_from (before + weight) others g d (omega arith))

-- one weight more adds its prefix sum
pub prefix_sums_from-push : (before : ℕ) (weights : List ℕ) (weight : ℕ) →
    prefix_sums_from before (weights ++ weight ∷ []) ≡ prefix_sums_from before weights ++ (before + sum weights + weight) ∷ []
unfolding prefix_sums_from
prefix_sums_from-push before [] weight = let whole : before + weight ≡ before + 0 + weight = omega arith in rw whole refl
prefix_sums_from-push before (first ∷ others) weight =
    let whole : before + first + sum others + weight ≡ before + sum (first ∷ others) + weight =
    omega (arith, sum-cons first others) in
    rw (prefix_sums_from-push (before + first) others weight, whole) refl

-- a later place has no less before it
pub weight_before-rises : (weights : List ℕ) (g h : ℕ) → g ≤ h → weight_before weights g ≤ weight_before weights h
weight_before-rises [] zero h up = omega arith
weight_before-rises [] (suc g) h up = omega arith
weight_before-rises (weight ∷ others) zero h up = omega arith
weight_before-rises (weight ∷ others) (suc g) zero up = absurd (omega arith)
weight_before-rises (weight ∷ others) (suc g) (suc h) up =
    omega (arith, weight_before-rises others g h (omega arith), weight_before-later weight others g, weight_before-later weight others h)

pub weight_before-all : (weights : List ℕ) (g : ℕ) → length weights ≤ g → weight_before weights g ≡ sum weights
weight_before-all [] zero all = refl
weight_before-all [] (suc g) all = refl
weight_before-all (weight ∷ others) zero all = absurd (omega arith)
weight_before-all (weight ∷ others) (suc g) all =
    omega (arith, weight_before-all others g (omega arith), weight_before-later weight others g, sum-cons weight others)

-- a group's prefix sum is what stands before it and its weight
pub prefix_sum-split : (weights : List ℕ) (g : ℕ) → g < length weights →
    prefix_sum weights g ≡ weight_before weights g + get_or weights g 0
prefix_sum-split weights g within = sum_by_more (λ x. x) weights g 0 within

pub prefix_sum-le-sum : (weights : List ℕ) (g : ℕ) → prefix_sum weights g ≤ sum weights
prefix_sum-le-sum weights g = sum_by-take-le (λ x. x) weights (g + 1)

-- what a kept list of prefix sums has at each place
pub prefix_sums_length : (sums : List ℕ) → ArePrefixSums sums → length sums ≡ length (weights_of sums)
prefix_sums_length sums kept =
    ap (λ (xs : List ℕ). length xs) kept.exact ∙ length-prefix_sums_from 0 (weights_of sums)

pub prefix_sums_at : (sums : List ℕ) (g d : ℕ) → ArePrefixSums sums → g < length (weights_of sums) →
    get_or sums g d ≡ prefix_sum (weights_of sums) g
prefix_sums_at sums g d kept within =
    ap (λ (xs : List ℕ). get_or xs g d) kept.exact ∙ get_or-prefix_sums_from 0 (weights_of sums) g d within ∙ omega arith

pub weights_of-made : (sums weights : List ℕ) → sums ≡ prefix_sums weights → weights_of sums ≡ weights
weights_of-made sums weights made = ap weights_of made ∙ differences_from-prefix_sums_from 0 weights

-- prefix sums that are made of weights are kept
pub ArePrefixSums-made : (sums weights : List ℕ) → sums ≡ prefix_sums weights → 0 < length weights →
    All (λ weight. 1 ≤ weight) weights → sum weights ≤ 2 ^ 40 → ArePrefixSums sums
ArePrefixSums-made sums weights made some positive small =
    let back : weights_of sums ≡ weights = weights_of-made sums weights made in
    record {
      some = rw back some;
      positive = rw back positive;
      small = rw back small;
      exact = made ∙ ap prefix_sums (sym back);
    }

-- one weight more, as a loop pushes its prefix sum
pub prefix_sums-more : (weights : List ℕ) (i so_far : ℕ) → i < length weights → so_far ≡ sum (take i weights) →
    prefix_sums (take (i + 1) weights) ≡ prefix_sums (take i weights) ++ (so_far + get_or weights i 0) ∷ []
prefix_sums-more weights i so_far within summed =
    let own : 0 + sum (take i weights) + get_or weights i 0 ≡ so_far + get_or weights i 0 = omega arith in
    ap prefix_sums (take_more weights i 0 within)
    ∙ prefix_sums_from-push 0 (take i weights) (get_or weights i 0)
    ∙ ap (λ (n : ℕ). prefix_sums (take i weights) ++ n ∷ []) own

-- the last prefix sum is the whole sum
pub last_prefix_sum : (sums : List ℕ) (d : ℕ) → ArePrefixSums sums → get_or sums (length sums - 1) d ≡ sum (weights_of sums)
last_prefix_sum sums d kept =
    let weights = weights_of sums in
    let some : 0 < length weights = kept.some in
    let long = prefix_sums_length sums kept in
    omega (
      arith,
      prefix_sums_at sums (length sums - 1) d kept (omega arith),
      weight_before-all weights (length sums - 1 + 1) (omega arith),
    )

pub sum-positive : (sums : List ℕ) → ArePrefixSums sums → 1 ≤ sum (weights_of sums)
sum-positive sums kept =
    let some : 0 < length (weights_of sums) = kept.some in
    omega (arith, kept.positive 0 0 some, get_or-le-sum_by (λ x. x) (weights_of sums) 0 0 some)
