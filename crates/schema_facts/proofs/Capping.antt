-- Numbers that stand at the last of 64 bits where they are past it.
use Rattle.std.proofs.Common.{◌≡◌, ℕ, ◌+◌, ◌<◌, max, List, [], ◌∷◌, length, get_or, take, refl, sym, ap, ◌∙◌, arith}
use Rattle.std.specs.List.{sum_by}
use Rattle.std.proofs.lemmas.List.Sums.{fold_more, sum_by-cons}
use Rattle.schema_facts.specs.Capped.{capped}
use Rattle.schema_facts.specs.FieldSizes.{greatest_by}

-- one more number of a sum
pub capped_sum_more : {A : Type 0} (number : A → ℕ) (xs : List A) (i : ℕ) (d : A) (sum : ℕ) → i < length xs → sum ≡ capped (sum_by number (take i xs)) → capped (sum + capped (number (get_or xs i d))) ≡ capped (sum_by number (take (i + 1) xs))
capped_sum_more number xs i d sum h so_far =
    omega (arith, fold_more (λ total x. total + number x) 0 xs i d h)

-- the same of one that is known as it is
pub capped_sum_next : {A : Type 0} (number : A → ℕ) (xs : List A) (i : ℕ) (d : A) (sum : ℕ) → i < length xs → sum ≡ capped (sum_by number (take i xs)) → capped (sum + number (get_or xs i d)) ≡ capped (sum_by number (take (i + 1) xs))
capped_sum_next number xs i d sum h so_far =
    omega (arith, fold_more (λ total x. total + number x) 0 xs i d h)

-- where some numbers are the same capped, so are their sums
pub capped_sum-same : {A : Type 0} (number other : A → ℕ) (xs : List A) → ((x : A) → capped (number x) ≡ capped (other x)) → capped (sum_by number xs) ≡ capped (sum_by other xs)
capped_sum-same number other [] same = refl
capped_sum-same number other (x ∷ xs) same =
    omega (arith, same x, capped_sum-same number other xs same, sum_by-cons number x xs, sum_by-cons other x xs)

-- one more number of those that the greatest is looked for among
pub capped_greatest_more : {A : Type 0} (number : A → ℕ) (xs : List A) (i : ℕ) (d : A) (most : ℕ) → i < length xs → most ≡ capped (greatest_by number (take i xs)) → max most (capped (number (get_or xs i d))) ≡ capped (greatest_by number (take (i + 1) xs))
capped_greatest_more number xs i d most h so_far =
    omega (arith, fold_more (λ most x. max most (number x)) 0 xs i d h)

pub greatest_more : {A : Type 0} (number : A → ℕ) (xs : List A) (i : ℕ) (d : A) (most : ℕ) → i < length xs → most ≡ greatest_by number (take i xs) → max most (number (get_or xs i d)) ≡ greatest_by number (take (i + 1) xs)
greatest_more number xs i d most h so_far =
    ap (λ m. max m (number (get_or xs i d))) so_far ∙ sym (fold_more (λ most x. max most (number x)) 0 xs i d h)

pub capped-add_one : (n : ℕ) → capped (capped n + 1) ≡ capped (n + 1)
capped-add_one n = omega arith
