-- What the tests of a schema tell.
use Rattle.std.proofs.Common.{◌≡◌, ℕ, ℤ, pos, negsuc, ◌<◌, ◌≤◌, ◌≤ℤ◌, Bool, true, false, List, length, get_or, refl, arith, int_le}
use Rattle.std.specs.Int.Signed.{le_z_yes}
use Rattle.std.specs.List.{list_all, list_any}
use Rattle.std.proofs.lemmas.Bool.{leb-true, both_ways, false_from_ne_true, true_from_ne_false}
use Rattle.std.proofs.lemmas.Float.{T_from_true}
use Rattle.std.proofs.lemmas.List.Folds.{list_all_at, list_any_at}
use Rattle.schema_facts.specs.Counts.{count}
use Rattle.schema_plan.specs.Limits.{IsCount}

-- a number that isn't below 0 is the count that it stands for
pub count_from_test : (n : ℤ) → int_le (pos 0) n ≡ true → IsCount n
count_from_test (pos n) h = refl
count_from_test (negsuc n) h = cc

-- a number up to a limit counts at most the limit
pub limit_from_test : (n : ℤ) (hi : ℕ) → int_le n (pos hi) ≡ true → count n ≤ hi
limit_from_test (pos n) hi h = leb-true n hi h
limit_from_test (negsuc n) hi h = omega arith

-- a number from a limit on counts at least the limit
pub least_from_test : (n : ℤ) (lo : ℕ) → int_le (pos lo) n ≡ true → lo ≤ count n
least_from_test (pos n) lo h = leb-true lo n h
least_from_test (negsuc n) lo h = cc

pub le_from_test : (a b : ℤ) → int_le a b ≡ true → a ≤ℤ b
le_from_test a b h = le_z_yes (T_from_true (int_le a b) h)

-- each element passes a test that all of a list pass
pub passes_each : {A : Type 0} (test : A → Bool) (xs : List A) (i : ℕ) (d : A) → i < length xs → list_all test xs ≡ true → test (get_or xs i d) ≡ true
passes_each test xs i d h all =
    true_from_ne_false (test (get_or xs i d)) (λ fails. both_ways (list_all test xs) (list_all_at test xs i d h fails) all)

-- no element passes a test that none of a list passes
pub fails_each : {A : Type 0} (test : A → Bool) (xs : List A) (i : ℕ) (d : A) → i < length xs → list_any test xs ≡ false → test (get_or xs i d) ≡ false
fails_each test xs i d h none =
    false_from_ne_true (test (get_or xs i d)) (λ passes. both_ways (list_any test xs) none (list_any_at test xs i d h passes))
