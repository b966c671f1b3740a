-- The least number that passes a test: a search below a bound, and what `least` gives where one knows the answer.
use Rattle.std.proofs.Common.{◌≡◌, ℕ, zero, suc, ◌+◌, ◌<◌, ◌≤◌, Bool, true, false, ◌⊎◌, inl, inr, refl, ap, sym, subst, ◌∙◌, arith, add-one, below_more}
use Rattle.std.proofs.lemmas.Bool.{cases_Bool, cases_eq}
use Rattle.id_permutation.specs.Least.{least, least_from}

-- one step of the search, where the test passes
least_from-true : (p : ℕ → Bool) (tries k : ℕ) → p k ≡ true → least_from p (suc tries) k ≡ k
unfolding least_from
least_from-true p tries k e = ap (λ b. elim b as (λ _. ℕ) [ true ↦ k | false ↦ least_from p tries (k + 1) ]) e

-- one step of the search, where the test fails
least_from-false : (p : ℕ → Bool) (tries k : ℕ) → p k ≡ false → least_from p (suc tries) k ≡ least_from p tries (k + 1)
unfolding least_from
least_from-false p tries k e = ap (λ b. elim b as (λ _. ℕ) [ true ↦ k | false ↦ least_from p tries (k + 1) ]) e

least_from-zero : (p : ℕ → Bool) (k : ℕ) → least_from p zero k ≡ k
unfolding least_from
least_from-zero p k = refl

-- the search from k on gives m, where m passes and none from k to m does
least_from-is : (p : ℕ → Bool) (tries k m : ℕ) → k ≤ m → m ≤ k + tries → p m ≡ true → ((j : ℕ) → k ≤ j → j < m → p j ≡ false) → least_from p tries k ≡ m
least_from-is p zero k m low high passes fails = least_from-zero p k ∙ omega arith
least_from-is p (suc tries) k m low high passes fails =
    elim (cases_eq k m) [
      | inl same ↦ least_from-true p tries k (ap p same ∙ passes) ∙ same
      | inr other ↦
          let before : k < m = omega (arith, other) in
          let more : k + 1 ≤ m = omega arith in
          let room : m ≤ k + 1 + tries = omega arith in
          least_from-false p tries k (fails k (omega arith) before)
          ∙ least_from-is p tries (k + 1) m more room passes (λ j h. fails j (omega arith))
    ]

-- the least number that passes is m, where m passes and none before it does
pub least-is : (p : ℕ → Bool) (bound m : ℕ) → m ≤ bound → p m ≡ true → ((j : ℕ) → j < m → p j ≡ false) → least p bound ≡ m
unfolding least
least-is p bound m within passes fails = least_from-is p bound 0 m (omega arith) (omega arith) passes (λ j _ h. fails j h)

-- a number that passes, where none before it does
pub record PassesFirst (p : ℕ → Bool) (bound m : ℕ) : Type 0 where
  pub within : m < bound
  pub passes : p m ≡ true
  pub fails : (j : ℕ) → j < m → p j ≡ false

-- below a bound some number passes first, or none passes
pub first_or_none : (p : ℕ → Bool) (bound : ℕ) → ((m : ℕ) × PassesFirst p bound m) ⊎ ((j : ℕ) → j < bound → p j ≡ false)
first_or_none p zero = inr (λ j h. absurd (omega arith))
first_or_none p (suc bound) =
    elim (first_or_none p bound) [
      | inl found ↦ inl (
        found.0,
        record {
          within = let w : found.0 < bound = found.1.within in omega arith;
          passes = found.1.passes;
          fails = found.1.fails;
        },
      )
      | inr none ↦ elim (cases_Bool (p bound)) [
        | inl pass ↦ inl (bound, record { within = omega arith; passes = pass; fails = none })
        | inr fail ↦ inr (rw (← add-one) (below_more (λ j. p j ≡ false) bound none fail))
      ]
    ]

least_from-none : (p : ℕ → Bool) (tries k : ℕ) → ((j : ℕ) → k ≤ j → j < k + tries → p j ≡ false) → least_from p tries k ≡ k + tries
least_from-none p zero k fails = least_from-zero p k ∙ omega arith
least_from-none p (suc tries) k fails =
    least_from-false p tries k (fails k (omega arith) (omega arith))
    ∙ least_from-none p tries (k + 1) (λ j low high. fails j (omega arith) (omega arith))
    ∙ omega arith

-- where none below the bound passes, the bound
least-none : (p : ℕ → Bool) (bound : ℕ) → ((j : ℕ) → j < bound → p j ≡ false) → least p bound ≡ bound
unfolding least
least-none p bound fails = least_from-none p bound 0 (λ j _ h. fails j (omega arith)) ∙ omega arith

-- what the search gives: a number that passes first, or the bound
pub record IsLeast (p : ℕ → Bool) (bound m : ℕ) : Type 0 where
  pub within : m ≤ bound
  pub passes : m < bound → p m ≡ true
  pub fails : (j : ℕ) → j < m → p j ≡ false

pub IsLeast-least : (p : ℕ → Bool) (bound : ℕ) → IsLeast p bound (least p bound)
IsLeast-least p bound =
    elim (first_or_none p bound) [
      | inl found ↦
          let below : found.0 < bound = found.1.within in
          subst (IsLeast p bound) (sym (least-is p bound found.0 (omega arith) found.1.passes found.1.fails))
          (record { within = omega arith; passes = λ _. found.1.passes; fails = found.1.fails })
      | inr none ↦
          subst (IsLeast p bound) (sym (least-none p bound none))
          (record { within = omega arith; passes = λ h. absurd (omega (arith, h)); fails = none })
    ]
