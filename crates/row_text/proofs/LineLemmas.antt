-- Where a line ends.
use Rattle.std.proofs.Common.{◌≡◌, ◌≢◌, ℕ, ◌+◌, ◌≤◌, ◌<◌, List, [], ◌∷◌, ◌++◌, length, drop, get_or, Contains, sym, subst, arith, inl, inr}
use Rattle.std.specs.List.{slice_range}
use Rattle.std.proofs.lemmas.List.{take_rest}
use Rattle.std.proofs.lemmas.List.Edits.{between_more, between_none}
use Rattle.std.proofs.lemmas.List.Elements.{Contains-push_cases}

-- a byte more that is another
pub lacks-more : (bytes : List ℕ) (byte start i : ℕ) → start ≤ i → i < length bytes → ¬ Contains (slice_range bytes start i) byte → get_or bytes i 0 ≢ byte → ¬ Contains (slice_range bytes start (i + 1)) byte
lacks-more bytes byte start i order below before other found =
    let split : Contains (slice_range bytes start i ++ get_or bytes i 0 ∷ []) byte =
    subst (λ (xs : List ℕ). Contains xs byte) (between_more bytes start i 0 order below) found in
    elim (Contains-push_cases (slice_range bytes start i) (get_or bytes i 0) byte split) [ inl early ↦ before early | inr last ↦ other last ]

-- no byte at all
pub lacks-none : (bytes : List ℕ) (byte start : ℕ) → ¬ Contains (slice_range bytes start start) byte
lacks-none bytes byte start found = grind (arith, subst (λ (xs : List ℕ). Contains xs byte) (between_none bytes start) found)

-- all of them
pub lacks-rest : (bytes : List ℕ) (byte start i : ℕ) → i ≡ length bytes → ¬ Contains (slice_range bytes start i) byte → ¬ Contains (drop start bytes) byte
lacks-rest bytes byte start i all none found =
    none (subst (λ (end : ℕ). Contains (slice_range bytes start end) byte) (sym all) (subst (λ (xs : List ℕ). Contains xs byte) (sym (take_rest bytes start)) found))
