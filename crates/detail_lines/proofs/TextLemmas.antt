-- Texts that are put one after the other.
use Rattle.std.proofs.Common.{◌≡◌, ◌<◌, ℕ, ◌+◌, List, ◌++◌, append_assoc, get_or, length, set, ap, arith, inl, inr, sym, ◌∙◌}
use Rattle.std.proofs.lemmas.Bool.{cases_lt}
use Rattle.std.proofs.lemmas.List.{get_or-set_same, get_or-set_other}
use Rattle.line_pages.specs.Pages.{Page}

-- two texts
pub put-twice : (before between after : Page) (first second all : List ℕ) → between ≡ record { text = before.text ++ first; room = before.room } → after ≡ record { text = between.text ++ second; room = between.room } →
    first ++ second ≡ all → after ≡ record { text = before.text ++ all; room = before.room }
put-twice before between after first second all between_is after_is all_is =
    after_is
    ∙ ap (λ (page : Page). record { text = page.text ++ second; room = page.room }) between_is
    ∙ ap (λ (text : List ℕ). record { text = text; room = before.room }) (append_assoc before.text first second ∙ ap (λ (text : List ℕ). before.text ++ text) all_is)

-- one number more that is set
pub set-more : (g : ℕ → ℕ) (xs : List ℕ) (i n : ℕ) → i < length xs → n ≡ g i → ((k : ℕ) → k < i → get_or xs k 0 ≡ g k) → (k : ℕ) → k < i + 1 → get_or (set xs i n) k 0 ≡ g k
set-more g xs i n within is so_far k below = elim (cases_lt k i) [
  | inl before ↦ get_or-set_other xs i k n 0 (λ same. absurd (omega (arith, before, same))) ∙ so_far k before
  | inr behind ↦ let here : k ≡ i = omega (arith, below, behind) in ap (λ (j : ℕ). get_or (set xs i n) j 0) here ∙ get_or-set_same xs i n 0 within ∙ is ∙ ap g (sym here)
]
