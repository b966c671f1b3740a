-- The slots in which the pages of a round wait.
use Rattle.std.specs.Prelude.{◌≡◌, ◌≤◌, ◌<◌, ◌+◌, ◌^◌, ℕ, List, [], ◌∷◌, Option, Some, None, length, slice_index_or}
use Rattle.line_pages.specs.Pages.{Page}
use Rattle.ordered_sink.specs.declared.offers.Numbered.{Numbered}

-- the pages in slots, of which the first one is that of a number
abbrev pub pages_from : ℕ → List (Option Page) → List Numbered
pages_from n [] = []
pages_from n (None ∷ slots) = pages_from (n + 1) slots
pages_from n (Some page ∷ slots) = record { n = n; page = page } ∷ pages_from (n + 1) slots

-- the slots have room for the round, and none is full of a page that was handed out, or after the round's
pub record KeepsRound (slots : List (Option Page)) (first count handed : ℕ) : Type 0 where
  pub fits : count ≤ length slots
  pub range : first + count < 2 ^ 63
  pub part : handed ≤ count
  pub before : (i : ℕ) → i < handed → slice_index_or slots i None ≡ None
  pub behind : (i : ℕ) → count ≤ i → slice_index_or slots i None ≡ None
