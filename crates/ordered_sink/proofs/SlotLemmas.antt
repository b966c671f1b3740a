-- Slots: the page of a number, and the pages with one more or one less.
use Rattle.std.proofs.Common.{◌≡◌, ◌≤◌, ◌<◌, ◌+◌, ◌-◌, ◌==◌, ℕ, zero, suc, false, List, [], ◌∷◌, Option, Some, None, inl, inr, ap, arith, length, not, refl, subst, ◌∙◌}
use Rattle.std.specs.Prelude.{is_some, nat_lt, replicate, slice_index_or, slice_set}
use Rattle.std.specs.Option.{option_map}
use Rattle.std.proofs.lemmas.Bool.{cases_lt, cond-false, cond-true, eq-eqb, le-ltb, lt-ltb, ne_eqb}
use Rattle.line_pages.specs.Pages.{Page}
use Rattle.ordered_sink.specs.declared.offers.Numbered.{Numbered}
use Rattle.ordered_sink.specs.Ordered.{page_of, with_page, without_page}
use Rattle.ordered_sink.specs.Slots.{KeepsRound, pages_from}

abbrev pub numbered : ℕ → Page → Numbered
numbered n page = record { n = n; page = page }

-- pages from a number on are none of a number before
pub page_of-before : (m n : ℕ) (slots : List (Option Page)) → m < n → page_of m (pages_from n slots) ≡ None
page_of-before m n [] before = refl
page_of-before m n (None ∷ slots) before = page_of-before m (n + 1) slots (omega arith)
page_of-before m n (Some page ∷ slots) before =
    cond-false (n == m) (Some (numbered n page)) (page_of m (pages_from (n + 1) slots)) (ne_eqb n m (λ (same : n ≡ m). omega arith))
    ∙ page_of-before m (n + 1) slots (omega arith)

-- the page of a number is that in its slot
pub page_of-slot : (n i : ℕ) (slots : List (Option Page)) → page_of (n + i) (pages_from n slots) ≡ option_map (numbered (n + i)) (slice_index_or slots i None)
page_of-slot n i [] = refl
page_of-slot n zero (None ∷ slots) = page_of-before (n + 0) (n + 1) slots (omega arith)
page_of-slot n (suc i) (None ∷ slots) =
    let next : n + 1 + i ≡ n + suc i = omega arith in
    subst (λ (m : ℕ). page_of m (pages_from (n + 1) slots) ≡ option_map (numbered m) (slice_index_or slots i None)) next (page_of-slot (n + 1) i slots)
page_of-slot n zero (Some page ∷ slots) =
    let here : n ≡ n + 0 = omega arith in
    cond-true (n == n + 0) (Some (numbered n page)) (page_of (n + 0) (pages_from (n + 1) slots)) (eq-eqb n (n + 0) here)
    ∙ ap (λ (m : ℕ). Some (numbered m page)) here
page_of-slot n (suc i) (Some page ∷ slots) =
    let next : n + 1 + i ≡ n + suc i = omega arith in
    cond-false (n == n + suc i) (Some (numbered n page)) (page_of (n + suc i) (pages_from (n + 1) slots)) (ne_eqb n (n + suc i) (λ (same : n ≡ n + suc i). omega arith))
    ∙ subst (λ (m : ℕ). page_of m (pages_from (n + 1) slots) ≡ option_map (numbered m) (slice_index_or slots i None)) next (page_of-slot (n + 1) i slots)

-- the same of a number that is told by itself
pub page_of-at : (first n : ℕ) (slots : List (Option Page)) → first ≤ n → page_of n (pages_from first slots) ≡ option_map (numbered n) (slice_index_or slots (n - first) None)
page_of-at first n slots from =
    let there : first + (n - first) ≡ n = omega arith in
    subst (λ (m : ℕ). page_of m (pages_from first slots) ≡ option_map (numbered m) (slice_index_or slots (n - first) None)) there (page_of-slot first (n - first) slots)

pub is_some-numbered : (n : ℕ) (slot : Option Page) → is_some (option_map (numbered n) slot) ≡ is_some slot
is_some-numbered n None = refl
is_some-numbered n (Some page) = refl

-- a number has a page where its slot is full
pub is_some-slot : (first n : ℕ) (slots : List (Option Page)) → first ≤ n → is_some (page_of n (pages_from first slots)) ≡ is_some (slice_index_or slots (n - first) None)
is_some-slot first n slots from = ap is_some (page_of-at first n slots from) ∙ is_some-numbered n (slice_index_or slots (n - first) None)

pub none_from : (slot : Option Page) → is_some slot ≡ false → slot ≡ None
none_from None is = refl
none_from (Some page) is = absurd (cc)

pub with_page-before : (new : Numbered) (n : ℕ) (slots : List (Option Page)) → new.n < n → with_page new (pages_from n slots) ≡ new ∷ pages_from n slots
with_page-before new n [] before = refl
with_page-before new n (None ∷ slots) before = with_page-before new (n + 1) slots (omega arith)
with_page-before new n (Some page ∷ slots) before =
    cond-true (nat_lt new.n n) (new ∷ (numbered n page ∷ pages_from (n + 1) slots)) (numbered n page ∷ with_page new (pages_from (n + 1) slots)) (lt-ltb new.n n before)

-- a page goes to its slot, which is empty
pub with_page-slot : (n i : ℕ) (slots : List (Option Page)) (page : Page) → i < length slots → slice_index_or slots i None ≡ None →
    with_page (numbered (n + i) page) (pages_from n slots) ≡ pages_from n (slice_set slots i (Some page))
with_page-slot n i [] page fits empty = absurd (omega arith)
with_page-slot n zero (None ∷ slots) page fits empty =
    let here : n + 0 ≡ n = omega arith in
    with_page-before (numbered (n + 0) page) (n + 1) slots (omega arith)
    ∙ ap (λ (m : ℕ). numbered m page ∷ pages_from (n + 1) slots) here
with_page-slot n (suc i) (None ∷ slots) page fits empty =
    let next : n + 1 + i ≡ n + suc i = omega arith in
    subst (λ (m : ℕ). with_page (numbered m page) (pages_from (n + 1) slots) ≡ pages_from (n + 1) (slice_set slots i (Some page))) next
    (with_page-slot (n + 1) i slots page (omega arith) empty)
with_page-slot n zero (Some other ∷ slots) page fits empty = absurd (cc)
with_page-slot n (suc i) (Some other ∷ slots) page fits empty =
    let next : n + 1 + i ≡ n + suc i = omega arith in
    let new = numbered (n + suc i) page in
    let rest = pages_from (n + 1) slots in
    cond-false (nat_lt (n + suc i) n) (new ∷ (numbered n other ∷ rest)) (numbered n other ∷ with_page new rest) (le-ltb (n + suc i) n (omega arith))
    ∙ ap (λ (pages : List Numbered). numbered n other ∷ pages)
    (subst (λ (m : ℕ). with_page (numbered m page) (pages_from (n + 1) slots) ≡ pages_from (n + 1) (slice_set slots i (Some page))) next
    (with_page-slot (n + 1) i slots page (omega arith) empty))

pub with_page-at : (first n : ℕ) (slots : List (Option Page)) (page : Page) → first ≤ n → n - first < length slots → slice_index_or slots (n - first) None ≡ None →
    with_page (numbered n page) (pages_from first slots) ≡ pages_from first (slice_set slots (n - first) (Some page))
with_page-at first n slots page from fits empty =
    let there : first + (n - first) ≡ n = omega arith in
    subst (λ (m : ℕ). with_page (numbered m page) (pages_from first slots) ≡ pages_from first (slice_set slots (n - first) (Some page))) there
    (with_page-slot first (n - first) slots page fits empty)

pub without_page-before : (m n : ℕ) (slots : List (Option Page)) → m < n → without_page m (pages_from n slots) ≡ pages_from n slots
without_page-before m n [] before = refl
without_page-before m n (None ∷ slots) before = without_page-before m (n + 1) slots (omega arith)
without_page-before m n (Some page ∷ slots) before =
    let rest = without_page m (pages_from (n + 1) slots) in
    cond-true (not (n == m)) (numbered n page ∷ rest) rest (ap not (ne_eqb n m (λ (same : n ≡ m). omega arith)))
    ∙ ap (λ (pages : List Numbered). numbered n page ∷ pages) (without_page-before m (n + 1) slots (omega arith))

-- without the page of a number its slot is empty
pub without_page-slot : (n i : ℕ) (slots : List (Option Page)) → without_page (n + i) (pages_from n slots) ≡ pages_from n (slice_set slots i None)
without_page-slot n i [] = refl
without_page-slot n zero (None ∷ slots) = without_page-before (n + 0) (n + 1) slots (omega arith)
without_page-slot n (suc i) (None ∷ slots) =
    let next : n + 1 + i ≡ n + suc i = omega arith in
    subst (λ (m : ℕ). without_page m (pages_from (n + 1) slots) ≡ pages_from (n + 1) (slice_set slots i None)) next (without_page-slot (n + 1) i slots)
without_page-slot n zero (Some page ∷ slots) =
    let rest = without_page (n + 0) (pages_from (n + 1) slots) in
    cond-false (not (n == n + 0)) (numbered n page ∷ rest) rest (ap not (eq-eqb n (n + 0) (omega arith)))
    ∙ without_page-before (n + 0) (n + 1) slots (omega arith)
without_page-slot n (suc i) (Some page ∷ slots) =
    let next : n + 1 + i ≡ n + suc i = omega arith in
    let rest = without_page (n + suc i) (pages_from (n + 1) slots) in
    cond-true (not (n == n + suc i)) (numbered n page ∷ rest) rest (ap not (ne_eqb n (n + suc i) (λ (same : n ≡ n + suc i). omega arith)))
    ∙ ap (λ (pages : List Numbered). numbered n page ∷ pages)
    (subst (λ (m : ℕ). without_page m (pages_from (n + 1) slots) ≡ pages_from (n + 1) (slice_set slots i None)) next (without_page-slot (n + 1) i slots))

-- empty slots have no page
pub pages_from-empty : (n : ℕ) (slots : List (Option Page)) → ((i : ℕ) → slice_index_or slots i None ≡ None) → pages_from n slots ≡ []
pages_from-empty n [] empty = refl
pages_from-empty n (None ∷ slots) empty = pages_from-empty (n + 1) slots (λ i. empty (suc i))
pages_from-empty n (Some page ∷ slots) empty = let first : Some page ≡ None = empty 0 in absurd (cc)

pub pages_from-replicate : (n capacity : ℕ) → pages_from n (replicate capacity None) ≡ []
pages_from-replicate n zero = refl
pages_from-replicate n (suc capacity) = pages_from-replicate (n + 1) capacity

-- once all pages of a round are handed out, all slots are empty
pub empty-done : (slots : List (Option Page)) (first count handed : ℕ) → KeepsRound slots first count handed → handed ≡ count → (i : ℕ) → slice_index_or slots i None ≡ None
empty-done slots first count handed keeps done i =
    elim (cases_lt i handed) [
      | inl under ↦ keeps.before i under
      | inr from ↦ keeps.behind i (omega (arith, from))
    ]
