-- Pages that wait: what stays so, and which page of a number there is, with one page more or without one.
use Rattle.std.proofs.Common.{◌≡◌, ◌<◌, ◌==◌, ℕ, Bool, true, false, List, [], ◌∷◌, Option, Some, None, ◌⊎◌, inl, inr, ap, not, refl, subst, sym, ◌∙◌}
use Rattle.std.specs.Prelude.{if◌then◌else◌, is_some, nat_lt}
use Rattle.std.proofs.lemmas.Bool.{cases_eq, cond-false, cond-true, cond_both, eq-eqb, eqb-true, ne_eqb, not-false}
use Rattle.line_pages.specs.Pages.{Page}
use Rattle.ordered_sink.specs.declared.offers.Numbered.{Numbered}
use Rattle.ordered_sink.specs.Ordered.{page_of, with_page, without_page}
use Rattle.ordered_sink.proofs.SlotLemmas.{numbered}

-- each page is that of its number, which is below an end
abbrev pub AreWaiting : (ℕ → Page) → ℕ → List Numbered → Type 0
AreWaiting text end [] = Unit {0}
AreWaiting text end (page ∷ pages) = (page.page ≡ text page.n) × (page.n < end) × AreWaiting text end pages

pub AreWaiting-with : (text : ℕ → Page) (end : ℕ) (new : Numbered) (pages : List Numbered) → new.page ≡ text new.n → new.n < end →
    AreWaiting text end pages → AreWaiting text end (with_page new pages)
AreWaiting-with text end new [] is within are = (is, within, tt)
AreWaiting-with text end new (page ∷ pages) is within are =
    cond_both (nat_lt new.n page.n) (new ∷ (page ∷ pages)) (page ∷ with_page new pages) (AreWaiting text end)
    (λ _. (is, within, are)) (λ _. (are.0, are.1, AreWaiting-with text end new pages is within are.2))

pub AreWaiting-without : (text : ℕ → Page) (end n : ℕ) (pages : List Numbered) → AreWaiting text end pages → AreWaiting text end (without_page n pages)
AreWaiting-without text end n [] are = tt
AreWaiting-without text end n (page ∷ pages) are =
    let rest = AreWaiting-without text end n pages are.2 in
    cond_both (not (page.n == n)) (page ∷ without_page n pages) (without_page n pages) (AreWaiting text end) (λ _. (are.0, are.1, rest)) (λ _. rest)

-- the page of a number, if one waits, is that of the number
pub page_of-cases : (text : ℕ → Page) (end n : ℕ) (pages : List Numbered) → AreWaiting text end pages →
    (page_of n pages ≡ None) ⊎ ((page_of n pages ≡ Some (numbered n (text n))) × (n < end))
page_of-cases text end n [] are = inl refl
page_of-cases text end n (page ∷ pages) are =
    elim (cases_eq page.n n) [
      | inl same ↦
          let is : page ≡ numbered n (text n) = ap (numbered page.n) are.0 ∙ ap (λ (m : ℕ). numbered m (text m)) same in
          inr (
            cond-true (page.n == n) (Some page) (page_of n pages) (eq-eqb page.n n same) ∙ ap (λ (it : Numbered). Some it) is,
            subst (λ (m : ℕ). m < end) same are.1,
          )
      | inr unlike ↦
          let past = cond-false (page.n == n) (Some page) (page_of n pages) (ne_eqb page.n n unlike) in
          elim (page_of-cases text end n pages are.2) [
            | inl none ↦ inl (past ∙ none)
            | inr found ↦ inr (past ∙ found.0, found.1)
          ]
    ]

pub page_of-found : (text : ℕ → Page) (end n : ℕ) (pages : List Numbered) (page : Numbered) → AreWaiting text end pages → page_of n pages ≡ Some page →
    (page ≡ numbered n (text n)) × (n < end)
page_of-found text end n pages page are is =
    elim (page_of-cases text end n pages are) [
      | inl none ↦ absurd (cc)
      | inr found ↦
          let same : Some page ≡ Some (numbered n (text n)) = sym is ∙ found.0 in
          (cc, found.1)
    ]

-- a choice of a page, or else of what comes after it
pub is_some-behind : (here : Bool) (page : Numbered) (behind : Option Numbered) → is_some behind ≡ true → is_some (if here then Some page else behind) ≡ true
is_some-behind true page behind some = refl
is_some-behind false page behind some = some

pub is_some-instead : (here : Bool) (page : Numbered) (behind instead : Option Numbered) → (is_some behind ≡ true → is_some instead ≡ true) →
    is_some (if here then Some page else behind) ≡ true → is_some (if here then Some page else instead) ≡ true
is_some-instead true page behind instead more some = refl
is_some-instead false page behind instead more some = more some

-- with one more page each number that has one still does
pub page_of-with : (n : ℕ) (new : Numbered) (pages : List Numbered) → is_some (page_of n pages) ≡ true → is_some (page_of n (with_page new pages)) ≡ true
page_of-with n new [] some = absurd (cc)
page_of-with n new (page ∷ pages) some =
    cond_both (nat_lt new.n page.n) (new ∷ (page ∷ pages)) (page ∷ with_page new pages) (λ (all : List Numbered). is_some (page_of n all) ≡ true)
    (λ _. is_some-behind (new.n == n) new (page_of n (page ∷ pages)) some)
    (λ _. is_some-instead (page.n == n) page (page_of n pages) (page_of n (with_page new pages)) (page_of-with n new pages) some)

-- and so does the new one's
pub page_of-with_new : (new : Numbered) (pages : List Numbered) → is_some (page_of new.n (with_page new pages)) ≡ true
page_of-with_new new [] = ap is_some (cond-true (new.n == new.n) (Some new) None (eq-eqb new.n new.n refl))
page_of-with_new new (page ∷ pages) =
    cond_both (nat_lt new.n page.n) (new ∷ (page ∷ pages)) (page ∷ with_page new pages) (λ (all : List Numbered). is_some (page_of new.n all) ≡ true)
    (λ _. ap is_some (cond-true (new.n == new.n) (Some new) (page_of new.n (page ∷ pages)) (eq-eqb new.n new.n refl)))
    (λ _. is_some-behind (page.n == new.n) page (page_of new.n (with_page new pages)) (page_of-with_new new pages))

-- without the page of a number, the others have theirs
pub page_of-without : (m n : ℕ) (pages : List Numbered) → (m ≡ n → ⊥) → page_of m (without_page n pages) ≡ page_of m pages
page_of-without m n [] unlike = refl
page_of-without m n (page ∷ pages) unlike =
    let rest = page_of-without m n pages unlike in
    cond_both (not (page.n == n)) (page ∷ without_page n pages) (without_page n pages) (λ (all : List Numbered). page_of m all ≡ page_of m (page ∷ pages))
    (λ _. ap (λ (behind : Option Numbered). if page.n == m then Some page else behind) rest)
    (λ dropped. rest ∙ sym (cond-false (page.n == m) (Some page) (page_of m pages)
    (ne_eqb page.n m (λ (same : page.n ≡ m). unlike (sym same ∙ eqb-true page.n n (not-false (page.n == n) dropped))))))
