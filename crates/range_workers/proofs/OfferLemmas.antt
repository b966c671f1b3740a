-- Pages that are offered and handed out: how often each number stands among those that wait.
use Rattle.std.proofs.Common.{◌≡◌, ◌+◌, ◌-◌, ◌*◌, ◌⊎◌, ◌<◌, ◌≤◌, ◌==◌, ℕ, Bool, true, false, List, [], ◌∷◌, ◌++◌, Some, None, Ok, Err, inl, inr, ap, arith, length, length-append, not, refl, subst, sym, ◌∙◌}
use Rattle.std.specs.Prelude.{All, ◌||◌, is_ok, is_some, min, nat_lt, slice_index_or}
use Rattle.std.proofs.lemmas.Bool.{cases_eq, cases_lt, cond-false, cond-true, cond_both, eq-eqb, le-ltb, ne_eqb, not-false, eqb-true}
use Rattle.std.proofs.lemmas.List.{get_or_push}
use Rattle.std.proofs.lemmas.List.Elements.{All-cons, All-filter, All-head, All-pop, All-tail}
use Rattle.std.proofs.lemmas.List.Sums.{sum_by-cons}
use Rattle.line_pages.specs.Pages.{Page}
use Rattle.ordered_sink.specs.declared.offers.Numbered.{Numbered}
use Rattle.ordered_sink.specs.Ordered.{Round, after_next, after_offer, due, finished, next, page_of, was_offered, with_page, without_page}
use Rattle.ordered_sink.proofs.CallLemmas.{by_offer, has_number-from}
use Rattle.ordered_sink.proofs.RoundLemmas.{after-new, answer-new}
use Rattle.range_workers.specs.declared.work.RoundClaims.{RoundClaims}
use Rattle.range_workers.specs.declared.crew.Crew.{Crew}
use Rattle.range_workers.specs.Crew.{IsCrewAt, IsOffering}
use Rattle.range_workers.specs.Round.{IsPageOf, numbers_of}
use Rattle.range_workers.specs.Rule.{times}
use Rattle.range_workers.proofs.NumberLemmas.{times-append}
use Rattle.range_workers.proofs.SeatLemmas.{one_if}
use Rattle.range_workers.proofs.WorkLemmas.{numbers_of-append}

-- how often a number stands in a list with another one in front
pub times-cons : (c n : ℕ) (ns : List ℕ) → times c (n ∷ ns) ≡ one_if (n == c) + times c ns
times-cons c n ns = sum_by-cons (λ (m : ℕ). one_if (m == c)) n ns

-- a number that no page has
pub page_of-none : (n : ℕ) (pages : List Numbered) → times n (numbers_of pages) ≡ 0 → page_of n pages ≡ None
page_of-none n [] none = refl
page_of-none n (page ∷ pages) none =
    elim (cases_eq page.n n) [
      | inl same ↦
          let here : one_if (page.n == n) ≡ 1 = ap one_if (eq-eqb page.n n same) in
          absurd (omega (arith, here, none, times-cons n page.n (numbers_of pages)))
      | inr unlike ↦
          cond-false (page.n == n) (Some page) (page_of n pages) (ne_eqb page.n n unlike)
          ∙ page_of-none n pages (omega (arith, none, times-cons n page.n (numbers_of pages)))
    ]

-- a page that has a number
pub record HasPage (P : Numbered → Type 0) (n : ℕ) (pages : List Numbered) : Type 0 where
  pub page : Numbered
  pub is : page_of n pages ≡ Some page
  pub number : page.n ≡ n
  pub holds : P page

pub page_of-some : (P : Numbered → Type 0) (n : ℕ) (pages : List Numbered) → All P pages → 0 < times n (numbers_of pages) → HasPage P n pages
page_of-some P n [] are some = absurd (omega (arith, some))
page_of-some P n (page ∷ pages) are some =
    elim (cases_eq page.n n) [
      | inl same ↦ record {
        page = page;
        is = cond-true (page.n == n) (Some page) (page_of n pages) (eq-eqb page.n n same);
        number = same;
        holds = All-head P page pages are;
      }
      | inr unlike ↦
          let here : one_if (page.n == n) ≡ 0 = ap one_if (ne_eqb page.n n unlike) in
          let rest = page_of-some P n pages (All-tail P page pages are) (omega (arith, here, some, times-cons n page.n (numbers_of pages))) in
          record {
            page = rest.page;
            is = cond-false (page.n == n) (Some page) (page_of n pages) (ne_eqb page.n n unlike) ∙ rest.is;
            number = rest.number;
            holds = rest.holds;
          }
    ]

-- with one page more
pub times-with : (c : ℕ) (new : Numbered) (pages : List Numbered) → times c (numbers_of (with_page new pages)) ≡ one_if (new.n == c) + times c (numbers_of pages)
times-with c new [] = times-cons c new.n []
times-with c new (page ∷ pages) =
    cond_both (nat_lt new.n page.n) (new ∷ (page ∷ pages)) (page ∷ with_page new pages)
    (λ (all : List Numbered). times c (numbers_of all) ≡ one_if (new.n == c) + times c (numbers_of (page ∷ pages)))
    (λ _. times-cons c new.n (numbers_of (page ∷ pages)))
    (λ _. omega (arith, times-cons c page.n (numbers_of (with_page new pages)), times-with c new pages, times-cons c page.n (numbers_of pages)))

pub All-with : (P : Numbered → Type 0) (new : Numbered) (pages : List Numbered) → P new → All P pages → All P (with_page new pages)
All-with P new [] is are = All-cons P new [] is are
All-with P new (page ∷ pages) is are =
    cond_both (nat_lt new.n page.n) (new ∷ (page ∷ pages)) (page ∷ with_page new pages) (All P)
    (λ _. All-cons P new (page ∷ pages) is are)
    (λ _. All-cons P page (with_page new pages) (All-head P page pages are) (All-with P new pages is (All-tail P page pages are)))

-- without the page of another number
pub times-without : (c d : ℕ) (pages : List Numbered) → (c ≡ d → ⊥) → times c (numbers_of (without_page d pages)) ≡ times c (numbers_of pages)
times-without c d [] unlike = refl
times-without c d (page ∷ pages) unlike =
    let rest = times-without c d pages unlike in
    cond_both (not (page.n == d)) (page ∷ without_page d pages) (without_page d pages)
    (λ (all : List Numbered). times c (numbers_of all) ≡ times c (numbers_of (page ∷ pages)))
    (λ _. omega (arith, times-cons c page.n (numbers_of (without_page d pages)), rest, times-cons c page.n (numbers_of pages)))
    (λ dropped.
    let other : one_if (page.n == c) ≡ 0 = ap one_if (ne_eqb page.n c (λ (same : page.n ≡ c). unlike (sym same ∙ eqb-true page.n d (not-false (page.n == d) dropped)))) in
    omega (arith, rest, other, times-cons c page.n (numbers_of pages)))

pub All-without : (P : Numbered → Type 0) (d : ℕ) (pages : List Numbered) → All P pages → All P (without_page d pages)
All-without P d pages are = All-filter (λ (page : Numbered). not (page.n == d)) P pages are

-- the round with one page handed out
pub after_next-some : (round : Round) (page : Numbered) → next round ≡ Some page →
    after_next round ≡ record round { handed = round.handed + 1; waiting = without_page (due round) round.waiting }
after_next-some round page is =
    let some : is_some (next round) ≡ true = ap is_some is in
    cond-true (is_some (next round)) (record round { handed = round.handed + 1; waiting = without_page (due round) round.waiting }) round some

-- the offer of a page of the round that wasn't offered before
pub after_offer-new : (round : Round) (n : ℕ) (page : Page) → round.first ≤ n → n < round.first + round.count → round.handed ≡ 0 → times n (numbers_of round.waiting) ≡ 0 →
    after_offer round n page ≡ record round { waiting = with_page (record { n = n; page = page }) round.waiting }
after_offer-new round n page from below unused none =
    let early : nat_lt n (due round) ≡ false = le-ltb n (due round) (omega (arith, from, unused)) in
    let new : was_offered round n ≡ false =
    ap (λ (b : Bool). b || is_some (page_of n round.waiting)) early ∙ ap is_some (page_of-none n round.waiting none) in
    after-new round n page (answer-new round n page (has_number-from round n from below) new)

pub offering_next : (text : ℕ → List ℕ) (room : ℕ) (round : RoundClaims) (all rest : List Numbered) (n : ℕ) (page : Page) (before now : Round) →
    all ≡ rest ++ record { n = n; page = page } ∷ [] → now ≡ after_offer before n page → IsOffering text room round all before → IsOffering text room round rest now
offering_next text room round all rest n page before now last is it =
    let one : Numbered = record { n = n; page = page } in
    let parted = All-pop (IsPageOf text room round) all rest (Some one) last it.made in
    let split : (c : ℕ) → times c (numbers_of all) ≡ times c (numbers_of rest) + one_if (n == c) = λ c.
    omega (arith, ap (λ pages. times c (numbers_of pages)) last, ap (times c) (numbers_of-append rest (one ∷ [])), times-append c (numbers_of rest) (n ∷ []), times-cons c n []) in
    let here : one_if (n == n) ≡ 1 = ap one_if (eq-eqb n n refl) in
    let none : times n (numbers_of before.waiting) ≡ 0 = omega (arith, it.each n parted.1.from parted.1.below, split n, here) in
    let after : now ≡ record before { waiting = with_page one before.waiting } =
    is ∙ after_offer-new before n page (omega (arith, it.first, parted.1.from)) (omega (arith, it.first, it.count, parted.1.below)) it.handed none in
    subst (IsOffering text room round rest) (sym after)
    (record {
      first = it.first;
      count = it.count;
      handed = it.handed;
      made = parted.0;
      waiting = All-with (IsPageOf text room round) one before.waiting parted.1 it.waiting;
      each = λ c from below. omega (arith, it.each c from below, split c, times-with c one before.waiting);
    })

pub capacity-offer : (round : Round) (n : ℕ) (page : Page) → (after_offer round n page).capacity ≡ round.capacity
capacity-offer round n page = by_offer round n page (λ (after : Round). after.capacity ≡ round.capacity) refl (λ has new. refl)

-- whether all pages were handed out
pub used_up : (round : Round) → is_ok (finished round) ≡ true → round.handed ≡ round.count
used_up round all =
    elim (cases_eq round.handed round.count) [
      | inl same ↦ same
      | inr unlike ↦
          let told : finished round ≡ Err (record { first = due round }) =
          cond-false (round.handed == round.count) (Ok tt) (Err (record { first = due round })) (ne_eqb round.handed round.count unlike) in
          let no : false ≡ true = sym (ap is_ok told) ∙ all in
          absurd (cc)
    ]

pub left_over : (round : Round) → is_ok (finished round) ≡ false → round.handed ≤ round.count → round.handed < round.count
left_over round some within =
    elim (cases_eq round.handed round.count) [
      | inl same ↦
          let told : finished round ≡ Ok tt =
          cond-true (round.handed == round.count) (Ok tt) (Err (record { first = due round })) (eq-eqb round.handed round.count same) in
          let no : true ≡ false = sym (ap is_ok told) ∙ some in
          absurd (cc)
      | inr unlike ↦ omega arith
    ]

-- the page that was pushed last
pub last_of_pushed : (all pages : List Page) (page d : Page) → all ≡ pages ++ page ∷ [] → slice_index_or all (length all - 1) d ≡ page
last_of_pushed all pages page d is =
    let at : length pages ≡ length all - 1 = omega (arith, ap length is, length-append pages (page ∷ [])) in
    ap (λ (xs : List Page). slice_index_or xs (length all - 1) d) is ∙ get_or_push pages page d (length all - 1) at

-- no more than two claims for each package of whole rounds
pub few_claims : (claimed first count handed n all : ℕ) → ((claimed ≤ 2 * (first + count)) ⊎ (all ≤ first + count)) → n ≡ first + handed → handed ≡ count → n < all → claimed ≤ 2 * n
few_claims claimed first count handed n all (inl few) at used below = omega arith
few_claims claimed first count handed n all (inr last) at used below = absurd (omega (arith, last, at, used, below))

pub still_few : (claimed base n workers part all : ℕ) → base ≤ 2 * n → claimed ≤ base + 8 * workers → part ≡ min (all - n) (4 * workers) → n < all →
    (claimed ≤ 2 * (n + part)) ⊎ (all ≤ n + part)
still_few claimed base n workers part all few most is below =
    elim (cases_lt (4 * workers) (all - n)) [
      | inl more ↦ inl (omega (arith, few, most, is, more))
      | inr last ↦ inr (omega (arith, is, last, below))
    ]

-- the page of the crew's next package waits
pub page_due : (text : ℕ → List ℕ) (count room n : ℕ) (crew : Crew) → IsCrewAt text count room n crew → crew.ordered.handed < crew.ordered.count →
    HasPage (IsPageOf text crew.shop.room crew.round) (due crew.ordered) crew.ordered.waiting
page_due text count room n crew at begun =
    let once = at.each (due crew.ordered) (omega (arith, at.first)) (omega (arith, at.first, at.part, begun)) in
    page_of-some (IsPageOf text crew.shop.room crew.round) (due crew.ordered) crew.ordered.waiting at.waiting (omega (arith, once))
