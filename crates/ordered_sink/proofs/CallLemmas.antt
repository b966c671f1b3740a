-- Calls of a round: what they keep, and which pages they hand out.
use Rattle.std.proofs.Common.{◌≡◌, ◌≤◌, ◌<◌, ◌+◌, ◌==◌, ℕ, zero, suc, true, false, List, [], ◌∷◌, ◌++◌, Option, Some, None, inl, inr, ap, append_assoc, append-nil, arith, length, refl, subst, sym, ◌∙◌}
use Rattle.std.specs.Prelude.{Contains, if◌then◌else◌, is_some, nat_le, nat_lt, replicate, slice_index_or}
use Rattle.std.specs.Option.{option_to_list}
use Rattle.std.proofs.lemmas.Bool.{and_from, both_ways, cases_Bool, cases_eq, cases_lt, cond-false, cond-true, eq-eqb, false_from_ne_true, le-leb, lt-ltb, ltb-true, ne_eqb, or_cases, or_left, or_right}
use Rattle.std.proofs.lemmas.List.FromFn.{map-range_with_len_more}
use Rattle.line_pages.specs.Pages.{Page}
use Rattle.ordered_sink.specs.declared.offers.Numbered.{Numbered}
use Rattle.ordered_sink.specs.declared.offers.Refused.TheVariants.{Beyond, Taken}
use Rattle.ordered_sink.specs.Calls.{Call, Next, Offer, after, after_call, first_offered, handed_out, in_order}
use Rattle.ordered_sink.specs.Ordered.{Round, after_next, after_offer, begun, due, has_number, next, page_of, was_offered, with_page, without_page}
use Rattle.ordered_sink.proofs.SlotLemmas.{numbered}
use Rattle.ordered_sink.proofs.RoundLemmas.{after-new, after-refused, after_next-none, answer-beyond, answer-new, answer-taken, has_number-within, next_by}
use Rattle.ordered_sink.proofs.WaitingLemmas.{AreWaiting, AreWaiting-with, AreWaiting-without, page_of-found, page_of-with, page_of-with_new, page_of-without}

pub has_number-from : (round : Round) (n : ℕ) → round.first ≤ n → n < round.first + round.count → has_number round n ≡ true
has_number-from round n from below =
    and_from (nat_le round.first n) (nat_lt n (round.first + round.count)) (le-leb round.first n from) (lt-ltb n (round.first + round.count) below)

-- the round with a page that waits, and with one more handed out
abbrev pub offered_to : Round → ℕ → Page → Round
offered_to round n page = record round { waiting = with_page (numbered n page) round.waiting }

abbrev pub handed_on : Round → Round
handed_on round = record round { handed = round.handed + 1; waiting = without_page (due round) round.waiting }

-- what holds of the round, and of it with a new page, holds after an offer
pub by_offer : (round : Round) (n : ℕ) (page : Page) (P : Round → Type 0) → P round →
    (has_number round n ≡ true → was_offered round n ≡ false → P (offered_to round n page)) → P (after_offer round n page)
by_offer round n page P stays takes =
    elim (cases_Bool (has_number round n)) [
      | inl has ↦ elim (cases_Bool (was_offered round n)) [
        | inl offered ↦ subst P (sym (after-refused round n page (Taken page) (answer-taken round n page has offered))) stays
        | inr new ↦ subst P (sym (after-new round n page (answer-new round n page has new))) (takes has new)
      ]
      | inr out ↦ subst P (sym (after-refused round n page (Beyond page) (answer-beyond round n page out))) stays
    ]

-- what holds of the round with no next page, and of it with one more handed out, holds after the next page is asked for
pub by_next_at : (round : Round) (page : Option Numbered) → next round ≡ page → (P : Option Numbered → Round → Type 0) →
    (next round ≡ None → P None round) → ((it : Numbered) → next round ≡ Some it → P (Some it) (handed_on round)) →
    P (next round) (after_next round)
by_next_at round None is P stays takes =
    subst (λ (page : Option Numbered). P page (after_next round)) (sym is) (subst (P None) (sym (after_next-none round is)) (stays is))
by_next_at round (Some it) is P stays takes =
    let same : after_next round ≡ handed_on round = ap (next_by round) is in
    subst (λ (page : Option Numbered). P page (after_next round)) (sym is) (subst (P (Some it)) (sym same) (takes it is))

pub by_next : (round : Round) (P : Option Numbered → Round → Type 0) →
    (next round ≡ None → P None round) → ((it : Numbered) → next round ≡ Some it → P (Some it) (handed_on round)) →
    P (next round) (after_next round)
by_next round = by_next_at round (next round) refl

-- the numbers of a round stay the same
pub has_number-after_call : (call : Call) (round : Round) (n : ℕ) → has_number (after_call call round) n ≡ has_number round n
has_number-after_call (Offer m page) round n = by_offer round m page (λ (later : Round). has_number later n ≡ has_number round n) refl (λ has new. refl)
has_number-after_call Next round n = by_next round (λ (page : Option Numbered) (later : Round). has_number later n ≡ has_number round n) (λ _. refl) (λ it is. refl)

pub first-after : (calls : List Call) (round : Round) → (after calls round).first ≡ round.first
first-after [] round = refl
first-after (Offer m page ∷ calls) round =
    first-after calls (after_offer round m page) ∙ by_offer round m page (λ (later : Round). later.first ≡ round.first) refl (λ has new. refl)
first-after (Next ∷ calls) round =
    first-after calls (after_next round) ∙ by_next round (λ (page : Option Numbered) (later : Round). later.first ≡ round.first) (λ _. refl) (λ it is. refl)

pub count-after : (calls : List Call) (round : Round) → (after calls round).count ≡ round.count
count-after [] round = refl
count-after (Offer m page ∷ calls) round =
    count-after calls (after_offer round m page) ∙ by_offer round m page (λ (later : Round). later.count ≡ round.count) refl (λ has new. refl)
count-after (Next ∷ calls) round =
    count-after calls (after_next round) ∙ by_next round (λ (page : Option Numbered) (later : Round). later.count ≡ round.count) (λ _. refl) (λ it is. refl)

-- what was offered stays so
pub was_offered-to : (round : Round) (m : ℕ) (page : Page) (n : ℕ) → was_offered round n ≡ true → was_offered (offered_to round m page) n ≡ true
was_offered-to round m page n offered =
    let out = nat_lt n (due round) in
    let waits = is_some (page_of n (with_page (numbered m page) round.waiting)) in
    elim (or_cases out (is_some (page_of n round.waiting)) offered) [
      | inl before ↦ or_left out waits before
      | inr waited ↦ or_right out waits (page_of-with n (numbered m page) round.waiting waited)
    ]

pub was_offered-handed_on : (round : Round) (n : ℕ) → was_offered round n ≡ true → was_offered (handed_on round) n ≡ true
was_offered-handed_on round n offered =
    let out = nat_lt n (due (handed_on round)) in
    let waits = is_some (page_of n (without_page (due round) round.waiting)) in
    elim (or_cases (nat_lt n (due round)) (is_some (page_of n round.waiting)) offered) [
      | inl is ↦
          let before : n < due round = ltb-true n (due round) is in
          or_left out waits (lt-ltb n (due (handed_on round)) (omega (arith, before)))
      | inr waited ↦ elim (cases_eq n (due round)) [
        | inl same ↦ or_left out waits (lt-ltb n (due (handed_on round)) (omega (arith, same)))
        | inr unlike ↦ or_right out waits (ap is_some (page_of-without n (due round) round.waiting unlike) ∙ waited)
      ]
    ]

pub was_offered-after_call : (call : Call) (round : Round) (n : ℕ) → was_offered round n ≡ true → was_offered (after_call call round) n ≡ true
was_offered-after_call (Offer m page) round n offered =
    by_offer round m page (λ (later : Round). was_offered later n ≡ true) offered (λ has new. was_offered-to round m page n offered)
was_offered-after_call Next round n offered =
    by_next round (λ (page : Option Numbered) (later : Round). was_offered later n ≡ true) (λ _. offered) (λ it is. was_offered-handed_on round n offered)

pub was_offered-after : (calls : List Call) (round : Round) (n : ℕ) → was_offered round n ≡ true → was_offered (after calls round) n ≡ true
was_offered-after [] round n offered = offered
was_offered-after (call ∷ calls) round n offered = was_offered-after calls (after_call call round) n (was_offered-after_call call round n offered)

-- a number that wasn't offered after a call wasn't before it
pub new-before : (call : Call) (round : Round) (n : ℕ) → was_offered (after_call call round) n ≡ false → was_offered round n ≡ false
new-before call round n new =
    false_from_ne_true (was_offered round n) (λ offered. both_ways (was_offered (after_call call round) n) new (was_offered-after_call call round n offered))

-- a number of the round under which a page is offered was offered
pub was_offered-offer : (round : Round) (n : ℕ) (page : Page) → has_number round n ≡ true → was_offered (after_offer round n page) n ≡ true
was_offered-offer round n page has =
    elim (cases_Bool (was_offered round n)) [
      | inl offered ↦ was_offered-after_call (Offer n page) round n offered
      | inr new ↦
          subst (λ (later : Round). was_offered later n ≡ true) (sym (after-new round n page (answer-new round n page has new)))
          (or_right (nat_lt n (due round)) (is_some (page_of n (with_page (numbered n page) round.waiting))) (page_of-with_new (numbered n page) round.waiting))
    ]

pub was_offered-at : (calls : List Call) (k n : ℕ) (page : Page) (round : Round) → has_number round n ≡ true → k < length calls →
    slice_index_or calls k (Offer n page) ≡ Offer n page → was_offered (after calls round) n ≡ true
was_offered-at [] k n page round has within at = absurd (omega arith)
was_offered-at (call ∷ calls) zero n page round has within at =
    was_offered-after calls (after_call call round) n
    (subst (λ (it : Call). was_offered (after_call it round) n ≡ true) (sym at) (was_offered-offer round n page has))
was_offered-at (call ∷ calls) (suc k) n page round has within at =
    was_offered-at calls k n page (after_call call round) (has_number-after_call call round n ∙ has) (omega arith) at

-- a round as it comes about, with the page that each number has: one that waits, or the first one that calls to come offer
pub record IsRound (text : ℕ → Page) (calls : List Call) (round : Round) : Type 0 where
  pub waiting : AreWaiting text (round.first + round.count) round.waiting
  pub part : round.handed ≤ round.count
  pub told : (n : ℕ) → has_number round n ≡ true → was_offered round n ≡ false → first_offered calls n ≡ text n

pub told-offer : (text : ℕ → Page) (m : ℕ) (page : Page) (calls : List Call) (round : Round) → IsRound text (Offer m page ∷ calls) round → (n : ℕ) →
    has_number round n ≡ true → was_offered (after_offer round m page) n ≡ false → first_offered calls n ≡ text n
told-offer text m page calls round is n has new =
    elim (cases_eq m n) [
      | inl same ↦
          let has_m : has_number round m ≡ true = ap (has_number round) same ∙ has in
          let new_m : was_offered (after_offer round m page) m ≡ false = ap (was_offered (after_offer round m page)) same ∙ new in
          absurd (both_ways (was_offered (after_offer round m page) m) new_m (was_offered-offer round m page has_m))
      | inr unlike ↦
          sym (cond-false (m == n) page (first_offered calls n) (ne_eqb m n unlike))
          ∙ is.told n has (new-before (Offer m page) round n new)
    ]

pub IsRound-offer : (text : ℕ → Page) (m : ℕ) (page : Page) (calls : List Call) (round : Round) → IsRound text (Offer m page ∷ calls) round →
    IsRound text calls (after_offer round m page)
IsRound-offer text m page calls round is =
    by_offer round m page (λ (later : Round). ((n : ℕ) → has_number round n ≡ true → was_offered later n ≡ false → first_offered calls n ≡ text n) → IsRound text calls later)
    (λ told. record { waiting = is.waiting; part = is.part; told = told })
    (λ has new told.
    let page_is : page ≡ text m = sym (cond-true (m == m) page (first_offered calls m) (eq-eqb m m refl)) ∙ is.told m has new in
    record {
      waiting = AreWaiting-with text (round.first + round.count) (numbered m page) round.waiting page_is (has_number-within round m has).1 is.waiting;
      part = is.part;
      told = told;
    })
    (told-offer text m page calls round is)

pub IsRound-handed_on : (text : ℕ → Page) (calls : List Call) (round : Round) (it : Numbered) → IsRound text (Next ∷ calls) round → next round ≡ Some it →
    IsRound text calls (handed_on round)
IsRound-handed_on text calls round it is found =
    let page = page_of-found text (round.first + round.count) (due round) round.waiting it is.waiting found in
    record {
      waiting = AreWaiting-without text (round.first + round.count) (due round) round.waiting is.waiting;
      part = omega (arith, page.1);
      told = λ n has new. is.told n has
          (false_from_ne_true (was_offered round n) (λ offered. both_ways (was_offered (handed_on round) n) new (was_offered-handed_on round n offered)));
    }

pub IsRound-stays : (text : ℕ → Page) (calls : List Call) (round : Round) → IsRound text (Next ∷ calls) round → IsRound text calls round
IsRound-stays text calls round is = record { waiting = is.waiting; part = is.part; told = is.told }

pub IsRound-after : (text : ℕ → Page) (calls more : List Call) (round : Round) → IsRound text (calls ++ more) round → IsRound text more (after calls round)
IsRound-after text [] more round is = is
IsRound-after text (Offer m page ∷ calls) more round is =
    IsRound-after text calls more (after_offer round m page) (IsRound-offer text m page (calls ++ more) round is)
IsRound-after text (Next ∷ calls) more round is =
    IsRound-after text calls more (after_next round)
    (by_next round (λ (page : Option Numbered) (later : Round). IsRound text (calls ++ more) later)
    (λ _. IsRound-stays text (calls ++ more) round is) (λ it found. IsRound-handed_on text (calls ++ more) round it is found))

-- the pages handed out so far and those that calls hand out are those of the first numbers
pub handed_out-in_order : (text : ℕ → Page) (calls : List Call) (round : Round) → IsRound text calls round →
    in_order text round.first round.handed ++ handed_out calls round ≡ in_order text round.first (after calls round).handed
handed_out-in_order text [] round is = append-nil (in_order text round.first round.handed)
handed_out-in_order text (Offer m page ∷ calls) round is =
    by_offer round m page
    (λ (later : Round). IsRound text calls later →
    in_order text round.first round.handed ++ handed_out calls later ≡ in_order text round.first (after calls later).handed)
    (handed_out-in_order text calls round) (λ has new. handed_out-in_order text calls (offered_to round m page))
    (IsRound-offer text m page calls round is)
handed_out-in_order text (Next ∷ calls) round is =
    let so_far = in_order text round.first round.handed in
    by_next round
    (λ (page : Option Numbered) (later : Round).
    so_far ++ (option_to_list page ++ handed_out calls later) ≡ in_order text round.first (after calls later).handed)
    (λ _. handed_out-in_order text calls round (IsRound-stays text calls round is))
    (λ it found.
    let rest = handed_out calls (handed_on round) in
    let page = page_of-found text (round.first + round.count) (due round) round.waiting it is.waiting found in
    ap (λ (handed : Numbered). so_far ++ (handed ∷ rest)) page.0
    ∙ sym (append_assoc so_far (numbered (due round) (text (due round)) ∷ []) rest)
    ∙ ap (λ (pages : List Numbered). pages ++ rest) (sym (map-range_with_len_more (λ (n : ℕ). numbered n (text n)) round.first round.handed (due round) refl))
    ∙ handed_out-in_order text calls (handed_on round) (IsRound-handed_on text calls round it is found))

-- where no page is next though all numbers were offered, all were handed out
pub none_left : (round : Round) → ((n : ℕ) → has_number round n ≡ true → was_offered round n ≡ true) → next round ≡ None → round.count ≤ round.handed
none_left round offered none =
    elim (cases_lt round.handed round.count) [
      | inl before ↦
          let at = due round in
          elim (or_cases (nat_lt at at) (is_some (page_of at round.waiting)) (offered at (has_number-from round at (omega arith) (omega (arith, before))))) [
            | inl out ↦ let below : at < at = ltb-true at at out in absurd (omega (arith, below))
            | inr waits ↦ let some : is_some (next round) ≡ true = waits in absurd (cc)
          ]
      | inr all ↦ all
    ]

-- once all numbers of a round were offered, asking often enough hands out all pages
pub all_handed : (text : ℕ → Page) (times : ℕ) (round : Round) → IsRound text (replicate times Next) round →
    ((n : ℕ) → has_number round n ≡ true → was_offered round n ≡ true) → round.count ≤ round.handed + times →
    (after (replicate times Next) round).handed ≡ round.count
all_handed text zero round is offered enough = omega (arith, is.part)
all_handed text (suc times) round is offered enough =
    by_next round (λ (page : Option Numbered) (later : Round). (after (replicate times Next) later).handed ≡ round.count)
    (λ none. all_handed text times round (IsRound-stays text (replicate times Next) round is) offered (omega (arith, is.part, none_left round offered none)))
    (λ it found. all_handed text times (handed_on round) (IsRound-handed_on text (replicate times Next) round it is found)
    (λ n has. was_offered-handed_on round n (offered n has)) (omega arith))

pub after-append : (calls more : List Call) (round : Round) → after (calls ++ more) round ≡ after more (after calls round)
after-append [] more round = refl
after-append (call ∷ calls) more round = after-append calls more (after_call call round)

-- asking for pages offers none
pub first_offered-asked : (calls : List Call) (times n : ℕ) → first_offered (calls ++ replicate times Next) n ≡ first_offered calls n
first_offered-asked [] zero n = refl
first_offered-asked [] (suc times) n = first_offered-asked [] times n
first_offered-asked (Offer m page ∷ calls) times n = ap (λ (later : Page). if m == n then page else later) (first_offered-asked calls times n)
first_offered-asked (Next ∷ calls) times n = first_offered-asked calls times n

pub IsRound-begun : (text : ℕ → Page) (calls : List Call) (before : Round) (first count : ℕ) → ((n : ℕ) → first_offered calls n ≡ text n) →
    IsRound text calls (begun before first count)
IsRound-begun text calls before first count told = record { waiting = tt; part = omega arith; told = λ n has new. told n }

pub all_in_order : (calls : List Call) (before : Round) (first count : ℕ) →
    ((n : ℕ) → first ≤ n → n < first + count → (page : Page) × Contains calls (Offer n page)) →
    handed_out (calls ++ replicate count Next) (begun before first count) ≡ in_order (first_offered calls) first count
all_in_order calls before first count each =
    let text = first_offered calls in
    let asks = replicate count Next in
    let round = begun before first count in
    let is = IsRound-begun text (calls ++ asks) before first count (first_offered-asked calls count) in
    let later = after calls round in
    let same_first = first-after calls round in
    let same_count = count-after calls round in
    let offered : (n : ℕ) → has_number later n ≡ true → was_offered later n ≡ true = λ n has.
    let within = has_number-within later n has in
    let from : first ≤ n = omega (arith, within.0, same_first) in
    let below : n < first + count = omega (arith, within.1, same_first, same_count) in
    let offer = each n from below in
    was_offered-at calls offer.1.0 n offer.0 round (has_number-from round n from below) offer.1.1 offer.1.2 in
    let all = all_handed text count later (IsRound-after text calls asks round is) offered (omega (arith, same_count)) in
    handed_out-in_order text (calls ++ asks) round is
    ∙ ap (λ (end : Round). in_order text first end.handed) (after-append calls asks round)
    ∙ ap (in_order text first) (all ∙ same_count)
