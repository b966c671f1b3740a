-- Rounds: what is told of an offer, and what comes of it.
use Rattle.std.proofs.Common.{◌≡◌, ◌≤◌, ◌<◌, ◌+◌, ◌-◌, ℕ, Bool, true, false, List, Option, Some, None, Result, Ok, Err, ap, arith, length, subst, sym, ◌∙◌}
use Rattle.std.specs.Option.{option_map}
use Rattle.std.specs.Prelude.{if◌then◌else◌, ◌||◌, is_ok, is_some, nat_le, nat_lt, not, replicate, slice_index_or, slice_set}
use Rattle.std.proofs.lemmas.Bool.{and_parts, le-ltb, leb-true, ltb-true, or_parts}
use Rattle.std.proofs.lemmas.List.{length-replicate, length-set, set-get_or}
use Rattle.line_pages.specs.Pages.{Page}
use Rattle.ordered_sink.specs.declared.offers.Numbered.{Numbered}
use Rattle.ordered_sink.specs.declared.offers.Refused.{Refused}
use Rattle.ordered_sink.specs.declared.offers.Refused.TheVariants.{Beyond, Taken}
use Rattle.ordered_sink.specs.Ordered.{Round, after_next, after_offer, answer, begun, due, has_number, next, no_round, page_of, was_offered, with_page, without_page}
use Rattle.ordered_sink.specs.Slots.{KeepsRound, pages_from}
use Rattle.ordered_sink.proofs.SlotLemmas.{empty-done, is_some-slot, none_from, numbered, page_of-slot, pages_from-empty, pages_from-replicate, with_page-at, without_page-slot}

-- what is told of an offer, by the two tests
abbrev pub answer_by : Page → Bool → Bool → Result (Unit {0}) Refused
answer_by page has offered = if not has then Err (Beyond page) else if offered then Err (Taken page) else Ok tt

-- what comes of it
abbrev pub after_by : Round → ℕ → Page → Result (Unit {0}) Refused → Round
after_by round n page told = if is_ok told then record round { waiting = with_page (numbered n page) round.waiting } else round

pub answer-beyond : (round : Round) (n : ℕ) (page : Page) → has_number round n ≡ false → answer round n page ≡ Err (Beyond page)
answer-beyond round n page out = ap (λ has. answer_by page has (was_offered round n)) out

pub answer-taken : (round : Round) (n : ℕ) (page : Page) → has_number round n ≡ true → was_offered round n ≡ true → answer round n page ≡ Err (Taken page)
answer-taken round n page has offered =
    ap (λ has. answer_by page has (was_offered round n)) has ∙ ap (answer_by page true) offered

pub answer-new : (round : Round) (n : ℕ) (page : Page) → has_number round n ≡ true → was_offered round n ≡ false → answer round n page ≡ Ok tt
answer-new round n page has new =
    ap (λ has. answer_by page has (was_offered round n)) has ∙ ap (answer_by page true) new

pub after-refused : (round : Round) (n : ℕ) (page : Page) (why : Refused) → answer round n page ≡ Err why → after_offer round n page ≡ round
after-refused round n page why told = ap (after_by round n page) told

pub after-new : (round : Round) (n : ℕ) (page : Page) → answer round n page ≡ Ok tt →
    after_offer round n page ≡ record round { waiting = with_page (numbered n page) round.waiting }
after-new round n page told = ap (after_by round n page) told

-- the round of which slots keep the pages
abbrev pub round_in : List (Option Page) → ℕ → ℕ → ℕ → Round
round_in slots first count handed =
    record { capacity = length slots; first = first; count = count; handed = handed; waiting = pages_from first slots }

pub round_in-new : (capacity : ℕ) → round_in (replicate capacity None) 0 0 0 ≡ no_round capacity
round_in-new capacity =
    let empty : Option Page = None in
    ap (λ size. record (no_round capacity) { capacity = size; waiting = pages_from 0 (replicate capacity None) }) (length-replicate capacity empty)
    ∙ ap (λ pages. record (no_round capacity) { waiting = pages }) (pages_from-replicate 0 capacity)

pub round_in-begun : (slots : List (Option Page)) (first count handed next_first next_count : ℕ) → KeepsRound slots first count handed → handed ≡ count →
    round_in slots next_first next_count 0 ≡ begun (round_in slots first count handed) next_first next_count
round_in-begun slots first count handed next_first next_count keeps done =
    ap (λ pages. record (round_in slots next_first next_count 0) { waiting = pages })
    (pages_from-empty next_first slots (empty-done slots first count handed keeps done))

-- a number of the round is one from the first one on, and before its end
pub has_number-within : (round : Round) (n : ℕ) → has_number round n ≡ true → (round.first ≤ n) × (n < round.first + round.count)
has_number-within round n has =
    let parts = and_parts (nat_le round.first n) (nat_lt n (round.first + round.count)) has in
    (leb-true round.first n parts.0, ltb-true n (round.first + round.count) parts.1)

-- a page that isn't handed out was offered where its slot is full
pub was_offered-slot : (slots : List (Option Page)) (first count handed n : ℕ) → first + handed ≤ n →
    was_offered (round_in slots first count handed) n ≡ is_some (slice_index_or slots (n - first) None)
was_offered-slot slots first count handed n from =
    ap (λ test. test || is_some (page_of n (pages_from first slots))) (le-ltb n (first + handed) from)
    ∙ is_some-slot first n slots (omega arith)

-- a page that wasn't offered goes to its slot
pub round_in-offered : (slots : List (Option Page)) (first count handed n : ℕ) (page : Page) → KeepsRound slots first count handed →
    has_number (round_in slots first count handed) n ≡ true → was_offered (round_in slots first count handed) n ≡ false →
    round_in (slice_set slots (n - first) (Some page)) first count handed ≡ after_offer (round_in slots first count handed) n page
round_in-offered slots first count handed n page keeps has new =
    let round = round_in slots first count handed in
    let within = has_number-within round n has in
    let parts = or_parts (nat_lt n (first + handed)) (is_some (page_of n (pages_from first slots))) new in
    let empty : slice_index_or slots (n - first) None ≡ None = none_from (slice_index_or slots (n - first) None) (sym (is_some-slot first n slots within.0) ∙ parts.1) in
    let fits : n - first < length slots = omega (arith, within.0, within.1, keeps.fits) in
    ap (λ size. record (round_in (slice_set slots (n - first) (Some page)) first count handed) { capacity = size }) (length-set slots (n - first) (Some page))
    ∙ ap (λ pages. record round { waiting = pages }) (sym (with_page-at first n slots page within.0 fits empty))
    ∙ sym (after-new round n page (answer-new round n page has new))

-- what comes of asking for the next page, by the page that there is
abbrev pub next_by : Round → Option Numbered → Round
next_by round page =
    if is_some page then record round { handed = round.handed + 1; waiting = without_page (due round) round.waiting } else round

-- where there is none all stays
pub after_next-none : (round : Round) → next round ≡ None → after_next round ≡ round
after_next-none round none = ap (next_by round) none

-- the page that is handed out next is that in the slot of its number
pub next-slot : (slots : List (Option Page)) (first count handed : ℕ) (slot : Option Page) → slice_index_or slots handed None ≡ slot →
    next (round_in slots first count handed) ≡ option_map (numbered (first + handed)) slot
next-slot slots first count handed slot is = page_of-slot first handed slots ∙ ap (option_map (numbered (first + handed))) is

-- and leaves its slot empty
pub round_in-next : (slots : List (Option Page)) (first count handed : ℕ) (page : Page) → slice_index_or slots handed None ≡ Some page →
    round_in (slice_set slots handed None) first count (handed + 1) ≡ after_next (round_in slots first count handed)
round_in-next slots first count handed page is =
    let round = round_in slots first count handed in
    ap (λ size. record (round_in (slice_set slots handed None) first count (handed + 1)) { capacity = size }) (length-set slots handed None)
    ∙ ap (λ pages. record round { handed = handed + 1; waiting = pages }) (sym (without_page-slot first handed slots))
    ∙ sym (ap (next_by round) (next-slot slots first count handed (Some page) is))

-- a slot that is empty stays so
pub round_in-stays : (slots : List (Option Page)) (first count handed : ℕ) → slice_index_or slots handed None ≡ None →
    round_in (slice_set slots handed None) first count handed ≡ round_in slots first count handed
round_in-stays slots first count handed empty =
    ap (λ kept. round_in kept first count handed)
    (subst (λ (slot : Option Page). slice_set slots handed slot ≡ slots) empty (set-get_or slots handed None))
