-- Rounds of pages, which are offered in any order and handed out in the order of their numbers.
use Rattle.std.specs.Prelude.{◌+◌, ◌==◌, ◌&&◌, ◌||◌, ℕ, Bool, List, [], ◌∷◌, Option, Result, Ok, Err, filter, find, if◌then◌else◌, is_ok, is_some, nat_le, nat_lt, not}
use Rattle.line_pages.specs.Pages.{Page}
use Rattle.ordered_sink.specs.declared.offers.Missing.{Missing}
use Rattle.ordered_sink.specs.declared.offers.Numbered.{Numbered}
use Rattle.ordered_sink.specs.declared.offers.Refused.{Refused}
use Rattle.ordered_sink.specs.declared.offers.Refused.TheVariants.{Beyond, Taken}

-- a round, as far as it came
pub record Round : Type 0 where
  -- the most numbers that a round may have
  pub capacity : ℕ
  -- the numbers of the round: the least one, and how many they are
  pub first : ℕ
  pub count : ℕ
  -- the pages of how many of them were handed out
  pub handed : ℕ
  -- the pages that were offered and not handed out yet, in rising order of their numbers
  pub waiting : List Numbered

-- before the first round
abbrev pub no_round : ℕ → Round
no_round capacity = record { capacity = capacity; first = 0; count = 0; handed = 0; waiting = [] }

-- the round of so many numbers from a first one on
abbrev pub begun : Round → ℕ → ℕ → Round
begun round first count = record round { first = first; count = count; handed = 0; waiting = [] }

-- the least number whose page wasn't handed out
abbrev pub due : Round → ℕ
due round = round.first + round.handed

-- whether a number is one of the round's
abbrev pub has_number : Round → ℕ → Bool
has_number round n = nat_le round.first n && nat_lt n (round.first + round.count)

-- the page of a number
abbrev pub page_of : ℕ → List Numbered → Option Numbered
page_of n pages = find (λ (page : Numbered). page.n == n) pages

-- whether a number of the round was offered: its page was handed out, or waits
abbrev pub was_offered : Round → ℕ → Bool
was_offered round n = nat_lt n (due round) || is_some (page_of n round.waiting)

-- pages and one more, in rising order
abbrev pub with_page : Numbered → List Numbered → List Numbered
with_page new [] = new ∷ []
with_page new (page ∷ pages) = if nat_lt new.n page.n then new ∷ (page ∷ pages) else page ∷ with_page new pages

-- pages but that of a number
abbrev pub without_page : ℕ → List Numbered → List Numbered
without_page n pages = filter (λ (page : Numbered). not (page.n == n)) pages

-- what is told of an offer; a page that isn't taken comes back
abbrev pub answer : Round → ℕ → Page → Result (Unit {0}) Refused
answer round n page =
    if not (has_number round n) then Err (Beyond page)
    else if was_offered round n then Err (Taken page)
    else Ok tt

abbrev pub after_offer : Round → ℕ → Page → Round
after_offer round n page =
    if is_ok (answer round n page) then record round { waiting = with_page (record { n = n; page = page }) round.waiting }
    else round

-- the page that is handed out next, if it waits
abbrev pub next : Round → Option Numbered
next round = page_of (due round) round.waiting

abbrev pub after_next : Round → Round
after_next round =
    if is_some (next round) then record round { handed = round.handed + 1; waiting = without_page (due round) round.waiting }
    else round

-- whether all pages were handed out, or the least number whose page wasn't
abbrev pub finished : Round → Result (Unit {0}) Missing
finished round = if round.handed == round.count then Ok tt else Err (record { first = due round })
