-- The calls of a round in turn, and the pages that they hand out.
use Rattle.std.specs.Prelude.{ℕ, ◌++◌, ◌==◌, List, [], ◌∷◌, if◌then◌else◌, map}
use Rattle.std.specs.List.{range_with_len}
use Rattle.std.specs.Option.{option_to_list}
use Rattle.line_pages.specs.Pages.{Page}
use Rattle.ordered_sink.specs.declared.offers.Numbered.{Numbered}
use Rattle.ordered_sink.specs.Ordered.{Round, after_next, after_offer, next}

-- a page is offered under a number, or the next one is asked for
pub data Call : Type 0 where
  Offer : ℕ → Page → Call
  Next : Call

abbrev pub after_call : Call → Round → Round
after_call (Offer n page) round = after_offer round n page
after_call Next round = after_next round

-- the pages that a call hands out: one or none
abbrev pub gives : Call → Round → List Numbered
gives (Offer n page) round = []
gives Next round = option_to_list (next round)

-- the round after calls
abbrev pub after : List Call → Round → Round
after [] round = round
after (call ∷ calls) round = after calls (after_call call round)

-- the pages that they hand out, in turn
abbrev pub handed_out : List Call → Round → List Numbered
handed_out [] round = []
handed_out (call ∷ calls) round = gives call round ++ handed_out calls (after_call call round)

-- the first page that is offered under a number; an empty one where none is
abbrev pub first_offered : List Call → ℕ → Page
first_offered [] n = record { text = []; room = 0 }
first_offered (Offer m page ∷ calls) n = if m == n then page else first_offered calls n
first_offered (Next ∷ calls) n = first_offered calls n

-- the pages of so many numbers from one on, in the order of the numbers
abbrev pub in_order : (ℕ → Page) → ℕ → ℕ → List Numbered
in_order page first count = map (λ n. record { n = n; page = page n }) (range_with_len first count)
