-- A crew between two packages.
use Rattle.std.specs.Prelude.{◌≡◌, ◌+◌, ◌-◌, ◌*◌, ◌≤◌, ◌<◌, ◌⊎◌, ℕ, All, List, [], length, slice_index_or}
use Rattle.line_pages.specs.Pages.{Page}
use Rattle.ordered_sink.specs.declared.offers.Numbered.{Numbered}
use Rattle.ordered_sink.specs.Ordered.{Round}
use Rattle.range_workers.specs.declared.crew.Crew.{Crew}
use Rattle.range_workers.specs.declared.work.RoundClaims.{RoundClaims}
use Rattle.range_workers.specs.Round.{IsPageOf, numbers_of}
use Rattle.range_workers.specs.Rule.{AreAllBelow, times}
use Rattle.range_workers.specs.Seats.{view}
use Rattle.range_workers.specs.Views.{numbers}
use Rattle.range_workers.specs.Workshop.{IsStaffed}

-- each number of the round has its page, among those that are to be offered or those that wait
pub record IsOffering (text : ℕ → List ℕ) (room : ℕ) (round : RoundClaims) (offers : List Numbered) (ordered : Round) : Type 0 where
  pub first : ordered.first ≡ round.base
  pub count : round.base + ordered.count ≡ round.end
  pub handed : ordered.handed ≡ 0
  pub made : All (IsPageOf text room round) offers
  pub waiting : All (IsPageOf text room round) ordered.waiting
  pub each : (c : ℕ) → round.base ≤ c → c < round.end → times c (numbers_of offers) + times c (numbers_of ordered.waiting) ≡ 1

-- the page that was handed out last; an empty one where there is none
abbrev pub last_page : Crew → Page
last_page crew = slice_index_or crew.shop.pages.items (length crew.shop.pages.items - 1) (record { text = []; room = 0 })

-- The crew's next package is this one. No worker is out, and of the round each page that wasn't handed out waits.
pub record IsCrewAt (text : ℕ → List ℕ) (count room n : ℕ) (crew : Crew) : Type 0 where
  pub staffed : IsStaffed crew.shop
  pub in_house : length crew.shop.workers.items ≡ 0
  pub none : crew.shop.made.items ≡ []
  pub rooms : crew.shop.room ≡ room
  pub some : 0 < crew.shop.count
  pub claimed : AreAllBelow crew.claimed (numbers (view crew.shop.seat))
  pub capacity : crew.ordered.capacity ≡ 4 * crew.shop.count
  pub first : crew.ordered.first ≡ crew.round.base
  pub part : crew.round.base + crew.ordered.count ≡ crew.round.end
  pub handed : crew.ordered.handed ≤ crew.ordered.count
  pub at : n ≡ crew.round.first + crew.ordered.handed
  pub pages : length crew.shop.pages.items + crew.ordered.count ≡ 8 * crew.shop.count + crew.ordered.handed
  pub waiting : All (IsPageOf text crew.shop.room crew.round) crew.ordered.waiting
  pub each : (c : ℕ) → crew.round.base + crew.ordered.handed ≤ c → c < crew.round.end → times c (numbers_of crew.ordered.waiting) ≡ 1
  pub far : (crew.claimed ≤ 2 * (crew.round.first + crew.ordered.count)) ⊎ (count ≤ crew.round.first + crew.ordered.count)
