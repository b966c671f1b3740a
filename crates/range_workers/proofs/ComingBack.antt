-- The workers of a round as they come back.
use Rattle.std.specs.Prelude.{◌≡◌, ◌+◌, ◌*◌, ◌≤◌, ◌<◌, ◌⊎◌, ℕ, All, Any, List, length}
use Rattle.range_workers.specs.declared.work.RoundClaims.{RoundClaims}
use Rattle.range_workers.specs.declared.workshop.Workshop.{Workshop}
use Rattle.range_workers.specs.Round.{HasWorked, IsPageOf, numbers_of}
use Rattle.range_workers.specs.Rule.{once_below, times}
use Rattle.range_workers.specs.Seats.{view}
use Rattle.range_workers.specs.Views.{numbers}
use Rattle.range_workers.specs.Workshop.{IsStaffed, had}

-- workers come back. The caller has as many numbers and pages as those who are back had, each number below the round's end is one of
-- the round before or that of a page, and all who are back had eight numbers or one of them passed the end.
pub record IsComingBack (text : ℕ → List ℕ) (round : RoundClaims) (shop : Workshop) : Type 0 where
  pub staffed : IsStaffed shop
  pub out : All (HasWorked shop.claims text shop.room round) shop.workers.items
  pub made : All (IsPageOf text shop.room round) shop.made.items
  pub pages : length shop.pages.items + length shop.made.items + 8 * length shop.workers.items ≡ 8 * shop.count
  pub each : (c : ℕ) → c < round.end → times c (numbers (view shop.seat)) ≡ once_below round.base c + times c (numbers_of shop.made.items)
  pub most : had shop + 8 * length shop.workers.items ≤ round.base + 8 * shop.count
  pub done : (had shop + 8 * length shop.workers.items ≡ round.base + 8 * shop.count) ⊎ Any (λ n. round.end ≤ n) (numbers (view shop.seat))
