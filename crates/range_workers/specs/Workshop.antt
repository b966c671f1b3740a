-- The workers of a job between rounds, as they go out, and as they come back.
use Rattle.std.specs.Prelude.{◌≡◌, ◌+◌, ◌-◌, ◌*◌, ◌≤◌, ◌<◌, ℕ, All, List, [], length, vec_capacity}
use Rattle.range_workers.specs.declared.work.Bench.{Bench}
use Rattle.range_workers.specs.declared.work.RoundClaims.{RoundClaims}
use Rattle.range_workers.specs.declared.workshop.Workshop.{Workshop}
use Rattle.range_workers.specs.declared.view.View.TheVariants.{Caller}
use Rattle.range_workers.specs.Round.{CanWork, HasRoom, IsPageOf, numbers_of}
use Rattle.range_workers.specs.Rule.{AreAllBelow, times}
use Rattle.range_workers.specs.Seats.{IsSeatOf, view}
use Rattle.range_workers.specs.Views.{numbers}

-- a bench with no page, and with room for eight of either kind
pub record IsCleared (bench : Bench) : Type 0 where
  pub blank : bench.blank.items ≡ []
  pub made : bench.made.items ≡ []
  pub blank_fit : 8 ≤ vec_capacity bench.blank
  pub made_fit : 8 ≤ vec_capacity bench.made

-- what holds of a workshop at all times
pub record IsStaffed (shop : Workshop) : Type 0 where
  pub seat : IsSeatOf shop.claims shop.seat
  pub knows : view shop.seat ≡ Caller (numbers (view shop.seat)) (length shop.workers.items)
  pub all : length shop.benches.items + length shop.workers.items ≡ shop.count
  pub few : shop.count ≤ 64
  pub cleared : All IsCleared shop.benches.items
  pub rooms : All (HasRoom shop.room) shop.pages.items
  pub benches_fit : shop.count ≤ vec_capacity shop.benches
  pub workers_fit : shop.count ≤ vec_capacity shop.workers
  pub pages_fit : 8 * shop.count ≤ vec_capacity shop.pages
  pub made_fit : 8 * shop.count ≤ vec_capacity shop.made

-- it is the same one, with as many workers and with pages of the same room
pub record IsSameShop (old new : Workshop) : Type 0 where
  pub claims : new.claims ≡ old.claims
  pub room : new.room ≡ old.room
  pub count : new.count ≡ old.count

-- how many numbers the caller has
abbrev pub had : Workshop → ℕ
had shop = length (numbers (view shop.seat))

-- no worker is out, no page holds what is wanted, and all are there
pub record IsAtRest (shop : Workshop) : Type 0 where
  pub staffed : IsStaffed shop
  pub in_house : length shop.workers.items ≡ 0
  pub none : shop.made.items ≡ []
  pub pages : length shop.pages.items ≡ 8 * shop.count

-- workers go out, each with eight pages
pub record IsGoingOut (shop : Workshop) : Type 0 where
  pub staffed : IsStaffed shop
  pub out : All (CanWork shop.claims shop.room (had shop)) shop.workers.items
  pub none : shop.made.items ≡ []
  pub pages : length shop.pages.items + 8 * length shop.workers.items ≡ 8 * shop.count

-- all are back, and one page for each number of the round is there, when so many numbers were claimed
pub record HasMade (text : ℕ → List ℕ) (round : RoundClaims) (claimed : ℕ) (shop : Workshop) : Type 0 where
  pub staffed : IsStaffed shop
  pub in_house : length shop.workers.items ≡ 0
  pub made : All (IsPageOf text shop.room round) shop.made.items
  pub each : (c : ℕ) → round.base ≤ c → c < round.end → times c (numbers_of shop.made.items) ≡ 1
  pub pages : length shop.pages.items + (round.end - round.base) ≡ 8 * shop.count
  pub all : AreAllBelow claimed (numbers (view shop.seat))
  pub most : claimed ≤ round.base + 8 * shop.count
