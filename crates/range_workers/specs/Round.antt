-- What workers have before a round and after it.
use Rattle.std.specs.Prelude.{◌≡◌, ◌+◌, ◌-◌, ◌≤◌, ◌<◌, ◌^◌, ℕ, All, List, [], length, map, vec_capacity}
use Rattle.line_pages.specs.Pages.{Page}
use Rattle.ordered_sink.specs.declared.offers.Numbered.{Numbered}
use Rattle.range_workers.specs.declared.claims.Claims.{Claims}
use Rattle.range_workers.specs.declared.work.RoundClaims.{RoundClaims}
use Rattle.range_workers.specs.declared.work.RoundWorker.{RoundWorker}
use Rattle.range_workers.specs.declared.view.View.TheVariants.{Worker}
use Rattle.range_workers.specs.Rule.{IsDone, times}
use Rattle.range_workers.specs.Seats.{IsSeatOf, view}
use Rattle.range_workers.specs.Views.{numbers}

-- a round whose packages are within the count of all, and whose claims are far from the end of their type
pub record IsRoundOf (count : ℕ) (round : RoundClaims) : Type 0 where
  pub some : round.base < round.end
  pub within : round.first + (round.end - round.base) ≤ count
  pub few : count ≤ 2 ^ 60
  pub low : round.base ≤ 2 ^ 61

-- the package that a claim of the round stands for
abbrev pub package_of_claim : RoundClaims → ℕ → ℕ
package_of_claim round claim = round.first + (claim - round.base)

-- a claim of the round, and the page of the package that it stands for
pub record IsPageOf (text : ℕ → List ℕ) (room : ℕ) (round : RoundClaims) (page : Numbered) : Type 0 where
  pub from : round.base ≤ page.n
  pub below : page.n < round.end
  pub is : page.page ≡ record { text = text (package_of_claim round page.n); room = room }

-- the numbers of pages
abbrev pub numbers_of : List Numbered → List ℕ
numbers_of pages = map (λ page. page.n) pages

abbrev pub HasRoom : ℕ → Page → Type 0
HasRoom room page = page.room ≡ room

-- a worker that has claimed nothing yet, and won't claim a number below a base, with eight blank pages
pub record CanWork (claims : Claims) (room base : ℕ) (worker : RoundWorker) : Type 0 where
  pub seat : IsSeatOf claims worker.seat
  pub knows : view worker.seat ≡ Worker [] base
  pub pages : length worker.bench.blank.items ≡ 8
  pub rooms : All (HasRoom room) worker.bench.blank.items
  pub none : worker.bench.made.items ≡ []
  pub blank_fit : 8 ≤ vec_capacity worker.bench.blank
  pub made_fit : 8 ≤ vec_capacity worker.bench.made

-- a worker that claims no more in the round, with the page of each number that it claimed, up to the round's end
pub record HasWorked (claims : Claims) (text : ℕ → List ℕ) (room : ℕ) (round : RoundClaims) (worker : RoundWorker) : Type 0 where
  pub seat : IsSeatOf claims worker.seat
  pub knows : view worker.seat ≡ Worker (numbers (view worker.seat)) round.base
  pub done : IsDone round.end (view worker.seat)
  pub few : length (numbers (view worker.seat)) ≤ 8
  pub made : All (IsPageOf text room round) worker.bench.made.items
  pub each : (c : ℕ) → c < round.end → times c (numbers (view worker.seat)) ≡ times c (numbers_of worker.bench.made.items)
  pub pages : length worker.bench.blank.items + length worker.bench.made.items ≡ 8
  pub rooms : All (HasRoom room) worker.bench.blank.items
  pub blank_fit : 8 ≤ vec_capacity worker.bench.blank
  pub made_fit : 8 ≤ vec_capacity worker.bench.made
