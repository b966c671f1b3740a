-- The shares of a job, as the code keeps them.
use Rattle.std.specs.Prelude.{◌≡◌, ◌<◌, ◌≤◌, ℕ, ◌+◌, ◌*◌, ◌^◌, List, [], All, length, map, min, slice_index_or, take}
use Rattle.std.specs.List.{sum_by}
use Rattle.schema_facts.specs.Dictionaries.{Project}
use Rattle.life_intervals.specs.Generator.{last_unit}
use Rattle.row_lines.specs.Runs.{RunLinesOf, run_text}
use Rattle.update_box.specs.Packages.{Packages, Share, count_of, packages_in, room_of}
use Rattle.update_box.specs.Parts.{Part, entries_in}
use Rattle.update_box.specs.Prepared.{ArePrepared, IsAmong, Prepared}
use Rattle.update_box.specs.TableLists.{HasLists}
use Rattle.update_box.specs.UnitLists.{UnitLists}
use Rattle.update_box.specs.declared.parts.Content.TheVariants as content
use Rattle.update_box.specs.declared.shares.Entries.{Entries}
use Rattle.update_box.specs.declared.shares.KeptShare.{KeptShare}
use Rattle.update_box.specs.declared.shares.Shares.{Shares}

-- the part, and the share
abbrev pub kept_part : KeptShare → Part
kept_part kept = record { place = kept.place; content = kept.content }

abbrev pub kept_share : KeptShare → Share
kept_share kept = record { part = kept_part kept; first = kept.first; end = kept.end }

-- share number i, counted from 0
abbrev pub kept_at : List KeptShare → ℕ → KeptShare
kept_at shares i = slice_index_or shares i (record { place = 0; content = content.Snapshot; first = 0; end = 0; packages = 0; living = 0 })

-- how many packages the shares have
abbrev pub packages_kept : List KeptShare → ℕ
packages_kept shares = sum_by (λ (kept : KeptShare). kept.packages) shares

-- the lines of a table at a unit
abbrev pub lines_at : Project → ℕ → ℕ → RunLinesOf
lines_at plan unit place = record { plan = plan; table = place; unit = unit }

-- a share has as many packages of so many entries as it is cut into
abbrev pub HasPackages : ℕ → KeptShare → Type 0
HasPackages size kept = kept.packages ≡ packages_in size (kept_share kept)

-- and ends after its begin
pub record IsCut (size : ℕ) (kept : KeptShare) : Type 0 where
  pub ordered : kept.first ≤ kept.end
  pub few : kept.end ≤ 2 ^ 40
  pub packages : HasPackages size kept

-- a share is one of a prepared table's entries at a unit
pub record IsKeptShare (plan : Project) (tables : Prepared) (unit size : ℕ) (kept : KeptShare) : Type 0 where
  pub among : IsAmong tables kept.place
  pub within : kept.end ≤ entries_in plan unit (kept_part kept)
  pub cut : IsCut size kept

-- a share of a snapshot, and none of the rows before the first that may be alive is
pub record IsSnapshot (plan : Project) (unit : ℕ) (kept : KeptShare) : Type 0 where
  pub content : kept.content ≡ content.Snapshot
  pub living : run_text (lines_at plan unit kept.place) 0 kept.living ≡ []

-- shares as they are kept, with their number of packages and the room that these want
abbrev pub packages_by : Project → ℕ → Shares → Packages
packages_by plan unit shares = record { plan = plan; unit = unit; size = shares.size; shares = map kept_share shares.kept.items }

pub record AreKeptShares (plan : Project) (tables : Prepared) (unit : ℕ) (shares : Shares) : Type 0 where
  pub prepared : ArePrepared plan tables
  pub reached : unit ≤ last_unit plan
  pub some_entry : 1 ≤ shares.size
  pub size_limit : shares.size ≤ 1000000
  pub some_share : 1 ≤ length shares.kept.items
  pub each : All (IsKeptShare plan tables unit shares.size) shares.kept.items
  pub count : shares.count ≡ count_of (packages_by plan unit shares)
  pub kept_count : shares.count ≡ packages_kept shares.kept.items
  pub most : shares.count ≤ 2 ^ 60
  pub room : shares.room ≡ room_of (packages_by plan unit shares)

-- these entries of a share are the package of a number
pub record IsPackage (shares : Shares) (n : ℕ) (kept : KeptShare) (entries : Entries) : Type 0 where
  pub share : ℕ
  pub number : ℕ
  pub there : share < length shares.kept.items
  pub is : kept ≡ kept_at shares.kept.items share
  pub inside : number < kept.packages
  pub before : n ≡ packages_kept (take share shares.kept.items) + number
  pub first : entries.first ≡ kept.first + number * shares.size
  pub end : entries.end ≡ min kept.end (kept.first + (number + 1) * shares.size)
  pub ordered : entries.first ≤ entries.end

-- the lists of a share's table are the plan's
abbrev pub HasItsLists : Project → ℕ → UnitLists → KeptShare → Type 0
HasItsLists plan unit lists kept = HasLists plan unit lists kept.place
