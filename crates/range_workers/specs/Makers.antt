-- Who makes the packages of a job: the caller alone, or a crew.
use Rattle.std.specs.Prelude.{◌≡◌, ◌<◌, ℕ, List, length, ⊤}
use Rattle.range_workers.specs.declared.makers.Makers.{Makers}
use Rattle.range_workers.specs.declared.makers.Makers.TheVariants.{Alone, Several}
use Rattle.range_workers.specs.Crew.{IsCrewAt, last_page}

-- they can make the package of this number next, where the packages have these texts, and pages this room
abbrev pub IsReadyToMake : (ℕ → List ℕ) → ℕ → ℕ → ℕ → Makers → Type 0
IsReadyToMake text count room n (Alone page) = page.room ≡ room
IsReadyToMake text count room n (Several crew) = IsCrewAt text count room n crew

-- a package was made
abbrev pub HasText : Makers → Type 0
HasText (Alone page) = ⊤
HasText (Several crew) = 0 < length crew.shop.pages.items

-- the text of the package that was made last
abbrev pub text_made : Makers → List ℕ
text_made (Alone page) = page.text
text_made (Several crew) = (last_page crew).text
