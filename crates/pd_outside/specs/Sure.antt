-- How a library that never fails keeps what it holds.
use Rattle.std.specs.Prelude.{◌<◌, ◌≤◌, ℕ, List, [], Option, Some, None, drop, length}
use Rattle.std.specs.Option.{ForSome, option_map}
use Rattle.pd_outside.specs.Files.{File, file_at}
use Rattle.pd_outside.specs.Library.{Content}
use Rattle.pd_outside.specs.declared.sure.Opened.{Opened}
use Rattle.pd_outside.specs.declared.sure.SureLibrary.TheInside.{Inside}

-- what it holds, and how many bytes were taken
pub record SureReading : Type 0 where
  pub content : Content
  pub taken : ℕ

-- the bytes of the file of a number from a place on; none where no file has the name
abbrev pub left_of_file : List File → Option ℕ → ℕ → List ℕ
left_of_file files None place = []
left_of_file files (Some number) place = drop place (file_at files number).bytes

abbrev pub left_of : List File → Opened → List ℕ
left_of files opened = left_of_file files opened.file opened.place

-- the place is one of the file of a number
abbrev pub IsPlaceOf : List File → Option ℕ → ℕ → Type 0
IsPlaceOf files None place = place ≤ 0
IsPlaceOf files (Some number) place = (number < length files) × (place ≤ length (file_at files number).bytes)

abbrev pub IsOpened : List File → Opened → Type 0
IsOpened files opened = IsPlaceOf files opened.file opened.place

abbrev pub sure_reading : Inside → SureReading
sure_reading library = record {
  content = record { files = library.files; started = option_map (left_of library.files) library.started };
  taken = library.taken;
}

-- what is left of the started file begins within it
abbrev pub AreAtPlace : Inside → Type 0
AreAtPlace library = ForSome library.started (IsOpened library.files)
