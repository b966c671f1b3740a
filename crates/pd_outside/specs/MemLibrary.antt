-- How a library in memory keeps what it holds.
use Rattle.std.specs.Prelude.{ℕ, ◌<◌, ◌≤◌, List, [], map, drop, unwrap_or, length, string_bytes}
use Rattle.std.specs.Option.{option_map, ForSome}
use Rattle.pd_outside.specs.Files.{File, file_at}
use Rattle.pd_outside.specs.InMemory.{Reading}
use Rattle.pd_outside.specs.declared.mem_library.Started.{Started}
use Rattle.pd_outside.specs.declared.mem_library.MemLibrary.TheInside.{Inside}

-- the name of the started file, and its bytes from the place on
abbrev pub name_of : List File → Started → List ℕ
name_of files started = (file_at files started.file).name

abbrev pub rest_of : List File → Started → List ℕ
rest_of files started = drop started.place (file_at files started.file).bytes

-- the place is one of a file
pub record IsIn (files : List File) (started : Started) : Type 0 where
  pub file : started.file < length files
  pub place : started.place ≤ length (file_at files started.file).bytes

abbrev pub reading_of : Inside → Reading
reading_of library = record {
  content = record { files = library.files; started = option_map (rest_of library.files) library.started };
  name = unwrap_or (option_map (name_of library.files) library.started) [];
  calls = unwrap_or (option_map (λ (s : Started). s.calls) library.started) 0;
  fails = library.fails;
  asked = map string_bytes library.asked.items;
  taken = library.taken;
  faults = library.faults;
}

-- what is left of the started file begins within it
abbrev pub IsAtPlace : Inside → Type 0
IsAtPlace library = ForSome library.started (IsIn library.files)
