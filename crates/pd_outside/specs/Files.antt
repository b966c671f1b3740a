-- Files as a list of name and bytes, as a Library reads them and a Shelf finishes them.
use Rattle.std.specs.Prelude.{ℕ, List, [], ◌∷◌, Option, Some, None, unwrap_or, slice_index_or, if◌then◌else◌}
use Rattle.std.specs.Str.{bytes_eq}

-- a file: the bytes of its name, and its own
pub record File : Type 0 where
  pub name : List ℕ
  pub bytes : List ℕ

-- the bytes of the first file of this name, or None where no file has it
abbrev pub file_named : List File → List ℕ → Option (List ℕ)
file_named [] name = None
file_named (file ∷ files) name =
    if bytes_eq file.name name then Some file.bytes else file_named files name

-- the bytes that a name stands for: an absent file is empty
abbrev pub bytes_of : List File → List ℕ → List ℕ
bytes_of files name = unwrap_or (file_named files name) []

-- file number i, counted from 0
abbrev pub file_at : List File → ℕ → File
file_at files i = slice_index_or files i (record { name = []; bytes = [] })
