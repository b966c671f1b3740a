-- The files that are written: what a Shelf holds where it tells it, and what its calls do to that.
use Rattle.std.specs.Prelude.{◌≡◌, ◌≤◌, ℕ, List, [], ◌∷◌, ◌++◌, length, take, Option, Some, None, unwrap_or, ⊤}
use Rattle.std.specs.Option.{option_map, option_to_list}
use Rattle.pd_outside.specs.Files.{File}

-- the finished files in order, and the begun one with its bytes so far
pub record Held : Type 0 where
  pub finished : List File
  pub begun : Option File

-- the bytes of the begun file
abbrev pub bytes_begun : Held → List ℕ
bytes_begun held = unwrap_or (option_map (λ (file : File). file.bytes) held.begun) []

-- a file of this name is begun, and empty
abbrev pub begin_file : List ℕ → Held → Held
begin_file name held = record held { begun = Some (record { name = name; bytes = [] }) }

-- these bytes are appended to the begun file
abbrev pub append_bytes : List ℕ → Held → Held
append_bytes piece held =
    record held { begun = option_map (λ (file : File). record file { bytes = file.bytes ++ piece }) held.begun }

-- the begun file is the last finished one
abbrev pub end_file : Held → Held
end_file held = record { finished = held.finished ++ option_to_list held.begun; begun = None }

-- these files were finished, and none is begun
abbrev pub finish_files : List File → Held → Held
finish_files files held = record { finished = held.finished ++ files; begun = None }

-- a prefix of these bytes was appended
pub record AppendedPrefixOf (bytes : List ℕ) (before now : Option Held) : Type 0 where
  pub count : ℕ
  pub within : count ≤ length bytes
  pub appended : now ≡ option_map (append_bytes (take count bytes)) before

-- what is begun is a prefix of the next file that is due
abbrev pub IsPrefixOfNext : List File → Option File → Type 0
IsPrefixOfNext due None = ⊤
IsPrefixOfNext [] (Some file) = ⊥
IsPrefixOfNext (next ∷ due) (Some file) = (file.name ≡ next.name) × ((rest : List ℕ) × (next.bytes ≡ file.bytes ++ rest))

-- The shelf holds a prefix of the due files: those finished meanwhile are the first of them, in order, and what is
-- begun is a prefix of the next.
pub record HoldsPrefixOf (due : List File) (before now : Option Held) : Type 0 where
  pub done : List File
  pub rest : List File
  pub begun : Option File
  pub parts : due ≡ done ++ rest
  pub prefix : IsPrefixOfNext rest begun
  pub held : now ≡ option_map (λ (h : Held). record { finished = h.finished ++ done; begun = begun }) before
