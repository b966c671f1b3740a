-- The files that are read: what a Library holds where it tells it, and what its calls do to that.
use Rattle.std.specs.Prelude.{◌≡◌, ◌≤◌, ◌⊎◌, ℕ, List, [], ◌∷◌, ◌++◌, length, take, drop, Option, Some, None, unwrap_or}
use Rattle.std.specs.Option.{option_map}
use Rattle.pd_outside.specs.Files.{File, bytes_of}

-- the files, and the bytes that are left of the started one
pub record Content : Type 0 where
  pub files : List File
  pub started : Option (List ℕ)

-- the bytes left of the started file
abbrev pub left : Content → List ℕ
left content = unwrap_or content.started []

-- the file of this name is started: all its bytes are left
abbrev pub start_file : List ℕ → Content → Content
start_file name content =
    record content { started = Some (bytes_of content.files name) }

-- the first n bytes left are taken
abbrev pub take_bytes : ℕ → Content → Content
take_bytes n content =
    record content { started = option_map (drop n) content.started }

-- no file is started
abbrev pub stop : Content → Content
stop content = record content { started = None }

-- a file was started and read to its end
abbrev pub read_out : Content → Content
read_out content = record content { started = Some [] }

-- a read gave the first n of the bytes left, and gave none at their end alone
pub record ReadsPrefix (bytes : List ℕ) (n : ℕ) (into : List ℕ) : Type 0 where
  pub within : n ≤ length bytes
  pub prefix : take n into ≡ take n bytes
  pub none_at_end : n ≡ 0 → bytes ≡ []

-- one more name was asked
abbrev pub ask : List ℕ → Option (List (List ℕ)) → Option (List (List ℕ))
ask name = option_map (λ names. names ++ name ∷ [])

-- this name was asked once, or nothing was
abbrev pub AskedAtMost : List ℕ → Option (List (List ℕ)) → Option (List (List ℕ)) → Type 0
AskedAtMost name before now = (now ≡ ask name before) ⊎ (now ≡ before)

-- the names asked meanwhile are the first ones of this list, in order
pub record AskedPrefixOf (list : List (List ℕ)) (before now : Option (List (List ℕ))) : Type 0 where
  pub count : ℕ
  pub asked : now ≡ option_map (λ names. names ++ take count list) before
