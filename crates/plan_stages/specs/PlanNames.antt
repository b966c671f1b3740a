-- The names that a plan asks of a library, each in its turn.
use Rattle.std.specs.Prelude.{◌≡◌, ◌≤◌, ℕ, nat_lt, List, [], ◌∷◌, ◌++◌, length, Option, Some, None, Result, Ok, Err, IfSome, is_ok, if◌then◌else◌}
use Rattle.std.specs.Option.{option_map}
use Rattle.std.specs.Result.{result_unwrap_or}
use Rattle.pd_outside.specs.Files.{File, bytes_of}
use Rattle.pd_outside.specs.Library.{AskedPrefixOf}
use Rattle.schema_model.specs.declared.table.Schema.{Schema}
use Rattle.schema_read.specs.Schema.{schema_of}
use Rattle.plan_stages.specs.DictionaryFiles.{words_in}
use Rattle.plan_stages.specs.Limits.{schema_limit}
use Rattle.plan_stages.specs.Plans.{citations_of}

-- ---- what a schema's text asks for

-- the dictionaries that a schema cites; none where it is at fault by itself
abbrev pub cited_by : Schema → List (List ℕ)
cited_by schema = result_unwrap_or (citations_of schema) []

-- those that what was read of a text cites
abbrev pub cited_by_read : {F : Type 0} → Result Schema F → List (List ℕ)
cited_by_read (Err fault) = []
cited_by_read (Ok schema) = cited_by schema

-- those that a schema's text cites, where it isn't too long
abbrev pub cited_in : List ℕ → List (List ℕ)
cited_in bytes = if nat_lt schema_limit (length bytes) then [] else cited_by_read (schema_of bytes)

-- names up to and with the first whose file gives no dictionary
abbrev pub up_to_fault : List File → List (List ℕ) → List (List ℕ)
up_to_fault files [] = []
up_to_fault files (name ∷ names) = name ∷ (if is_ok (words_in files name) then up_to_fault files names else [])

-- the names that a schema's name asks for over files: itself, then those of the dictionaries that it cites, up to and with the first
-- that is at fault
abbrev pub plan_names : List File → List ℕ → List (List ℕ)
plan_names files name = name ∷ up_to_fault files (cited_in (bytes_of files name))

-- the names that it may ask for where its file has these bytes
abbrev pub possible_names : List ℕ → List ℕ → List (List ℕ)
possible_names bytes name = name ∷ cited_in bytes

-- ---- what was asked

-- Of a schema's dictionaries the first were asked for, in their order; where files are told, none after the first at fault.
pub record AsksNames (names : List (List ℕ)) (files : Option (List File)) (before now : Option (List (List ℕ))) : Type 0 where
  pub told : IfSome files (λ (f : List File). AskedPrefixOf (up_to_fault f names) before now)
  pub untold : AskedPrefixOf names before now

-- Of a schema's name and its dictionaries' the first were asked for, in their order, where files are told; and they are always the first
-- of those that may be asked for, given some bytes of the schema.
pub record AsksForPlan (name : List ℕ) (files : Option (List File)) (before now : Option (List (List ℕ))) : Type 0 where
  pub told : IfSome files (λ (f : List File). AskedPrefixOf (plan_names f name) before now)
  pub bytes : List ℕ
  pub untold : AskedPrefixOf (possible_names bytes name) before now

-- A plan was made of a schema's name: its text was read, and all names that it asks for were asked, each in turn.
pub record PlanRead (schema : Schema) (name : List ℕ) (files : Option (List File)) (before now : Option (List (List ℕ))) : Type 0 where
  pub bytes : List ℕ
  pub within : length bytes ≤ schema_limit
  pub read : schema_of bytes ≡ Ok schema
  pub told : IfSome files (λ (f : List File). plan_names f name ≡ possible_names bytes name)
  pub asked : now ≡ option_map (λ names. names ++ possible_names bytes name) before

-- names are told, and none was asked meanwhile
abbrev pub AskedNone : Option (List (List ℕ)) → Option (List (List ℕ)) → Type 0
AskedNone None now = ⊥
AskedNone (Some names) now = now ≡ Some names

-- names are told, and this one alone was asked meanwhile
abbrev pub AskedAlone : List ℕ → Option (List (List ℕ)) → Option (List (List ℕ)) → Type 0
AskedAlone name None now = ⊥
AskedAlone name (Some names) now = now ≡ Some (names ++ name ∷ [])
