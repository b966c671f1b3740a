-- Files that are read one after the other, with a limit of the bytes of all.
use Rattle.std.specs.Prelude.{◌≡◌, ◌<◌, ◌≤◌, ◌⊎◌, ℕ, ◌+◌, nat_lt, List, [], ◌∷◌, ◌++◌, length, map, sum_by, take, Bool, Option, Some, None, Result, Ok, Err, IfSome, if◌then◌else◌}
use Rattle.std.specs.Option.{option_map}
use Rattle.pd_outside.specs.Faults.{Counts, Unfailed}
use Rattle.pd_outside.specs.Files.{File, bytes_of}
use Rattle.pd_outside.specs.Library.{Content, read_out}
use Rattle.pd_outside.specs.declared.faults.ReadFault.{ReadFault}
use Rattle.pd_outside.specs.declared.faults.ReadFault.TheVariants.{TooLong}
use Rattle.refusals.specs.Statuses.{reading_status}
use Rattle.plan_stages.specs.Stages.{told_files, LibraryAfter}
use Rattle.plan_stages.specs.declared.inputs.UnreadInput.{UnreadInput}

-- ---- what is read

-- the bytes of the files of these names, in turn
abbrev pub inputs_of : List File → List (List ℕ) → List (List ℕ)
inputs_of files names = map (bytes_of files) names

-- how many bytes inputs have together
abbrev pub total_length : List (List ℕ) → ℕ
total_length inputs = sum_by length inputs

-- the number of the first input with which they all have more bytes than a limit, counted from 0 among those before and the others
abbrev pub first_too_long : ℕ → List (List ℕ) → List (List ℕ) → Option ℕ
first_too_long limit before [] = None
first_too_long limit before (bytes ∷ rest) =
    if nat_lt limit (total_length (before ++ bytes ∷ [])) then Some (length before) else first_too_long limit (before ++ bytes ∷ []) rest

-- a cause at the file of this number
abbrev pub input_fault : ℕ → ReadFault → UnreadInput
input_fault number cause = record { number = number; cause = cause }

-- inputs, unless one is too long
abbrev pub unless_too_long : Option ℕ → List (List ℕ) → Result (List (List ℕ)) UnreadInput
unless_too_long None inputs = Ok inputs
unless_too_long (Some number) inputs = Err (input_fault number TooLong)

-- the inputs of these names over files, which may have so many bytes together; or the first that is too long
abbrev pub inputs_in : List File → List (List ℕ) → ℕ → Result (List (List ℕ)) UnreadInput
inputs_in files names limit = unless_too_long (first_too_long limit [] (inputs_of files names)) (inputs_of files names)

-- the status of inputs that aren't read
abbrev pub input_status : UnreadInput → ℕ
input_status fault = reading_status fault.cause

-- ---- what is left of the library

-- the files of these names were read in turn, each to its end
abbrev pub all_read_out : List (List ℕ) → Content → Content
all_read_out [] content = content
all_read_out (name ∷ names) content = all_read_out names (read_out content)

-- how many bytes were taken of the last input; where there is none, as many as before
abbrev pub taken_of_last : List (List ℕ) → ℕ → ℕ
taken_of_last [] before = before
taken_of_last (bytes ∷ rest) before = taken_of_last rest (length bytes)

-- All files of these names were read, each to its end, and no call failed.
pub record InputsRead (inputs names : List (List ℕ)) (limit : ℕ) (before now : Option Content) (taken_before taken_now : ℕ) (counts_before counts_now : Counts) : Type 0 where
  pub count : length inputs ≡ length names
  pub within : total_length inputs ≤ limit
  pub read_out : now ≡ option_map (all_read_out names) before
  pub taken : taken_now ≡ taken_of_last inputs taken_before
  pub unfailed : Unfailed counts_before counts_now

-- One of the names' files wasn't read. It may have as many bytes as those before it leave of the limit.
pub record InputUnread (fault : UnreadInput) (names : List (List ℕ)) (limit : ℕ) (before now : Option Content) (taken : ℕ) (is_started : Bool) (counts_before counts_now : Counts) : Type 0 where
  pub number : fault.number < length names
  pub own_limit : ℕ
  pub within : own_limit ≤ limit
  pub limits : IfSome (told_files before) (λ (files : List File). total_length (inputs_of files (take fault.number names)) + own_limit ≡ limit)
  -- at most a byte more was taken of it, and that exactly where it is too long
  pub at_most : taken ≤ own_limit + 1
  pub only_too_long : taken ≡ own_limit + 1 → fault.cause ≡ TooLong
  pub library : LibraryAfter (reading_status fault.cause) own_limit (told_files before) now taken is_started counts_before counts_now

-- ---- what was asked

-- these names were asked meanwhile, in turn
abbrev pub AskedInTurn : List (List ℕ) → Option (List (List ℕ)) → Option (List (List ℕ)) → Type 0
AskedInTurn names before now = now ≡ option_map (λ all. all ++ names) before

-- The names were asked up to and with the one at fault; nothing was taken where that one wasn't.
pub record AskedToFault (fault : UnreadInput) (names : List (List ℕ)) (taken : ℕ) (before now : Option (List (List ℕ))) : Type 0 where
  pub at_most : AskedInTurn (take (fault.number + 1) names) before now ⊎ (AskedInTurn (take fault.number names) before now × (taken ≡ 0))
  pub too_long : fault.cause ≡ TooLong → AskedInTurn (take (fault.number + 1) names) before now

-- ---- one file

-- The file of a name was read to its end, and is put after the inputs before it.
pub record InputRead (inputs_before inputs_now : List (List ℕ)) (name : List ℕ) (limit : ℕ) (before now : Option Content) (taken_now : ℕ) (counts_before counts_now : Counts) : Type 0 where
  pub bytes : List ℕ
  pub appended : inputs_now ≡ inputs_before ++ bytes ∷ []
  pub whole : IfSome before (λ (c : Content). bytes ≡ bytes_of c.files name)
  pub taken : taken_now ≡ length bytes
  pub within : length bytes ≤ limit
  pub read_out : now ≡ option_map read_out before
  pub unfailed : Unfailed counts_before counts_now
