-- The dictionaries that files hold, read one after the other.
use Rattle.std.specs.Prelude.{ℕ, ◌+◌, nat_lt, List, [], ◌∷◌, ◌++◌, length, map, Result, Ok, Err, if◌then◌else◌}
use Rattle.dictionaries.specs.Grammar.{dictionary_of}
use Rattle.dictionaries.specs.WordList.{WordList}
use Rattle.pd_outside.specs.Files.{File, bytes_of}
use Rattle.pd_outside.specs.declared.faults.ReadFault.TheVariants.{TooLong}
use Rattle.schema_facts.specs.Dictionaries.{Dictionary}
use Rattle.refusals.specs.Statuses.{cause_status}
use Rattle.plan_stages.specs.Limits.{dictionary_limit}
use Rattle.plan_stages.specs.Stages.{in_stage, on_ok}
use Rattle.refusals.specs.declared.refusal.DictionaryCause.{DictionaryCause}
use Rattle.refusals.specs.declared.refusal.DictionaryCause.TheVariants as cause
use Rattle.refusals.specs.declared.refusal.DictionaryFault.{DictionaryFault}

-- the words of a dictionary with these bytes
abbrev pub words_of : List ℕ → Result WordList DictionaryCause
words_of bytes =
    if nat_lt dictionary_limit (length bytes) then Err (cause.Reading TooLong) else in_stage cause.Grammar (dictionary_of bytes)

-- the words of the dictionary in the file of a name
unfoldable pub words_in : List File → List ℕ → Result WordList DictionaryCause
words_in files name = words_of (bytes_of files name)

-- words under a name
abbrev pub words_named : List ℕ → WordList → Dictionary
words_named name words = record { name = name; words = words }

-- the names of dictionaries
abbrev pub names_of : List Dictionary → List (List ℕ)
names_of dictionaries = map (λ (dictionary : Dictionary). dictionary.name) dictionaries

-- some dictionaries with one more after them, that of a name
abbrev pub with_dictionary : List File → List Dictionary → List ℕ → Result (List Dictionary) DictionaryCause
with_dictionary files before name = on_ok (words_in files name) (λ words. Ok (before ++ words_named name words ∷ []))

-- a cause at the dictionary of this number
abbrev pub fault_at : ℕ → DictionaryCause → DictionaryFault
fault_at number cause = record { number = number; cause = cause }

-- some dictionaries with those of these names after them, in turn; or the first fault, with the number of its dictionary,
-- counted from 1 among all of them
abbrev pub with_dictionaries : List File → List Dictionary → List (List ℕ) → Result (List Dictionary) DictionaryFault
with_dictionaries files before [] = Ok before
with_dictionaries files before (name ∷ names) =
    on_ok (in_stage (fault_at (length before + 1)) (with_dictionary files before name)) (λ now. with_dictionaries files now names)

-- the status of what comes of reading them
abbrev pub dictionaries_status : DictionaryFault → ℕ
dictionaries_status fault = cause_status fault.cause
