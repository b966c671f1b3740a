-- The detail table that a file declares over a plan, with the word lists that it cites, and the names that are asked for it.
use Rattle.std.specs.Prelude.{◌≡◌, ℕ, nat_lt, List, [], ◌∷◌, ◌++◌, length, map, zip, Option, Some, None, Result, Ok, Err, IfSome, if◌then◌else◌}
use Rattle.std.specs.Option.{option_map}
use Rattle.std.specs.Result.{result_unwrap_or}
use Rattle.dictionaries.specs.WordList.{WordList}
use Rattle.pd_outside.specs.Files.{File, bytes_of}
use Rattle.pd_outside.specs.Library.{AskedPrefixOf}
use Rattle.pd_outside.specs.declared.faults.ReadFault.TheVariants.{TooLong}
use Rattle.plan_stages.specs.DictionaryFiles.{with_dictionaries, words_named}
use Rattle.plan_stages.specs.Limits.{dictionary_limit, schema_limit}
use Rattle.plan_stages.specs.PlanNames.{up_to_fault}
use Rattle.plan_stages.specs.Stages.{in_stage, on_ok}
use Rattle.refusals.specs.declared.refusal.DetailsCause.{DetailsCause}
use Rattle.refusals.specs.declared.refusal.DetailsCause.TheVariants as details
use Rattle.schema_plan.specs.Beside.{ready_beside}
use Rattle.schema_facts.specs.Dictionaries.{Dictionary, Project}
use Rattle.detail_plan.specs.Beside.{columns_beside}
use Rattle.detail_plan.specs.Kept.{Kept}
use Rattle.detail_plan.specs.Reading.{declared}
use Rattle.detail_plan.specs.Rules.{citations_of, facts_of, first_broken, reach_of}
use Rattle.detail_plan.specs.declared.check.DetailFault.{DetailFault}
use Rattle.detail_plan.specs.declared.check.DetailFault.TheVariants as check
use Rattle.detail_plan.specs.declared.detail.Detail.{Detail}
use Rattle.detail_plan.specs.declared.read.DetailReadFault.{DetailReadFault}
use Rattle.detail_plan.specs.declared.read.DetailReadFault.TheVariants as reading

-- ---- the declaration

-- why bytes declare none
abbrev pub undeclared : DetailReadFault → DetailsCause
undeclared reading.Syntax = details.Syntax
undeclared reading.WrongForm = details.WrongForm
undeclared reading.Memory = details.Memory

-- the detail table that bytes declare, whether its rules hold or not
abbrev pub declared_of : List ℕ → Result Detail DetailsCause
declared_of bytes = in_stage undeclared (declared bytes)

-- ---- its word lists

-- names, unless one of them may not be cited
abbrev pub unless_uncitable : Option (List (List ℕ)) → Result (List (List ℕ)) DetailsCause
unless_uncitable None = Err (details.Rule 6)
unless_uncitable (Some names) = Ok names

-- the names of the word lists that it cites and the schema doesn't have
abbrev pub lists_cited : Project → Detail → Result (List (List ℕ)) DetailsCause
lists_cited plan detail = unless_uncitable (citations_of plan detail)

-- ---- its rules

-- a fault as a cause
abbrev pub broken : DetailFault → DetailsCause
broken (check.Rule number) = details.Rule number
broken check.Memory = details.Memory

-- what is kept of a detail table with all word lists
abbrev pub kept_with : Project → Detail → List Dictionary → Kept
kept_with plan detail lists =
    record {
      detail = detail;
      lists = lists;
      columns = ready_beside plan lists (columns_beside detail);
      facts = facts_of plan detail;
      reach = reach_of plan lists detail;
    }

-- a detail table, unless it breaks a rule
abbrev pub unless_broken : Option ℕ → Kept → Result Kept DetailsCause
unless_broken None kept = Ok kept
unless_broken (Some number) kept = Err (details.Rule number)

abbrev pub kept_over : Project → Detail → List Dictionary → Result Kept DetailsCause
kept_over plan detail lists = unless_broken (first_broken plan lists detail) (kept_with plan detail lists)

-- ---- all of it over files

-- with the word lists of these names after the schema's
abbrev pub kept_with_lists : Project → List File → Detail → List (List ℕ) → Result Kept DetailsCause
kept_with_lists plan files detail names =
    on_ok (in_stage details.Dictionary (with_dictionaries files plan.dictionaries names)) (kept_over plan detail)

-- with the word lists that it cites
abbrev pub kept_in : Project → List File → Detail → Result Kept DetailsCause
kept_in plan files detail = on_ok (lists_cited plan detail) (kept_with_lists plan files detail)

-- the detail table that bytes declare over a plan, or why they declare none
abbrev pub detail_of_text : Project → List File → List ℕ → Result Kept DetailsCause
detail_of_text plan files bytes = on_ok (declared_of bytes) (kept_in plan files)

-- the same of bytes, which may be too many, and of those in the file of a name
abbrev pub detail_of_bytes : Project → List File → List ℕ → Result Kept DetailsCause
detail_of_bytes plan files bytes =
    if nat_lt schema_limit (length bytes) then Err (details.Reading TooLong) else detail_of_text plan files bytes

abbrev pub detail_in : Project → List File → List ℕ → Result Kept DetailsCause
detail_in plan files name = detail_of_bytes plan files (bytes_of files name)

-- the limit of the file that a cause tells as too long: the declaration, or a word list
abbrev pub limit_at : DetailsCause → ℕ
limit_at (details.Reading fault) = schema_limit
limit_at _ = dictionary_limit

-- ---- the names that are asked

-- the word lists that a detail table asks for; none where it cites one that may not be cited
abbrev pub lists_of : Project → Detail → List (List ℕ)
lists_of plan detail = result_unwrap_or (lists_cited plan detail) []

-- those that what was read of a declaration asks for
abbrev pub lists_by : {F : Type 0} → Project → Result Detail F → List (List ℕ)
lists_by plan (Err fault) = []
lists_by plan (Ok detail) = lists_of plan detail

-- those that a declaration's bytes ask for, where they aren't too many
abbrev pub lists_in : Project → List ℕ → List (List ℕ)
lists_in plan bytes = if nat_lt schema_limit (length bytes) then [] else lists_by plan (declared_of bytes)

-- the names that a declaration's name asks for over files: itself, then those of the word lists, up to and with the first that is at fault
abbrev pub declaration_names : Project → List File → List ℕ → List (List ℕ)
declaration_names plan files name = name ∷ up_to_fault files (lists_in plan (bytes_of files name))

-- the names that it may ask for where its file has these bytes
abbrev pub possible_declaration : Project → List ℕ → List ℕ → List (List ℕ)
possible_declaration plan bytes name = name ∷ lists_in plan bytes

-- word lists of these names
abbrev pub lists_named : List (List ℕ) → List WordList → List Dictionary
lists_named names words = map (λ (named : List ℕ × WordList). words_named named.0 named.1) (zip names words)

-- the detail table that bytes declare over a plan, where the word lists that they ask for have these words
abbrev pub detail_with_words : Project → List ℕ → List WordList → Result Kept DetailsCause
detail_with_words plan bytes words =
    on_ok (declared_of bytes) (λ detail. kept_over plan detail (plan.dictionaries ++ lists_named (lists_of plan detail) words))

-- ---- what was asked

-- Of a declaration's name and its word lists' the first were asked for, in their order, where files are told; and they are always the first
-- of those that may be asked for, given some bytes of the declaration.
pub record AsksForDetails (plan : Project) (name : List ℕ) (files : Option (List File)) (before now : Option (List (List ℕ))) : Type 0 where
  pub told : IfSome files (λ (f : List File). AskedPrefixOf (declaration_names plan f name) before now)
  pub bytes : List ℕ
  pub untold : AskedPrefixOf (possible_declaration plan bytes name) before now

-- A detail table was made of a declaration's name: its bytes were read, and all names that it asks for were asked, each in turn.
pub record DetailsRead (plan : Project) (kept : Kept) (name : List ℕ) (files : Option (List File)) (before now : Option (List (List ℕ))) : Type 0 where
  pub bytes : List ℕ
  pub words : List WordList
  pub read : detail_with_words plan bytes words ≡ Ok kept
  pub told : IfSome files (λ (f : List File). declaration_names plan f name ≡ possible_declaration plan bytes name)
  pub asked : now ≡ option_map (λ names. names ++ possible_declaration plan bytes name) before
