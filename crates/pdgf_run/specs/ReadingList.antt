-- The names that are asked of a library, each in its turn.
use Rattle.std.specs.Prelude.{ℕ, Bool, false, true, List, [], ◌++◌, Option, Result, Ok, Err, IfSome, if◌then◌else◌}
use Rattle.dictionaries.specs.WordList.{WordList}
use Rattle.pd_outside.specs.Files.{File}
use Rattle.pd_outside.specs.Library.{AskedPrefixOf}
use Rattle.plan_stages.specs.PlanNames.{cited_by, plan_names, possible_names}
use Rattle.plan_stages.specs.Plans.{plan_in}
use Rattle.request_words.specs.declared.usage.Mode.TheVariants.{Check, Snapshot, Unit, Row, Apply, Sample, Play, Details, DetailsUnit, DetailsApply, Undo, Revert}
use Rattle.request_words.specs.declared.usage.Mode.{Mode}
use Rattle.request_words.specs.declared.usage.Request.{Request}
use Rattle.request_words.specs.declared.usage.UsageFault.{UsageFault}
use Rattle.schema_model.specs.declared.table.Schema.{Schema}
use Rattle.schema_facts.specs.Dictionaries.{Project, project_of}
use Rattle.schema_read.specs.Schema.{schema_of}
use Rattle.run_jobs.specs.Details.{declaration_names, lists_named, possible_declaration}
use Rattle.replay_files.specs.modes.Apply.{paths_asked, paths_possible}
use Rattle.replay_files.specs.modes.DetailsApply.{details_apply_asked, details_apply_possible}
use Rattle.replay_files.specs.modes.Revert.{undo_paths_asked, undo_paths_possible}

-- ---- what words ask for

-- whether a mode reads the schema that the words name: a sample has one of its own
abbrev pub reads_schema : Mode → Bool
reads_schema Sample = false
reads_schema mode = true

-- the names that a request asks for of its schema, if it reads one
abbrev pub if_read : Request → List (List ℕ) → List (List ℕ)
if_read request names = if reads_schema request.mode then names else []

-- whether a mode reads files after those of which a plan is made
abbrev pub reads_on : Mode → Bool
reads_on Apply = true
reads_on Details = true
reads_on DetailsUnit = true
reads_on DetailsApply = true
reads_on Revert = true
reads_on mode = false

-- the names that a mode asks for over a plan and files: in modes apply and revert their inputs', up to and with the first with which they are too long;
-- in modes details and details-unit the declaration's and those of the word lists that it cites and the schema doesn't have, up to and with
-- the first at fault, and in mode details-apply these and then its inputs'
abbrev pub names_in_mode : Mode → Request → Project → List File → List (List ℕ)
names_in_mode Check request plan files = []
names_in_mode Snapshot request plan files = []
names_in_mode Unit request plan files = []
names_in_mode Row request plan files = []
names_in_mode Apply request plan files = paths_asked plan request files
names_in_mode Sample request plan files = []
names_in_mode Play request plan files = []
names_in_mode Details request plan files = declaration_names plan files request.spec
names_in_mode DetailsUnit request plan files = declaration_names plan files request.spec
names_in_mode DetailsApply request plan files = details_apply_asked plan request files
names_in_mode Undo request plan files = []
names_in_mode Revert request plan files = undo_paths_asked plan request files

abbrev pub names_behind : {F : Type 0} → Request → List File → Result Project F → List (List ℕ)
names_behind request files (Err fault) = []
names_behind request files (Ok plan) = names_in_mode request.mode request plan files

-- the names that a request asks for over files: the schema's, if it reads one, then those of the dictionaries that it cites, up to and with the
-- first that is at fault, and then those of its mode
abbrev pub reading_list : Result Request UsageFault → List File → List (List ℕ)
reading_list (Err fault) files = []
reading_list (Ok request) files = if_read request (plan_names files request.schema) ++ names_behind request files (plan_in files request.schema)

-- What files may hold: the bytes of the schema and the words of its dictionaries, the bytes of the declaration of a detail table and the words
-- of the word lists that this asks for.
pub record Possible : Type 0 where
  pub schema : List ℕ
  pub dictionaries : List WordList
  pub details : List ℕ
  pub lists : List WordList

-- the names that a mode may ask for of a plan
abbrev pub possible_in_mode : Mode → Request → Project → List ℕ → List WordList → List (List ℕ)
possible_in_mode Check request plan details lists = []
possible_in_mode Snapshot request plan details lists = []
possible_in_mode Unit request plan details lists = []
possible_in_mode Row request plan details lists = []
possible_in_mode Apply request plan details lists = paths_possible plan request
possible_in_mode Sample request plan details lists = []
possible_in_mode Play request plan details lists = []
possible_in_mode Details request plan details lists = possible_declaration plan details request.spec
possible_in_mode DetailsUnit request plan details lists = possible_declaration plan details request.spec
possible_in_mode DetailsApply request plan details lists = details_apply_possible plan request details lists
possible_in_mode Undo request plan details lists = []
possible_in_mode Revert request plan details lists = undo_paths_possible plan request

-- a schema with the dictionaries that it cites, where these have such words
abbrev pub project_with_words : Schema → List WordList → Project
project_with_words schema words = project_of schema (lists_named (cited_by schema) words)

abbrev pub possible_behind : {F : Type 0} → Request → Possible → Result Schema F → List (List ℕ)
possible_behind request held (Err fault) = []
possible_behind request held (Ok schema) =
    possible_in_mode request.mode request (project_with_words schema held.dictionaries) held.details held.lists

-- the names that a request may ask for where files hold this
abbrev pub possible_list : Result Request UsageFault → Possible → List (List ℕ)
possible_list (Err fault) held = []
possible_list (Ok request) held =
    if_read request (possible_names held.schema request.schema) ++ possible_behind request held (schema_of held.schema)

-- ---- what was asked

-- The names asked meanwhile are the first of the reading list, in its order, where files are told; and they are always the
-- first of those that may be asked for, given what the schema, the declaration of a detail table and the word lists may hold.
pub record AsksInTurn (request : Result Request UsageFault) (files : Option (List File)) (before now : Option (List (List ℕ))) : Type 0 where
  pub told : IfSome files (λ (f : List File). AskedPrefixOf (reading_list request f) before now)
  pub held : Possible
  pub untold : AskedPrefixOf (possible_list request held) before now

-- the same of a mode over a plan
pub record AsksInMode (request : Request) (plan : Project) (files : Option (List File)) (before now : Option (List (List ℕ))) : Type 0 where
  pub told : IfSome files (λ (f : List File). AskedPrefixOf (names_in_mode request.mode request plan f) before now)
  pub details : List ℕ
  pub lists : List WordList
  pub untold : AskedPrefixOf (possible_in_mode request.mode request plan details lists) before now
