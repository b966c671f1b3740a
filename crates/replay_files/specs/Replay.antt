-- Texts, and what makes others of them, are read from files, replayed table by table, and the texts that come of it are written.
use Rattle.std.specs.Prelude.{◌≡◌, ◌≢◌, ◌<◌, ◌≤◌, ◌⊎◌, ℕ, ◌+◌, ◌-◌, ◌*◌, zero, suc, zip, All, List, [], ◌∷◌, IfSome, drop, flat_map, get_or, length, map, take, Option, Some, None, Result, Ok, Err}
use Rattle.std.specs.List.{range_with_len}
use Rattle.pd_outside.specs.Files.{File}
use Rattle.plan_stages.specs.Inputs.{inputs_in}
use Rattle.plan_stages.specs.declared.inputs.UnreadInput.{UnreadInput}
use Rattle.refusals.specs.declared.refusal.InputCause.{InputCause}
use Rattle.refusals.specs.declared.refusal.InputCause.TheVariants.{Reading, Applying, Reverting, BadRecord}
use Rattle.refusals.specs.declared.refusal.JobFault.{JobFault}
use Rattle.refusals.specs.declared.refusal.JobFault.TheVariants as job
use Rattle.refusals.specs.declared.refusal.LineFault.{LineFault}
use Rattle.refusals.specs.declared.refusal.LineReason.{LineReason}
use Rattle.refusals.specs.declared.refusal.LineReason.TheVariants as reason
use Rattle.request_words.specs.declared.usage.Format.{Format}
use Rattle.request_words.specs.declared.usage.Format.TheVariants.{Copy, Csv}
use Rattle.request_words.specs.declared.usage.Header.{Header}
use Rattle.request_words.specs.declared.usage.Header.TheVariants as header
use Rattle.request_words.specs.declared.usage.Request.{Request}
use Rattle.stream_apply.specs.InTurn.{IsAppliedText, IsFaultAt}
use Rattle.stream_apply.specs.declared.fault.ApplyFault.{ApplyFault}
use Rattle.stream_apply.specs.declared.fault.ApplyFault.TheVariants as apply
use Rattle.stream_apply.specs.declared.key_fields.KeyFields.TheVariants.{One}
use Rattle.undo_streams.specs.InTurn.{IsRevertFaultAt, IsRevertedText}
use Rattle.undo_streams.specs.declared.fault.RevertFault.{RevertFault}
use Rattle.undo_streams.specs.declared.fault.RevertFault.TheVariants as revert
use Rattle.run_jobs.specs.Formats.{AreWritten, each_after, heading_of, in_directory, made_files, undo_name_of}
use Rattle.replay_files.specs.declared.replay.Replay.{Replay}
use Rattle.replay_files.specs.declared.replay.Way.{Way}
use Rattle.replay_files.specs.declared.replay.Way.TheVariants as way
use Rattle.run_jobs.specs.InputFiles.{input_limit, text_name, stream_names, names_in, AreReadAs, HasBadAt}

-- ---- the inputs

-- the files of the undo texts of as many units after one as a count tells, from the last of these down
abbrev pub undo_names : List ℕ → ℕ → ℕ → List (List ℕ)
undo_names name to zero = []
undo_names name to (suc count) = undo_name_of name (to + suc count) ∷ undo_names name to count

-- the files of a table, in the order in which they are read: its text, and then the streams of the units after the first one up to the last,
-- or the undo texts of the units from the later one down
abbrev pub names_by : Way → Format → ℕ → ℕ → List ℕ → List (List ℕ)
names_by (way.Apply keys) format from to name = text_name format name ∷ flat_map (stream_names format name) (range_with_len (from + 1) (to - from))
names_by way.Undo format from to name = text_name format name ∷ undo_names name to (from - to)

-- how many these are
abbrev pub inputs_by : Way → ℕ → ℕ → ℕ
inputs_by (way.Apply keys) from to = 1 + 3 * (to - from)
inputs_by way.Undo from to = 1 + (from - to)

-- how the inputs and the texts are written: as CSV where the names of the columns of each table are told
abbrev pub format_by : Option (List (List (List ℕ))) → Format
format_by None = Copy
format_by (Some tables) = Csv

abbrev pub format_of : Replay → Format
format_of replay = format_by replay.csv

abbrev pub inputs_each : Request → Replay → ℕ
inputs_each request replay = inputs_by replay.way request.from request.to

-- the names of all inputs, and their paths
abbrev pub input_names : Request → Replay → List (List ℕ)
input_names request replay = flat_map (names_by replay.way (format_of replay) request.from request.to) replay.names

abbrev pub input_paths : Request → Replay → List (List ℕ)
input_paths request replay = map (in_directory request.source) (input_names request replay)

-- ---- what can be replayed

-- the first unit is at most the last one, which is at most 10,000
pub record IsInOrder (first last : ℕ) : Type 0 where
  pub order : first ≤ last
  pub most : last ≤ 10000

abbrev pub AreUnitsOf : Way → ℕ → ℕ → Type 0
AreUnitsOf (way.Apply keys) from to = IsInOrder from to
AreUnitsOf way.Undo from to = IsInOrder to from

-- so many columns as a table has: one at least, and few
pub record AreColumns (names : List (List ℕ)) : Type 0 where
  pub some : 0 < length names
  pub few : length names ≤ 64

-- CSV is of tables whose keys have one field
pub record IsCsvOfTables (w : Way) (count : ℕ) (tables : List (List (List ℕ))) : Type 0 where
  pub applies : w ≡ way.Apply One
  pub alike : length tables ≡ count
  pub columns : All AreColumns tables

pub record CanReplay (request : Request) (replay : Replay) : Type 0 where
  pub some : 1 ≤ length replay.names
  pub few : length replay.names ≤ 64
  pub units : AreUnitsOf replay.way request.from request.to
  pub csv : IfSome replay.csv (IsCsvOfTables replay.way (length replay.names))

-- ---- what inputs make

-- the inputs of the table at a place, of which each table has as many
abbrev pub inputs_at : ℕ → List (List ℕ) → ℕ → List (List ℕ)
inputs_at each inputs place = take each (drop (place * each) inputs)

-- the text that the inputs of a table make
abbrev pub IsReplayedText : Way → ℕ → List (List ℕ) → List ℕ → Type 0
IsReplayedText (way.Apply keys) delimiter inputs text = IsAppliedText keys delimiter inputs text
IsReplayedText way.Undo delimiter inputs text = IsRevertedText delimiter inputs text

-- the fault of a line of an undo text, as it is told
abbrev pub fault_of_reason : LineReason → ℕ → RevertFault
fault_of_reason reason.BadLine line = revert.BadLine line
fault_of_reason reason.DoubleKey line = revert.DoubleKey line
fault_of_reason reason.NoSuchKey line = revert.NoSuchKey line
fault_of_reason reason.KeyExists line = revert.KeyExists line
fault_of_reason reason.BadPlace line = revert.BadPlace line

abbrev pub fault_told : LineFault → RevertFault
fault_told told = fault_of_reason told.reason told.line

-- the input at a place is the first with a fault
abbrev pub IsApplyFaultAt : Way → ℕ → List (List ℕ) → ℕ → ApplyFault → Type 0
IsApplyFaultAt (way.Apply keys) delimiter inputs place fault = IsFaultAt keys delimiter inputs place fault × (fault ≢ apply.Memory)
IsApplyFaultAt way.Undo delimiter inputs place fault = ⊥

abbrev pub IsUndoFaultAt : Way → ℕ → List (List ℕ) → ℕ → LineFault → Type 0
IsUndoFaultAt (way.Apply keys) delimiter inputs place fault = ⊥
IsUndoFaultAt way.Undo delimiter inputs place fault = IsRevertFaultAt delimiter inputs place (fault_told fault)

abbrev pub IsReplayFaultAt : Way → ℕ → List (List ℕ) → ℕ → InputCause → Type 0
IsReplayFaultAt w delimiter inputs place (Applying fault) = IsApplyFaultAt w delimiter inputs place fault
IsReplayFaultAt w delimiter inputs place (Reverting fault) = IsUndoFaultAt w delimiter inputs place fault
IsReplayFaultAt w delimiter inputs place (Reading cause) = ⊥
IsReplayFaultAt w delimiter inputs place (BadRecord at) = ⊥

-- the texts that the first tables' inputs make, of which each table has as many
pub record AreReplayed (w : Way) (delimiter each : ℕ) (inputs texts : List (List ℕ)) : Type 0 where
  pub replayed : (place : ℕ) → place < length texts → IsReplayedText w delimiter (inputs_at each inputs place) (get_or texts place [])

-- the first fault: that of an input of a table, where the tables before it have none
pub record IsFirstFault (w : Way) (delimiter each : ℕ) (inputs : List (List ℕ)) (count number : ℕ) (cause : InputCause) : Type 0 where
  pub texts : List (List ℕ)
  pub place : ℕ
  pub before : AreReplayed w delimiter each inputs texts
  pub within : length texts < count
  pub below : place < each
  pub number_is : number ≡ length texts * each + place
  pub has : IsReplayFaultAt w delimiter (inputs_at each inputs (length texts)) place cause

-- ---- inputs in CSV

-- the records before the rows are counted with them
abbrev pub fault_after : ℕ → ApplyFault → ApplyFault
fault_after records (apply.BadLine line) = apply.BadLine (line + records)
fault_after records (apply.DoubleKey line) = apply.DoubleKey (line + records)
fault_after records (apply.NoSuchKey line) = apply.NoSuchKey (line + records)
fault_after records (apply.KeyExists line) = apply.KeyExists (line + records)
fault_after records apply.Memory = apply.Memory

abbrev pub cause_after : ℕ → InputCause → InputCause
cause_after records (Applying fault) = Applying (fault_after records fault)
cause_after records (Reverting fault) = Reverting fault
cause_after records (Reading cause) = Reading cause
cause_after records (BadRecord at) = BadRecord at

-- how many these are
abbrev pub records_of : Header → ℕ
records_of header.None = 0
records_of header.Names = 1

abbrev pub records_before : Header → Option (List (List (List ℕ))) → ℕ
records_before asked None = 0
records_before asked (Some tables) = records_of asked

-- what the texts of tables begin with
abbrev pub text_headings : Header → Option (List (List (List ℕ))) → List (List ℕ)
text_headings asked None = []
text_headings asked (Some tables) = map (heading_of asked) tables

-- ---- what comes of it

-- a name as it is told: a table's name has at most 32 bytes, so that no name of an accepted schema's files is cut
abbrev pub file_named : List ℕ → List ℕ
file_named name = take 64 name

-- why the input of a number isn't read, or isn't replayed
abbrev pub named_fault : List (List ℕ) → ℕ → InputCause → JobFault
named_fault names number cause = job.Input (record { file = file_named (get_or names number []); cause = cause })

abbrev pub fault_at : Request → Replay → ℕ → InputCause → JobFault
fault_at request replay number cause = named_fault (input_names request replay) number cause

-- why inputs in CSV aren't read as rows: memory ran out, or the first bad record
abbrev pub IsUnreadRecord : Header → ℕ → List (List ℕ) → List (List (List ℕ) × List ℕ) → JobFault → Type 0
IsUnreadRecord asked delimiter names inputs fault =
    (fault ≡ job.Memory) ⊎ ((number : ℕ) × (at : ℕ) × HasBadAt asked delimiter inputs number at × (fault ≡ named_fault names number (BadRecord at)))

-- why the inputs of so many tables aren't replayed: memory ran out, or the first fault
abbrev pub IsUnreplayed : Way → ℕ → ℕ → List (List ℕ) → ℕ → List (List ℕ) → ℕ → JobFault → Type 0
IsUnreplayed w delimiter records names each inputs count fault =
    (fault ≡ job.Memory) ⊎ ((number : ℕ) × (cause : InputCause) × IsFirstFault w delimiter each inputs count number cause
    × (fault ≡ named_fault names number (cause_after records cause)))

-- what is due for texts of the tables: one file for each in a directory, or all joined on the standard output
pub record AreDueFor (delimiter : ℕ) (request : Request) (replay : Replay) (texts : List (List ℕ)) (due : List File) : Type 0 where
  pub written : List (List ℕ)
  pub are : AreWritten (format_of replay) delimiter texts written
  pub due_is : due ≡ made_files (text_name (format_of replay)) request.out replay.names (each_after (text_headings request.header replay.csv) written)

-- inputs in COPY text form give the due files, or the first fault
abbrev pub IsMadeOf : ℕ → Request → Replay → List (List ℕ) → Result (List File) JobFault → Type 0
IsMadeOf delimiter request replay inputs (Ok due) =
    (texts : List (List ℕ)) × (length texts ≡ length replay.names)
    × AreReplayed replay.way delimiter (inputs_each request replay) inputs texts
    × AreDueFor delimiter request replay texts due
IsMadeOf delimiter request replay inputs (Err fault) =
    (number : ℕ) × (cause : InputCause)
    × IsFirstFault replay.way delimiter (inputs_each request replay) inputs (length replay.names) number cause
    × (fault ≡ fault_at request replay number (cause_after (records_before request.header replay.csv) cause))

-- the first bad record refuses inputs in CSV, and else they are what they are in COPY text form
abbrev pub IsCsvMade : ℕ → Request → Replay → List (List (List ℕ)) → List (List ℕ) → Result (List File) JobFault → Type 0
IsCsvMade delimiter request replay columns inputs answer =
    ((copies : List (List ℕ)) × AreReadAs request.header delimiter (zip columns inputs) copies × IsMadeOf delimiter request replay copies answer)
    ⊎ ((number : ℕ) × (at : ℕ) × HasBadAt request.header delimiter (zip columns inputs) number at
    × (answer ≡ Err (fault_at request replay number (BadRecord at))))

-- the names of the columns of the inputs of tables with such columns
abbrev pub input_columns : Request → List (List (List ℕ)) → List (List (List ℕ))
input_columns request tables = flat_map (names_in (request.to - request.from)) tables

abbrev pub IsMadeIn : Option (List (List (List ℕ))) → ℕ → Request → Replay → List (List ℕ) → Result (List File) JobFault → Type 0
IsMadeIn None delimiter request replay inputs answer = IsMadeOf delimiter request replay inputs answer
IsMadeIn (Some tables) delimiter request replay inputs answer = IsCsvMade delimiter request replay (input_columns request tables) inputs answer

-- what inputs begin with
abbrev pub input_headings : Request → Option (List (List (List ℕ))) → List (List ℕ)
input_headings request None = []
input_headings request (Some tables) = map (heading_of request.header) (input_columns request tables)

abbrev pub IsReadAndMade : ℕ → Request → Replay → Result (List (List ℕ)) UnreadInput → Result (List File) JobFault → Type 0
IsReadAndMade delimiter request replay (Ok inputs) answer = IsMadeIn replay.csv delimiter request replay inputs answer
IsReadAndMade delimiter request replay (Err fault) answer = answer ≡ Err (fault_at request replay fault.number (Reading fault.cause))

-- what is due over files: an input with which they are too long is refused first, then the first bad record of one in CSV, and then the first
-- fault of one
abbrev pub IsReplayDue : ℕ → Request → Replay → List File → Result (List File) JobFault → Type 0
IsReplayDue delimiter request replay files answer =
    IsReadAndMade delimiter request replay (inputs_in files (input_paths request replay) input_limit) answer

-- ---- the names that are asked

-- the first of some names, up to and with the one with whose file all are too long
abbrev pub up_to_long : List (List ℕ) → Result (List (List ℕ)) UnreadInput → List (List ℕ)
up_to_long paths (Ok inputs) = paths
up_to_long paths (Err fault) = take (fault.number + 1) paths

abbrev pub paths_read : Request → Replay → List File → List (List ℕ)
paths_read request replay files = up_to_long (input_paths request replay) (inputs_in files (input_paths request replay) input_limit)

-- ---- what is asked of a mode, and then replayed

-- what is asked can be refused before anything is read
abbrev pub IsReplayOf : {A : Type 0} → (A → Replay) → ℕ → Request → List File → Result A JobFault → Result (List File) JobFault → Type 0
IsReplayOf of delimiter request files (Ok asked) answer = IsReplayDue delimiter request (of asked) files answer
IsReplayOf of delimiter request files (Err fault) answer = answer ≡ Err fault

-- the names that are asked, and those that may be asked where no file is told
abbrev pub paths_of : {A : Type 0} → (A → Replay) → Request → List File → Result A JobFault → List (List ℕ)
paths_of of request files (Ok asked) = paths_read request (of asked) files
paths_of of request files (Err fault) = []

abbrev pub possible_of : {A : Type 0} → (A → Replay) → Request → Result A JobFault → List (List ℕ)
possible_of of request (Ok asked) = input_paths request (of asked)
possible_of of request (Err fault) = []
