-- Mode details-apply: the text of a detail table at a unit and the streams of later units, read from files, and the text that they make.
use Rattle.std.specs.Prelude.{◌≡◌, ◌≤◌, ℕ, ◌+◌, ◌-◌, nat_lt, List, [], ◌∷◌, ◌++◌, flat_map, None, Result, Ok, Err, if◌then◌else◌}
use Rattle.std.specs.List.{range_with_len}
use Rattle.dictionaries.specs.WordList.{WordList}
use Rattle.pd_outside.specs.Files.{File}
use Rattle.plan_stages.specs.Inputs.{inputs_of, total_length}
use Rattle.refusals.specs.declared.refusal.DetailsCause.{DetailsCause}
use Rattle.refusals.specs.declared.refusal.JobFault.{JobFault}
use Rattle.refusals.specs.declared.refusal.JobFault.TheVariants as job
use Rattle.request_words.specs.declared.usage.OptionName.TheVariants as option
use Rattle.request_words.specs.declared.usage.Request.{Request}
use Rattle.schema_facts.specs.Dictionaries.{Project}
use Rattle.schema_facts.specs.Layout.{layout_of}
use Rattle.stream_apply.specs.declared.key_fields.KeyFields.TheVariants.{Two}
use Rattle.detail_plan.specs.Kept.{Kept}
use Rattle.detail_plan.specs.declared.detail.Detail.{Detail}
use Rattle.detail_rows.specs.Applying.{detail_streams}
use Rattle.detail_lines.specs.Lines.{detail_text}
use Rattle.run_jobs.specs.Details.{declaration_names, detail_in, detail_with_words, possible_declaration}
use Rattle.replay_files.specs.Replay.{AreDueFor, IsReplayOf, input_paths, paths_of, possible_of}
use Rattle.run_jobs.specs.InputFiles.{input_limit}
use Rattle.replay_files.specs.declared.replay.Replay.{Replay}
use Rattle.replay_files.specs.declared.replay.Way.TheVariants as way

-- ---- what is asked

-- the detail table, where the first unit is at most the last, and the last one of the plan; else the option that is out of its range
abbrev pub detail_asked : Project → Request → Detail → Result Detail JobFault
detail_asked plan request detail =
    if nat_lt request.to request.from then Err (job.Range option.From)
    else (if nat_lt (layout_of plan).units request.to then Err (job.Range option.To) else Ok detail)

-- the streams of a detail table are applied, to lines whose key is two fields
abbrev pub apply_of_detail : Detail → Replay
apply_of_detail detail = record { way = way.Apply Two; names = detail.name ∷ []; csv = None }

-- ---- what comes of it

abbrev pub AreDetailsOf : Project → Request → List File → Detail → Result (List File) JobFault → Type 0
AreDetailsOf plan request files detail answer = IsReplayOf apply_of_detail (layout_of plan).delimiter request files (detail_asked plan request detail) answer

abbrev pub AreDeclared : Project → Request → List File → Result Kept DetailsCause → Result (List File) JobFault → Type 0
AreDeclared plan request files (Ok kept) answer = AreDetailsOf plan request files kept.detail answer
AreDeclared plan request files (Err cause) answer = answer ≡ Err (job.Details cause)

-- what the mode is due over files: a file that declares no detail table is refused first, then the first unit past the last one, then a
-- last one past the plan's; and then what the replay refuses
abbrev pub IsDetailsApplyDue : Project → Request → List File → Result (List File) JobFault → Type 0
IsDetailsApplyDue plan request files answer = AreDeclared plan request files (detail_in plan files request.spec) answer

-- ---- inputs that a simulation gives

-- what a detail table holds at a unit and what each unit after it changes, as many as `count`, in the order of the inputs
abbrev pub detail_inputs : Project → Kept → ℕ → ℕ → List (List ℕ)
detail_inputs plan kept from count = detail_text plan kept from ∷ flat_map (detail_streams plan kept) (range_with_len (from + 1) count)

-- files hold these as the inputs of a request
pub record HoldDetailInputs (plan : Project) (request : Request) (kept : Kept) (files : List File) : Type 0 where
  pub texts : inputs_of files (input_paths request (apply_of_detail kept.detail)) ≡ detail_inputs plan kept request.from (request.to - request.from)
  pub within : total_length (inputs_of files (input_paths request (apply_of_detail kept.detail))) ≤ input_limit

-- files are that of what the detail table holds at the last unit that is asked for
abbrev pub AreLaterDetails : Project → Request → Kept → List File → Type 0
AreLaterDetails plan request kept due =
    AreDueFor (layout_of plan).delimiter request (apply_of_detail kept.detail) (detail_text plan kept request.to ∷ []) due

-- ---- the names that are asked

abbrev pub detail_paths_asked : Project → Request → List File → Detail → List (List ℕ)
detail_paths_asked plan request files detail = paths_of apply_of_detail request files (detail_asked plan request detail)

-- those that may be asked, where no file is told
abbrev pub detail_paths_possible : Project → Request → Detail → List (List ℕ)
detail_paths_possible plan request detail = possible_of apply_of_detail request (detail_asked plan request detail)

-- the names after those of the declaration and its word lists, where it declares a detail table
abbrev pub behind_declared : (Detail → List (List ℕ)) → Result Kept DetailsCause → List (List ℕ)
behind_declared names (Ok kept) = names kept.detail
behind_declared names (Err cause) = []

-- the names of the declaration and its word lists, and then those of the inputs, up to and with the first with which they are too long
abbrev pub details_apply_asked : Project → Request → List File → List (List ℕ)
details_apply_asked plan request files =
    declaration_names plan files request.spec ++ behind_declared (detail_paths_asked plan request files) (detail_in plan files request.spec)

-- those that may be asked, where the declaration has these bytes, and its word lists these words
abbrev pub details_apply_possible : Project → Request → List ℕ → List WordList → List (List ℕ)
details_apply_possible plan request bytes words =
    possible_declaration plan bytes request.spec ++ behind_declared (detail_paths_possible plan request) (detail_with_words plan bytes words)
