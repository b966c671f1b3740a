-- Mode revert: the texts of tables at a unit and the undo texts back to an earlier one, read from files, and the texts that they make.
use Rattle.std.specs.Prelude.{◌≡◌, ◌≤◌, ℕ, ◌+◌, ◌-◌, nat_lt, List, ◌∷◌, flat_map, map, Option, None, Result, Err, if◌then◌else◌}
use Rattle.pd_outside.specs.Files.{File}
use Rattle.life_intervals.specs.Generator.{generator_of}
use Rattle.plan_stages.specs.Inputs.{inputs_of, total_length}
use Rattle.refusals.specs.declared.refusal.JobFault.{JobFault}
use Rattle.refusals.specs.declared.refusal.JobFault.TheVariants as job
use Rattle.request_words.specs.declared.usage.OptionName.TheVariants as option
use Rattle.request_words.specs.declared.usage.Request.{Request}
use Rattle.row_lines.specs.Lines.{table_text}
use Rattle.schema_facts.specs.Dictionaries.{Project}
use Rattle.schema_facts.specs.Layout.{layout_of}
use Rattle.update_box.specs.Packages.{chosen_places}
use Rattle.update_box.specs.Parts.{name_at}
use Rattle.run_jobs.specs.DueFiles.{chosen_table}
use Rattle.replay_files.specs.Replay.{AreDueFor, IsReplayOf, input_paths, paths_of, possible_of}
use Rattle.run_jobs.specs.InputFiles.{input_limit}
use Rattle.replay_files.specs.UndoLaws.{undo_texts}
use Rattle.replay_files.specs.declared.replay.Replay.{Replay}
use Rattle.replay_files.specs.declared.replay.Way.TheVariants as way
use Rattle.replay_files.specs.modes.Apply.{of_choice}

-- ---- what is asked

-- the tables that are chosen, where the units and the table are those of a plan: the later unit is one of the plan, the earlier one is at most
-- that, and a table that is named is there
abbrev pub tables_reverted : Project → Request → Result (Option ℕ) JobFault
tables_reverted plan request =
    if nat_lt (layout_of plan).units request.from then Err (job.Range option.From)
    else (if nat_lt request.from request.to then Err (job.Range option.To) else of_choice (chosen_table plan.schema request.table))

-- the undo texts of the chosen tables are undone
abbrev pub revert_of : Project → Option ℕ → Replay
revert_of plan table = record { way = way.Undo; names = map (name_at plan.schema) (chosen_places plan table); csv = None }

-- ---- what comes of it

-- what the mode is due over files: a later unit past the plan's is refused first, then an earlier one past the later one, then a table that
-- isn't there; and then what the replay refuses
abbrev pub IsRevertDue : Project → Request → List File → Result (List File) JobFault → Type 0
IsRevertDue plan request files answer = IsReplayOf (revert_of plan) (layout_of plan).delimiter request files (tables_reverted plan request) answer

-- the names that are asked, and those that may be asked where no file is told
abbrev pub undo_paths_asked : Project → Request → List File → List (List ℕ)
undo_paths_asked plan request files = paths_of (revert_of plan) request files (tables_reverted plan request)

abbrev pub undo_paths_possible : Project → Request → List (List ℕ)
undo_paths_possible plan request = possible_of (revert_of plan) request (tables_reverted plan request)

-- ---- inputs that a simulation gives

-- what a table holds at the later unit and the undo texts of the units down to the earlier one, in the order of a table's inputs
abbrev pub undo_inputs : Project → ℕ → ℕ → ℕ → List (List ℕ)
undo_inputs plan to count place = table_text (generator_of plan) (to + count) place ∷ undo_texts plan place to count

-- files hold these as the inputs of a request
pub record HoldUndoInputs (plan : Project) (request : Request) (table : Option ℕ) (files : List File) : Type 0 where
  pub texts :
      inputs_of files (input_paths request (revert_of plan table))
      ≡ flat_map (undo_inputs plan request.to (request.from - request.to)) (chosen_places plan table)
  pub within : total_length (inputs_of files (input_paths request (revert_of plan table))) ≤ input_limit

-- files are those of what the tables hold at the earlier unit
abbrev pub AreEarlierFiles : Project → Request → Option ℕ → List File → Type 0
AreEarlierFiles plan request table due =
    AreDueFor (layout_of plan).delimiter request (revert_of plan table) (map (table_text (generator_of plan) request.to) (chosen_places plan table)) due
