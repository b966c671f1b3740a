-- Mode apply: the texts of tables at a unit and the streams of later units, read from files, and the texts that they make.
use Rattle.std.specs.Prelude.{◌≡◌, ◌≤◌, ℕ, ◌+◌, ◌-◌, nat_lt, List, ◌∷◌, flat_map, map, Option, Some, None, Result, Ok, Err, if◌then◌else◌}
use Rattle.std.specs.List.{range_with_len}
use Rattle.pd_outside.specs.Files.{File}
use Rattle.life_intervals.specs.Generator.{generator_of}
use Rattle.plan_stages.specs.Inputs.{inputs_of, total_length}
use Rattle.refusals.specs.declared.refusal.JobFault.{JobFault}
use Rattle.refusals.specs.declared.refusal.JobFault.TheVariants as job
use Rattle.request_words.specs.declared.usage.Format.{Format}
use Rattle.request_words.specs.declared.usage.Format.TheVariants.{Copy, Csv, Sql}
use Rattle.request_words.specs.declared.usage.OptionName.TheVariants as option
use Rattle.request_words.specs.declared.usage.Request.{Request}
use Rattle.row_lines.specs.Lines.{table_text}
use Rattle.schema_facts.specs.Dictionaries.{Project}
use Rattle.schema_facts.specs.Layout.{layout_of}
use Rattle.schema_plan.specs.Rules.{column_names}
use Rattle.stream_apply.specs.declared.key_fields.KeyFields.TheVariants.{One}
use Rattle.update_box.specs.Packages.{chosen_places}
use Rattle.update_box.specs.Parts.{name_at}
use Rattle.update_box.specs.TextLaws.{unit_streams}
use Rattle.run_jobs.specs.DueFiles.{chosen_table}
use Rattle.run_jobs.specs.Formats.{AreWritten, each_after}
use Rattle.replay_files.specs.Replay.{AreDueFor, IsReplayOf, input_headings, input_paths, paths_of, possible_of}
use Rattle.run_jobs.specs.InputFiles.{input_limit}
use Rattle.replay_files.specs.declared.replay.Replay.{Replay}
use Rattle.replay_files.specs.declared.replay.Way.TheVariants as way

-- ---- what is asked

-- the tables that are chosen, where the units and the table are those of a plan: the first unit is at most the last, the last one of
-- the plan, and a table that is named is there
abbrev pub of_choice : Option (Option ℕ) → Result (Option ℕ) JobFault
of_choice None = Err (job.Range option.Table)
of_choice (Some table) = Ok table

abbrev pub tables_asked : Project → Request → Result (Option ℕ) JobFault
tables_asked plan request =
    if nat_lt request.to request.from then Err (job.Range option.From)
    else (if nat_lt (layout_of plan).units request.to then Err (job.Range option.To) else of_choice (chosen_table plan.schema request.table))

-- the names of the columns of some tables, where they are written as CSV
abbrev pub columns_by : Format → Project → List ℕ → Option (List (List (List ℕ)))
columns_by Copy plan places = None
columns_by Csv plan places = Some (map (column_names plan.schema) places)
columns_by Sql plan places = None

-- the streams of the chosen tables are applied, to lines whose key is one field
abbrev pub apply_of : Project → Request → Option ℕ → Replay
apply_of plan request table = record {
  way = way.Apply One;
  names = map (name_at plan.schema) (chosen_places plan table);
  csv = columns_by request.format plan (chosen_places plan table);
}

-- ---- what comes of it

-- what the mode is due over files: the first unit past the last one is refused first, then a last one past the plan's, then a table that
-- isn't there; and then what the replay refuses
abbrev pub IsApplyDue : Project → Request → List File → Result (List File) JobFault → Type 0
IsApplyDue plan request files answer = IsReplayOf (apply_of plan request) (layout_of plan).delimiter request files (tables_asked plan request) answer

-- the names that are asked, and those that may be asked where no file is told
abbrev pub paths_asked : Project → Request → List File → List (List ℕ)
paths_asked plan request files = paths_of (apply_of plan request) request files (tables_asked plan request)

abbrev pub paths_possible : Project → Request → List (List ℕ)
paths_possible plan request = possible_of (apply_of plan request) request (tables_asked plan request)

-- ---- inputs that a simulation gives

-- what a table holds at a unit and what each unit after it changes, as many as `count`, in the order of a table's inputs
abbrev pub table_inputs : Project → ℕ → ℕ → ℕ → List (List ℕ)
table_inputs plan from count place = table_text (generator_of plan) from place ∷ flat_map (unit_streams plan place) (range_with_len (from + 1) count)

-- files hold these, in its format and each after its heading, as the inputs of a request
pub record HoldInputs (plan : Project) (request : Request) (table : Option ℕ) (files : List File) : Type 0 where
  pub written : List (List ℕ)
  pub texts :
      AreWritten request.format (layout_of plan).delimiter
      (flat_map (table_inputs plan request.from (request.to - request.from)) (chosen_places plan table)) written
  pub are :
      inputs_of files (input_paths request (apply_of plan request table))
      ≡ each_after (input_headings request (apply_of plan request table).csv) written
  pub within : total_length (inputs_of files (input_paths request (apply_of plan request table))) ≤ input_limit

-- files are those of what the tables hold at the last unit that is asked for
abbrev pub AreLaterFiles : Project → Request → Option ℕ → List File → Type 0
AreLaterFiles plan request table due =
    AreDueFor (layout_of plan).delimiter request (apply_of plan request table) (map (table_text (generator_of plan) request.to) (chosen_places plan table)) due
