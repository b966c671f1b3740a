-- What a request to play does to a store.
use Rattle.std.specs.Prelude.{◌≡◌, ◌≢◌, ◌≤◌, ℕ, Bool, true, false, List, length, take, Option, Result, Ok, Err, IfSome, IsOk, OnErr, OnOk}
use Rattle.std.specs.Option.{option_map}
use Rattle.pd_outside.specs.Files.{File}
use Rattle.plan_stages.specs.Plans.{plan_in}
use Rattle.request_words.specs.declared.usage.Mode.TheVariants.{Play}
use Rattle.request_words.specs.declared.usage.Mode.{Mode}
use Rattle.request_words.specs.declared.usage.Request.{Request}
use Rattle.request_words.specs.declared.usage.UsageFault.{UsageFault}
use Rattle.schema_facts.specs.Dictionaries.{Project}
use Rattle.life_intervals.specs.Generator.{generator_of, last_unit}
use Rattle.life_intervals.specs.JobOrders.{AreOrdersOf}
use Rattle.row_keeper.specs.Kept.{KeptRows, Statement}
use Rattle.keeper_play.specs.Played.{Changes}
use Rattle.keeper_play.specs.Statements.{rows_after, rows_of_unit, statements_to}
use Rattle.row_keeper.specs.Store.{Store, perform_all}
use Rattle.update_box.specs.UnitLists.{TableLists}
use Rattle.run_jobs.specs.DueFiles.{text_files}
use Rattle.run_jobs.specs.Jobs.{CanFill, due_of}
use Rattle.run_jobs.specs.declared.job.PlayJob.{PlayJob}
use Rattle.run_jobs.specs.declared.job.Task.{Task}
use Rattle.run_jobs.specs.declared.job.Task.TheVariants as task

-- ---- a store

-- a store of this name into which the units up to one were played, and which is finished: it has exactly the rows that the tables hold at
-- that unit, after as many statements as these units have
abbrev pub played_store : Project → ℕ → List ℕ → Store → Store
played_store plan unit name before = record {
  rows = option_map (λ (rows : KeptRows). rows_of_unit (generator_of plan) unit) before.rows;
  name = option_map (λ (last : List ℕ). name) before.name;
  is_open = false;
  done = length (statements_to (generator_of plan) unit);
}

-- one that is broken off and still open: it has the rows after the first statements of these units, as many as were made
pub record IsBrokenOff (plan : Project) (unit : ℕ) (name : List ℕ) (before now : Store) : Type 0 where
  pub within : now.done ≤ length (statements_to (generator_of plan) unit)
  pub made : now ≡ record {
    rows = option_map (λ (rows : KeptRows). rows_after (generator_of plan) unit now.done) before.rows;
    name = option_map (λ (last : List ℕ). name) before.name;
    is_open = true;
    done = now.done;
  }

-- of some statements the first ones were made, in order, or all
pub record AreMade (statements : List Statement) (before now : Store) : Type 0 where
  pub count : ℕ
  pub within : count ≤ length statements
  pub made : now ≡ perform_all (take count statements) before

-- what a unit does to a table, as its lists tell it
abbrev pub changes_told : TableLists → Changes
changes_told lists = record { deleted = lists.deleted; updated = lists.updated; inserted = lists.inserted }

-- ---- what is to be done

-- the files that a task is due: in play a summary
abbrev pub task_due : Task → List File
task_due (task.Write job) = due_of job
task_due (task.Play job) = text_files job.summary.items

-- units of the plan are played, by orders of its own
pub record CanPlay (job : PlayJob) : Type 0 where
  pub unit : job.to ≤ last_unit job.plan
  pub orders : AreOrdersOf job.plan job.orders

abbrev pub CanDo : Task → Type 0
CanDo (task.Write job) = CanFill job
CanDo (task.Play job) = CanPlay job

-- it plays the units up to a request's, of the schema that this names, into its store
pub record IsPlayOf (request : Request) (told : Option (List File)) (job : PlayJob) : Type 0 where
  pub mode : request.mode ≡ Play
  pub to : job.to ≡ request.to
  pub store : job.store ≡ request.store
  pub plan : IfSome told (λ (files : List File). plan_in files request.schema ≡ Ok job.plan)

-- the same over a plan
pub record IsPlayOver (request : Request) (over : Project) (job : PlayJob) : Type 0 where
  pub mode : request.mode ≡ Play
  pub to : job.to ≡ request.to
  pub store : job.store ≡ request.store
  pub plan : job.plan ≡ over

abbrev pub IsTaskOver : Request → Project → Task → Type 0
IsTaskOver request plan (task.Write job) = request.mode ≢ Play
IsTaskOver request plan (task.Play job) = IsPlayOver request plan job

-- a task plays exactly where its request asks for that
abbrev pub IsTaskOf : Request → Option (List File) → Task → Type 0
IsTaskOf request told (task.Write job) = request.mode ≢ Play
IsTaskOf request told (task.Play job) = IsPlayOf request told job

-- what a job to play does to a store: it plays all, or is broken off, where the store isn't opened or stays open
pub record DoesPlay {T E : Type 0} (job : PlayJob) (result : Result T E) (before now : Store) : Type 0 where
  pub played : OnOk result (now ≡ played_store job.plan job.to job.store before)
  pub broken_off : OnErr result (now.is_open ≡ true → IsBrokenOff job.plan job.to job.store before now)
  pub not_opened : OnErr result (now.is_open ≡ false → now ≡ before)

-- what a task does: only one to play does anything
abbrev pub DoesTask : {T E : Type 0} → Task → Result T E → Store → Store → Type 0
DoesTask (task.Write job) result before now = IsOk result × (now ≡ before)
DoesTask (task.Play job) result before now = DoesPlay job result before now

-- what a task that was carried out did to a store
abbrev pub HasPlayed : Task → Store → Store → Type 0
HasPlayed (task.Write job) before now = now ≡ before
HasPlayed (task.Play job) before now = now ≡ played_store job.plan job.to job.store before

-- what a task that left it open did
abbrev pub HasBrokenOff : Task → Store → Store → Type 0
HasBrokenOff (task.Write job) before now = ⊥
HasBrokenOff (task.Play job) before now = IsBrokenOff job.plan job.to job.store before now

-- whether it is one to play
abbrev pub is_playing : Task → Bool
is_playing (task.Write job) = false
is_playing (task.Play job) = true

-- ---- words

-- whether a mode plays
abbrev pub is_play : Mode → Bool
is_play Play = true
is_play mode = false

-- whether words ask for it
abbrev pub plays_for : Result Request UsageFault → Bool
plays_for (Err fault) = false
plays_for (Ok request) = is_play request.mode
