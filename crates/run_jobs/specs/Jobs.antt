-- What a job is due.
use Rattle.std.specs.Prelude.{◌≡◌, ℕ, ◌-◌, ◌≤◌, Bool, true, false, IfSome, List, Some, Vec, length, map, ⊤}
use Rattle.std.specs.Global.{Global}
use Rattle.pd_outside.specs.Files.{File}
use Rattle.request_words.specs.declared.usage.Request.{Request}
use Rattle.detail_plan.specs.Kept.{KeepsRules}
use Rattle.detail_lines.specs.Lines.{parent_place}
use Rattle.life_intervals.specs.Generator.{last_unit}
use Rattle.life_intervals.specs.JobOrders.{AreOrdersOf}
use Rattle.schema_facts.specs.Layout.{layout_of}
use Rattle.schema_facts.specs.TableFacts.{reach}
use Rattle.update_box.specs.Packages.{IsJobOf, chosen_places}
use Rattle.update_box.specs.Parts.{Part, snapshot_contents, unit_contents}
use Rattle.update_box.specs.Prepared.{AreChosen, ArePrepared, IsAmong}
use Rattle.update_box.specs.declared.parts.Content.{Content}
use Rattle.update_box.specs.declared.parts.Content.TheVariants as content
use Rattle.undo_streams.specs.Places.{places_of}
use Rattle.update_box.specs.TableLists.{HoldLists, table_lists_at}
use Rattle.update_box.specs.UnitLists.{UnitLists}
use Rattle.sql_lines.specs.Reach.{statement_reach}
use Rattle.run_jobs.specs.DueFiles.{contents_of, most_page_bytes, page_bytes, table_files, text_files, told_by}
use Rattle.run_jobs.specs.declared.job.DetailsJob.{DetailsJob}
use Rattle.run_jobs.specs.declared.job.Job.{Job}
use Rattle.run_jobs.specs.declared.job.Job.TheVariants.{Details, Files, Text, Page, Script, Snapshot, Undo, Unit}
use Rattle.run_jobs.specs.declared.job.ScriptJob.{ScriptJob}
use Rattle.run_jobs.specs.declared.job.TablesJob.{TablesJob}
use Rattle.run_jobs.specs.declared.job.Told.{Told}
use Rattle.run_jobs.specs.declared.job.Told.TheVariants as telling
use Rattle.run_jobs.specs.declared.job.UndoJob.{UndoJob}
use Rattle.run_jobs.specs.declared.job.UnitJob.{UnitJob}
use Rattle.run_jobs.specs.Formats.{named_files}
use Rattle.run_jobs.specs.SqlFiles.{statement_files}
use Rattle.run_jobs.specs.modes.Details.{files_by, told_texts}
use Rattle.run_jobs.specs.modes.Undo.{undo_files, undo_reach}

-- the numbers of a request that asks of tables are within their ranges: the workers, and the lines of a package where they are given
abbrev pub IsPackageSize : ℕ → Type 0
IsPackageSize lines = (1 ≤ lines) × (lines ≤ 1000000)

pub record CanPackBy (request : Request) : Type 0 where
  pub some_worker : 1 ≤ request.workers
  pub worker_limit : request.workers ≤ 64
  pub lines : IfSome request.package IsPackageSize

-- and the nodes
pub record CanAsk (request : Request) : Type 0 where
  pub by : CanPackBy request
  pub node_limit : request.nodes ≤ 1024

-- the files of a job
abbrev pub due_of : Job → List File
due_of (Text bytes) = text_files bytes.items
due_of (Page page) = text_files page.text
due_of (Snapshot job) = table_files snapshot_contents job.plan job.out job.asked
due_of (Unit job) = table_files unit_contents job.of.plan job.of.out job.of.asked
due_of (Script job) = statement_files (told_by job.changes) job.of.plan job.of.out job.of.asked
due_of (Undo job) = undo_files job.of.of.plan job.of.of.out job.of.of.asked
due_of (Files job) = named_files job.names job.texts
due_of (Details job) = files_by job.names (told_texts (told_by job.changes) job.plan job.kept job.unit)

-- a job can be cut into packages: what is asked is of the plan, the tables are prepared, and the pages of its workers, 1 to 64, have no
-- more bytes than they may
pub record CanPack (job : TablesJob) : Type 0 where
  pub asked : IsJobOf job.plan job.asked
  pub prepared : ArePrepared job.plan job.tables
  pub chosen : AreChosen job.plan job.asked.table job.tables
  pub some_worker : 1 ≤ job.workers
  pub worker_limit : job.workers ≤ 64
  pub pages : page_bytes job.workers job.asked.package (reach (layout_of job.plan)) ≤ most_page_bytes

-- and what the unit changes in its tables was found
pub record CanPackUnit (job : UnitJob) : Type 0 where
  pub of : CanPack job.of
  pub later : 1 ≤ job.of.asked.unit
  pub found : HoldLists job.of.plan job.of.asked.unit job.of.asked.table job.rows

-- a job of statements: the pages take these too, and where changes are told, what the unit changes was found
pub record CanState (job : ScriptJob) : Type 0 where
  pub of : CanPack job.of
  pub pages : page_bytes job.of.workers job.of.asked.package (statement_reach (layout_of job.of.plan)) ≤ most_page_bytes
  pub found : IfSome job.changes (λ (lists : UnitLists). HoldLists job.of.plan job.of.asked.unit job.of.asked.table lists)

-- of a table's rows at a unit the snapshot is told
abbrev pub IsToldAs : Told → Content → Type 0
IsToldAs telling.Text it = it ≡ content.Snapshot
IsToldAs telling.Changes it = ⊤

-- a part of a job of statements
pub record IsPartOf (job : ScriptJob) (part : Part) : Type 0 where
  pub among : IsAmong job.of.tables part.place
  pub told : IsToldAs (told_by job.changes) part.content

-- the places that the rows which a unit deletes had at the unit before, table by table
abbrev pub HasPlaces : UnitJob → List (Vec ℕ Global) → Type 0
HasPlaces job places =
    map (λ (found : Vec ℕ Global). found.items) places
    ≡ map (λ place. places_of job.of.plan place (job.of.asked.unit - 1) (table_lists_at job.rows place).deleted) (chosen_places job.of.plan job.of.asked.table)

-- and so were the places, and the pages take lines of undo texts too
pub record CanUndo (job : UndoJob) : Type 0 where
  pub of : CanPackUnit job.of
  pub found : HasPlaces job.of job.places.items
  pub pages : page_bytes job.of.of.workers job.of.of.asked.package (undo_reach job.of.of.plan) ≤ most_page_bytes

-- whether it is a text alone
abbrev pub is_text : Job → Bool
is_text (Text bytes) = true
is_text _ = false

-- a detail table's lines can be told: it keeps the rules, at a unit of the plan, in packages of 1 to 1,000,000 rows of its parent, whose orders
-- are the plan's; there are 1 to 64 workers, and a name for each file, where they have names; and what the unit changes in the parent was found
pub record CanPackDetails (job : DetailsJob) : Type 0 where
  pub keeps : KeepsRules job.plan job.kept
  pub unit : job.unit ≤ last_unit job.plan
  pub rows : IsPackageSize job.size
  pub orders : AreOrdersOf job.plan job.orders
  pub some_worker : 1 ≤ job.workers
  pub worker_limit : job.workers ≤ 64
  pub named : IfSome job.names (λ (names : List (List ℕ)). length names ≡ length (contents_of (told_by job.changes)))
  pub found : IfSome job.changes (λ (lists : UnitLists). (1 ≤ job.unit) × HoldLists job.plan job.unit (Some (parent_place job.plan job.kept.detail)) lists)

abbrev pub CanFill : Job → Type 0
CanFill (Text bytes) = ⊤
CanFill (Page page) = ⊤
CanFill (Snapshot job) = CanPack job
CanFill (Unit job) = CanPackUnit job
CanFill (Script job) = CanState job
CanFill (Undo job) = CanUndo job
CanFill (Files job) = length job.names ≡ length job.texts
CanFill (Details job) = CanPackDetails job
