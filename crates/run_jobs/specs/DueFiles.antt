-- The files that a request is due.
use Rattle.std.specs.Prelude.{ℕ, ◌*◌, ◌/◌, List, [], ◌∷◌, Option, Some, None, Result, Ok, Err, if◌then◌else◌, min, nat_lt, not, unwrap_or}
use Rattle.std.specs.Option.{option_map}
use Rattle.pd_outside.specs.Files.{File}
use Rattle.schema_model.specs.declared.table.Schema.{Schema}
use Rattle.schema_facts.specs.Dictionaries.{Project}
use Rattle.schema_facts.specs.Layout.{layout_of}
use Rattle.schema_plan.specs.Planned.{table_named}
use Rattle.schema_facts.specs.TableFacts.{reach}
use Rattle.refusals.specs.declared.refusal.JobFault.{JobFault}
use Rattle.refusals.specs.declared.refusal.JobFault.TheVariants.{Range}
use Rattle.request_words.specs.declared.usage.OptionName.TheVariants as option
use Rattle.request_words.specs.declared.usage.Request.{Request}
use Rattle.update_box.specs.declared.parts.Content.{Content}
use Rattle.update_box.specs.declared.parts.Job.{Job}
use Rattle.update_box.specs.Packages.{share_files, packages_of}
use Rattle.update_box.specs.Parts.{snapshot_contents, standard_output, unit_contents}
use Rattle.update_box.specs.UnitLists.{UnitLists}
use Rattle.run_jobs.specs.declared.job.Told.{Told}
use Rattle.run_jobs.specs.declared.job.Told.TheVariants.{Text, Changes}

-- the table that a request chooses: the one of a name, or none where it names none and so chooses all; nothing where no table has the name
abbrev pub chosen_table : Schema → Option (List ℕ) → Option (Option ℕ)
chosen_table schema None = Some None
chosen_table schema (Some name) = option_map (λ place. Some place) (table_named schema name)

-- the most bytes that the pages of all workers may have together
abbrev pub most_page_bytes : ℕ
most_page_bytes = 67108864

-- how many they have where each worker has eight pages of packages of so many lines, of at most so many bytes each
abbrev pub page_bytes : ℕ → ℕ → ℕ → ℕ
page_bytes workers lines bytes = 8 * workers * lines * bytes

-- how many lines or statements a package has where none is given, by the workers and the most bytes of one: 1,000, or as many as the pages
-- take
abbrev pub default_package : ℕ → ℕ → ℕ
default_package workers bytes = min 1000 (most_page_bytes / (8 * workers * bytes))

abbrev pub package_by : ℕ → Request → ℕ
package_by bytes request = unwrap_or request.package (default_package request.workers bytes)

-- the same of lines
abbrev pub package_of : Project → Request → ℕ
package_of plan request = package_by (reach (layout_of plan)) request

-- what a request asks of the table that is chosen, or of all, in packages of lines or statements of at most so many bytes
abbrev pub job_by : ℕ → Request → Option ℕ → Job
job_by bytes request table = record {
  unit = request.unit;
  table = table;
  «package» = package_by bytes request;
  node = request.node;
  nodes = request.nodes;
}

-- the same where it can be done: a table that isn't there is refused first, then a node that is none of the nodes, and then packages
-- that the pages don't take
abbrev pub asked_of : ℕ → Request → Option (Option ℕ) → Result Job JobFault
asked_of bytes request None = Err (Range option.Table)
asked_of bytes request (Some table) =
    if not (nat_lt request.node request.nodes) then Err (Range option.Node)
    else (if nat_lt most_page_bytes (page_bytes request.workers (package_by bytes request) bytes) then Err (Range option.Package)
    else Ok (job_by bytes request table))

abbrev pub asked_by : ℕ → Project → Request → Result Job JobFault
asked_by bytes plan request = asked_of bytes request (chosen_table plan.schema request.table)

-- of lines
abbrev pub asked : Project → Request → Result Job JobFault
asked plan request = asked_by (reach (layout_of plan)) plan request

-- the files of such contents of a job's tables
abbrev pub table_files : List Content → Project → Option (List ℕ) → Job → List File
table_files contents plan out job = share_files (packages_of contents plan job) out

-- a text as the one file, on the standard output
abbrev pub text_files : List ℕ → List File
text_files text = record { name = standard_output; bytes = text } ∷ []

-- ---- what is told of tables

-- the contents of the files
abbrev pub contents_of : Told → List Content
contents_of Text = snapshot_contents
contents_of Changes = unit_contents

-- what is told where the lists of what a unit changes are at hand, or aren't
abbrev pub told_by : Option UnitLists → Told
told_by None = Text
told_by (Some lists) = Changes
