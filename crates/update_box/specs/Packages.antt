-- The packages of a job: its parts' shares for a node, each cut into packages of so many entries, and the files of these.
use Rattle.std.specs.Prelude.{◌<◌, ◌≤◌, ℕ, ◌+◌, ◌-◌, ◌*◌, List, [], ◌∷◌, Option, Some, None, IfSome, flat_map, length, map, min}
use Rattle.std.specs.List.{range_with_len, sum_by}
use Rattle.pd_outside.specs.Files.{File}
use Rattle.range_workers.specs.Marks.{Mark}
use Rattle.schema_facts.specs.Dictionaries.{Project}
use Rattle.schema_facts.specs.Layout.{layout_of}
use Rattle.schema_facts.specs.TableFacts.{max_line}
use Rattle.life_intervals.specs.Generator.{last_unit}
use Rattle.row_lines.specs.declared.run_keys.TheConstants.{KEY_LINE}
use Rattle.update_box.specs.Cuts.{cut_at, greatest, package_count, text_in}
use Rattle.update_box.specs.Parts.{Part, entries_in, parts_of, path_of, range_text, standard_output}
use Rattle.update_box.specs.declared.parts.Content.{Content}
use Rattle.update_box.specs.declared.parts.Content.TheVariants as content
use Rattle.update_box.specs.declared.parts.Job.{Job}

-- a table is one of a plan's, where one is chosen
abbrev pub IsChoice : Project → Option ℕ → Type 0
IsChoice plan table = IfSome table (λ place. place < length plan.schema.tables)

-- the places of the tables that are chosen: all in order, or the one
abbrev pub chosen_places : Project → Option ℕ → List ℕ
chosen_places plan None = range_with_len 0 (length plan.schema.tables)
chosen_places plan (Some place) = place ∷ []

-- a job over a plan: its unit and its table are the plan's, a package has 1 to 1,000,000 entries, and the node is one of at most 1,024
pub record IsJobOf (plan : Project) (job : Job) : Type 0 where
  pub unit : job.unit ≤ last_unit plan
  pub table : IsChoice plan job.table
  pub some_entry : 1 ≤ job.package
  pub package_limit : job.package ≤ 1000000
  pub node : job.node < job.nodes
  pub node_limit : job.nodes ≤ 1024

-- the entries of a part from a first position up to another
pub record Share : Type 0 where
  pub part : Part
  pub first : ℕ
  pub end : ℕ

-- the share of a part for the job's node: of n entries, node i of m has those from n * i / m up to n * (i + 1) / m
abbrev pub share_of : Project → Job → Part → Share
share_of plan job part = record {
  part = part;
  first = cut_at (entries_in plan job.unit part) job.node job.nodes;
  end = cut_at (entries_in plan job.unit part) (job.node + 1) job.nodes;
}

-- shares of a plan's tables at a unit, with the number of entries of each package but the last of a share
pub record Packages : Type 0 where
  pub plan : Project
  pub unit : ℕ
  pub size : ℕ
  pub shares : List Share

-- those of a job that tells such contents of each table
abbrev pub packages_of : List Content → Project → Job → Packages
packages_of contents plan job = record {
  plan = plan;
  unit = job.unit;
  size = job.package;
  shares = map (share_of plan job) (parts_of contents (chosen_places plan job.table));
}

-- the text of a share
abbrev pub share_text : Project → ℕ → Share → List ℕ
share_text plan unit share = range_text plan unit share.part.place share.part.content share.first share.end

-- how many packages a share is cut into, and the text of the one of a number: the last one is shorter where the share ends in it
abbrev pub packages_in : ℕ → Share → ℕ
packages_in size share = package_count size (share.end - share.first)

abbrev pub package_text : Project → ℕ → ℕ → Share → ℕ → List ℕ
package_text plan unit size share n =
    range_text plan unit share.part.place share.part.content (share.first + n * size) (min share.end (share.first + (n + 1) * size))

-- how many packages there are in all, and the text of the one of a number: the shares' packages, one share after the other
abbrev pub count_of : Packages → ℕ
count_of packages = sum_by (packages_in packages.size) packages.shares

abbrev pub text_numbered : Packages → ℕ → List ℕ
text_numbered packages n =
    text_in (packages_in packages.size) (package_text packages.plan packages.unit packages.size) packages.shares n

-- the most bytes that an entry gives: the greatest line of the table, or a number of at most 20 digits with a line feed
abbrev pub most_bytes : Project → ℕ → Content → ℕ
most_bytes plan place content.Deleted = KEY_LINE
most_bytes plan place content = max_line (layout_of plan) place

-- the room that the packages want of a page: of each share as many entries as a package has, or fewer where there are fewer
abbrev pub share_room : Project → ℕ → Share → ℕ
share_room plan size share = min size (share.end - share.first) * most_bytes plan share.part.place share.part.content

abbrev pub room_of : Packages → ℕ
room_of packages = greatest (share_room packages.plan packages.size) packages.shares

-- the name of the file of a share in a directory, and the file
abbrev pub share_path : Project → ℕ → List ℕ → Share → List ℕ
share_path plan unit directory share = path_of plan unit directory share.part

abbrev pub share_file : Project → ℕ → List ℕ → Share → File
share_file plan unit directory share = record { name = share_path plan unit directory share; bytes = share_text plan unit share }

-- the files that are due: one for each share in a directory, or all joined on the standard output
abbrev pub share_files : Packages → Option (List ℕ) → List File
share_files packages None =
    record { name = standard_output; bytes = flat_map (share_text packages.plan packages.unit) packages.shares } ∷ []
share_files packages (Some directory) = map (share_file packages.plan packages.unit directory) packages.shares

-- a mark for each of some items, with the number of its first package, where so many packages come before
abbrev pub marks_from : {A : Type 0} → (A → ℕ) → (A → List ℕ) → ℕ → List A → List Mark
marks_from count name from [] = []
marks_from count name from (item ∷ items) = record { first = from; name = name item } ∷ marks_from count name (from + count item) items

-- the names of the files that are due, each with the number of its first package
abbrev pub marks_of : Packages → Option (List ℕ) → List Mark
marks_of packages None = record { first = 0; name = standard_output } ∷ []
marks_of packages (Some directory) =
    marks_from (packages_in packages.size) (share_path packages.plan packages.unit directory) 0 packages.shares
