use Rattle.std.proofs.Common.{All, List, Option, ap, length, map, subst, sym, ◌∙◌, ℕ}
use Rattle.std.specs.List.{range_with_len}
use Rattle.std.proofs.lemmas.List.{length-map}
use Rattle.csv_face.specs.Csv.{HasRows}
use Rattle.pd_outside.specs.Files.{File}
use Rattle.schema_facts.specs.Layout.{layout_of}
use Rattle.update_box.specs.Packages.{chosen_places}
use Rattle.update_box.specs.Parts.{Part, parts_of}
use Rattle.request_words.specs.declared.usage.Format.TheVariants.{Csv}
use Rattle.run_jobs.specs.CsvFiles.{job_headings, part_heading}
use Rattle.run_jobs.specs.Formats.{AreCsvOf, each_after, file_name, header_at, in_directory, made_files, named_files}
use Rattle.table_jobs.proofs.CsvJobLemmas.{length-table_files}
use Rattle.run_jobs.proofs.RowLemmas.{files-rows}
use Rattle.table_jobs.proofs.csv.made_job.Goals as goal

pub csv_of_files-requires-clause-rows : goal.csv_of_files-requires-clause-rows
csv_of_files-requires-clause-rows c =
    let plan = c.args.job.now.plan in
    subst (λ (delimiter : ℕ). All (λ (file : File). HasRows delimiter file.bytes) c.args.files.now) (sym c.delimiter.ensures)
    (subst (λ (files : List File). All (λ (file : File). HasRows (layout_of plan).delimiter file.bytes) files) (sym c.requires.files)
    (files-rows plan c.schema-limits.ensures.limits c.args.contents.now c.args.job.now.asked c.requires.asked.table))

pub csv_of_files-requires-clause-alike : goal.csv_of_files-requires-clause-alike
csv_of_files-requires-clause-alike c =
    let job = c.args.job.now in
    ap length c.in_ok-headings.ensures
    ∙ length-map (parts_of c.args.contents.now (chosen_places job.plan job.asked.table)) (part_heading (header_at job.asked.node c.args.request.now.header) job.plan.schema)
    ∙ sym (ap length c.requires.files ∙ length-table_files c.args.contents.now job.plan job.asked)

pub returns-clause-can : goal.returns-clause-can
returns-clause-can c =
    let job = c.args.job.now in
    let name : Part → List ℕ = λ part. in_directory c.as_str.result.now (file_name Csv job.plan.schema job.asked.unit part) in
    let csvs = c.in_ok-csvs.ensures.count ∙ ap length c.requires.files ∙ length-table_files c.args.contents.now job.plan job.asked in
    ap length c.in_ok-names.ensures
    ∙ length-map (parts_of c.args.contents.now (range_with_len c.places_of-places.result.from c.places_of-places.result.count)) name
    ∙ ap (λ (places : List ℕ). length (parts_of c.args.contents.now places)) c.places_of-places.ensures.places
    ∙ sym csvs

pub returns-clause-made : goal.returns-clause-made
returns-clause-made c =
    let job = c.args.job.now in
    let r = c.args.request.now in
    let texts : List (List ℕ) = map (λ (file : File). file.bytes) c.args.files.now in
    let parts : List Part = parts_of c.args.contents.now (chosen_places job.plan job.asked.table) in
    let name : Part → List ℕ = file_name Csv job.plan.schema job.asked.unit in
    let csvs = c.in_ok-csvs.ensures.csvs in
    let whole : List (List ℕ) = each_after (job_headings c.args.contents.now job.plan r job.asked) csvs.0 in (
      csvs.0,
      subst (λ (delimiter : ℕ). AreCsvOf delimiter texts csvs.0) c.delimiter.ensures csvs.1,
      ap (named_files c.in_ok-names.names) (csvs.2 ∙ ap (λ (headings : List (List ℕ)). each_after headings csvs.0) c.in_ok-headings.ensures)
          ∙ ap (λ (paths : List (List ℕ)). named_files paths whole)
          (c.in_ok-names.ensures
          ∙ ap (λ (places : List ℕ). map (λ part. in_directory c.as_str.result.now (name part)) (parts_of c.args.contents.now places)) c.places_of-places.ensures.places
          ∙ ap (λ (directory : List ℕ). map (λ part. in_directory directory (name part)) parts) c.as_str.ensures.value)
          ∙ ap (λ (out : Option (List ℕ)). made_files name out parts whole) (sym c.in-Some.is),
    )
