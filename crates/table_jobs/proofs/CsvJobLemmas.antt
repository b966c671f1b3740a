-- Files that were written into memory, as far as a limit, and what they are due in CSV.
use Rattle.std.proofs.Common.{◌≡◌, ◌<◌, ◌≤◌, ℕ, Bool, false, List, [], length, map, Some, Result, Ok, Err, ap, arith, refl, subst, sym, ◌∙◌}
use Rattle.std.specs.Prelude.{OnOk, nat_lt}
use Rattle.std.specs.List.{sum_by}
use Rattle.std.specs.Result.{IsErrOf}
use Rattle.std.proofs.lemmas.Bool.{le-ltb, lt-ltb}
use Rattle.std.proofs.lemmas.List.{length-map}
use Rattle.pd_outside.specs.Files.{File}
use Rattle.pd_outside.specs.Shelf.{Held, HoldsPrefixOf, finish_files}
use Rattle.range_workers.specs.declared.faults.RunFault.{RunFault}
use Rattle.range_workers.specs.declared.faults.RunFault.TheVariants.{Memory, Write}
use Rattle.refusals.specs.declared.refusal.JobFault.TheVariants.{Range}
use Rattle.request_words.specs.declared.usage.Format.TheVariants.{Csv}
use Rattle.request_words.specs.declared.usage.OptionName.TheVariants as option
use Rattle.request_words.specs.declared.usage.Request.{Request}
use Rattle.schema_facts.specs.Dictionaries.{Project}
use Rattle.schema_facts.specs.Layout.{layout_of}
use Rattle.schema_facts.proofs.Lists.{map-map}
use Rattle.update_box.specs.Packages.{chosen_places, packages_of, share_file, share_of}
use Rattle.update_box.specs.Parts.{parts_of}
use Rattle.update_box.specs.declared.parts.Content.{Content}
use Rattle.update_box.specs.declared.parts.Job.{Job}
use Rattle.run_jobs.specs.CsvFiles.{IsCsvOfJob, IsCsvUnless, csv_limit, job_headings, texts_asked}
use Rattle.run_jobs.specs.DueFiles.{table_files}
use Rattle.run_jobs.specs.Formats.{AreCsvOf, each_after, file_name, made_files}
use Rattle.table_jobs.specs.InMemory.{bytes_held, file_length, no_files}
use Rattle.table_jobs.proofs.TextShelfLemmas.{held-finished, held-prefix, lengths-of_bytes}

-- there is a file for each part
pub length-table_files : (contents : List Content) (plan : Project) (job : Job) → length (table_files contents plan (Some []) job) ≡ length (parts_of contents (chosen_places plan job.table))
length-table_files contents plan job =
    length-map (packages_of contents plan job).shares (share_file plan job.unit [])
    ∙ length-map (parts_of contents (chosen_places plan job.table)) (share_of plan job)

bytes-table_files : (contents : List Content) (plan : Project) (job : Job) → map (λ (file : File). file.bytes) (table_files contents plan (Some []) job) ≡ texts_asked contents plan job
bytes-table_files contents plan job = map-map (λ (file : File). file.bytes) (share_file plan job.unit []) (packages_of contents plan job).shares

-- how many bytes the texts have
length-texts : (contents : List Content) (plan : Project) (job : Job) → sum_by length (texts_asked contents plan job) ≡ sum_by file_length (table_files contents plan (Some []) job)
length-texts contents plan job =
    ap (sum_by length) (sym (bytes-table_files contents plan job)) ∙ lengths-of_bytes (table_files contents plan (Some []) job)

-- no more bytes are held than are due
pub held-due : {A : Type 0} (written : Result A RunFault) (due : List File) (held : Held) → OnOk written (held ≡ finish_files due no_files) →
    (IsErrOf written Write → HoldsPrefixOf due (Some no_files) (Some held)) → (IsErrOf written Memory → held ≡ no_files) → bytes_held held ≤ sum_by file_length due
held-due (Ok done) due held finished prefix none = omega (arith, ap bytes_held finished, held-finished due)
held-due (Err Write) due held finished prefix none = held-prefix due held (prefix refl)
held-due (Err Memory) due held finished prefix none = omega (arith, ap bytes_held (none refl))

-- more bytes than the limit are due
pub past_due : (contents : List Content) (plan : Project) (r : Request) (job : Job) → csv_limit < sum_by file_length (table_files contents plan (Some []) job) →
    IsCsvOfJob contents plan r job (Err (Range option.Format))
past_due contents plan r job past =
    let longer : csv_limit < sum_by length (texts_asked contents plan job) = omega (arith, past, length-texts contents plan job) in
    subst (λ (is : Bool). IsCsvUnless is contents plan r job (Err (Range option.Format))) (sym (lt-ltb csv_limit (sum_by length (texts_asked contents plan job)) longer)) refl

-- no more are
pub within_due : (contents : List Content) (plan : Project) (r : Request) (job : Job) (csvs : List (List ℕ)) (due : List File) →
    sum_by file_length (table_files contents plan (Some []) job) ≤ csv_limit →
    AreCsvOf (layout_of plan).delimiter (map (λ (file : File). file.bytes) (table_files contents plan (Some []) job)) csvs →
    due ≡ made_files (file_name Csv plan.schema job.unit) r.out (parts_of contents (chosen_places plan job.table)) (each_after (job_headings contents plan r job) csvs) →
    IsCsvOfJob contents plan r job (Ok due)
within_due contents plan r job csvs due within are due_is =
    let total : ℕ = sum_by length (texts_asked contents plan job) in
    let short : nat_lt csv_limit total ≡ false = le-ltb csv_limit total (omega (arith, within, length-texts contents plan job)) in
    subst (λ (is : Bool). IsCsvUnless is contents plan r job (Ok due)) (sym short)
    (csvs, subst (λ (texts : List (List ℕ)). AreCsvOf (layout_of plan).delimiter texts csvs) (bytes-table_files contents plan job) are, ap Ok due_is)
