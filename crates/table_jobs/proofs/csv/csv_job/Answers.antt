use Rattle.std.proofs.Common.{Bool, Err, List, Ok, Result, [], Some, ap, arith, false, inl, inr, map, refl, subst, true, ◌∙◌, ◌≡◌, ◌≤◌}
use Rattle.std.specs.Prelude.{IsTrue, OnOk}
use Rattle.std.specs.List.{sum_by}
use Rattle.std.proofs.lemmas.Bool.{cases_lt}
use Rattle.pd_outside.specs.Files.{File}
use Rattle.pd_outside.specs.Shelf.{Held, finish_files}
use Rattle.schema_facts.specs.Layout.{layout_of}
use Rattle.run_jobs.specs.CsvFiles.{csv_limit}
use Rattle.run_jobs.specs.DueFiles.{table_files}
use Rattle.run_jobs.specs.Formats.{AreCsvOf}
use Rattle.table_jobs.specs.InMemory.{bytes_held, file_length, no_files}
use Rattle.table_jobs.proofs.CsvJobLemmas.{held-due, past_due, within_due}
use Rattle.table_jobs.proofs.TextShelfLemmas.{held-finished}
use Rattle.table_jobs.proofs.csv.csv_job.Goals as goal

pub returns-then-is_past_limit-clause-job : goal.returns-then-is_past_limit-clause-job
returns-then-is_past_limit-clause-job c =
    let job = c.args.job.now in
    let contents = c.args.contents.now in
    let held = c.args.shelf.now.shelf.held in
    let due : List File = table_files contents job.plan (Some []) job.asked in
    let fits : bytes_held held ≤ sum_by file_length due = held-due c.args.written due held c.requires.files c.requires.prefix c.requires.memory in
    λ told. past_due contents job.plan c.args.request.now job.asked (omega (arith, fits, c.if-is_past_limit.ensures.past.0 refl))

pub returns-in-Ok-made_job-clause-job : goal.returns-in-Ok-made_job-clause-job
returns-in-Ok-made_job-clause-job c =
    let job = c.args.job.now in
    let contents = c.args.contents.now in
    let held = c.args.shelf.now.shelf.held in
    let due : List File = table_files contents job.plan (Some []) job.asked in
    let finished : held ≡ finish_files due no_files = of_ok c.args.written c.in-Ok.field-0 (held ≡ finish_files due no_files) c.in-Ok.is c.requires.files in
    let files : c.finished.result.now ≡ due = c.finished.ensures ∙ ap (λ (h : Held). h.finished) finished in
    let all : bytes_held held ≡ sum_by file_length due = ap bytes_held finished ∙ held-finished due in
    let within : bytes_held held ≤ csv_limit = elim (cases_lt csv_limit (bytes_held held)) [
      | inl past ↦ absurd (not_past c.is_past_limit.result c.if-is_past_limit.false (c.is_past_limit.ensures.past.1 past))
      | inr order ↦ order
    ] in
    let made = c.in-Ok-made_job.ensures.made in
    within_due contents job.plan c.args.request.now job.asked made.0 _ (omega (arith, all, within))
    (subst (λ (list : List File). AreCsvOf (layout_of job.plan).delimiter (map (λ (file : File). file.bytes) list) made.0) files made.1) made.2
  where
    of_ok : {A F : Type 0} (answer : Result A F) (value : A) (P : Type 0) → answer ≡ Ok value → OnOk answer P → P
    of_ok (Ok other) value P is on = on
    of_ok (Err fault) value P is on = cc is

    not_past : (is : Bool) → is ≡ false → IsTrue is → ⊥
    not_past true is past = cc is
    not_past false is past = cc past
