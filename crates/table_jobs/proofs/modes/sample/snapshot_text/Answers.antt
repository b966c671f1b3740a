use Rattle.std.proofs.Common.{Some, ap, ◌∙◌}
use Rattle.pd_outside.specs.Files.{file_at}
use Rattle.table_jobs.proofs.SampleLemmas.{snapshot-held}
use Rattle.table_jobs.proofs.modes.sample.snapshot_text.Goals as goal

pub returns-clause-text : goal.returns-clause-text
returns-clause-text g c =
    c.in_ok-text.ensures.items ∙ c.bytes.ensures ∙ ap (λ files. (file_at files 0).bytes) c.finished.ensures
    ∙ snapshot-held c.args.plan c.schema-limits.ensures.limits c.args.request.now c.args.table c.args.unit c.requires.table c.requires.unit
    c.in_ok-job.job.plan c.in_ok-job.job.out c.in_ok-job.job.asked c.in_ok-job.ensures.plan (c.in_ok-job.ensures.out ∙ ap Some c.new.ensures)
    (c.in_ok-job.ensures.asked ∙ c.whole_job-asked.ensures.job) c.new-shelf.result.held c.write_snapshot.new.shelf.held (ap (λ shelf. shelf.held) c.new-shelf.ensures) c.in-Ok.ensures.files
