use Rattle.std.proofs.Common.{Some, ap, ◌∙◌}
use Rattle.table_jobs.proofs.SampleLemmas.{unit-held}
use Rattle.table_jobs.proofs.modes.sample.unit_shelf.Goals as goal

pub returns-in-Ok-clause-texts : goal.returns-in-Ok-clause-texts
returns-in-Ok-clause-texts g c =
    unit-held c.args.plan c.schema-limits.ensures.limits c.args.request.now c.args.table c.args.unit c.requires.table c.requires.unit
    c.in_ok-job.job.of.plan c.in_ok-job.job.of.out c.in_ok-job.job.of.asked c.in_ok-job.ensures.plan (c.in_ok-job.ensures.out ∙ ap Some c.new.ensures)
    (c.in_ok-job.ensures.asked ∙ c.whole_job-asked.ensures.job) c.new-shelf.result.held c.write_unit.new.shelf.held (ap (λ shelf. shelf.held) c.new-shelf.ensures) c.in-Ok.ensures.files
