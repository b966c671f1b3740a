use Rattle.run_jobs.specs.Formats.{in_directory}
use Rattle.run_jobs.specs.modes.Details.{detail_name}
use Rattle.fill_jobs.proofs.DetailFilesLemmas.{named-alike, unit-within}
use Rattle.fill_jobs.proofs.modes.details.made_job.Goals as goal

pub returns-clause-can : goal.returns-clause-can
returns-clause-can g c = record {
  keeps = c.requires.keeps;
  unit = unit-within c.args.told c.args.plan c.args.request.now.unit c.requires.unit;
  rows = c.requires.rows;
  orders = c.in_ok-orders.ensures;
  some_worker = c.requires.ranges.some_worker;
  worker_limit = c.requires.ranges.worker_limit;
  named =
      named-alike c.args.request.now.out (λ directory content. in_directory directory (detail_name c.detail.result.now c.args.request.now.unit content)) c.args.told _ _ c.in_ok-names.ensures c.in_ok-changes.ensures.told;
  found = c.in_ok-changes.ensures.found;
}
