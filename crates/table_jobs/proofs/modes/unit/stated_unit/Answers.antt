use Rattle.schema_facts.specs.Layout.{layout_of}
use Rattle.run_jobs.proofs.PageLemmas.{pages-more}
use Rattle.table_jobs.proofs.modes.unit.stated_unit.Goals as goal

pub found_job-requires-clause-pages : goal.found_job-requires-clause-pages
found_job-requires-clause-pages g c = pages-more (layout_of c.args.plan) c.args.request.now.workers c.args.asked.package c.requires.pages
