use Rattle.schema_facts.specs.Layout.{layout_of}
use Rattle.run_jobs.proofs.PageLemmas.{pages-more}
use Rattle.table_jobs.proofs.modes.snapshot.stated_snapshot.Goals as goal

pub tables_job-requires-clause-pages : goal.tables_job-requires-clause-pages
tables_job-requires-clause-pages c = pages-more (layout_of c.args.plan) c.args.request.now.workers c.args.asked.package c.requires.pages
