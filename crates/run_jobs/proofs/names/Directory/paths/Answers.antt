use Rattle.run_jobs.specs.Formats.{file_name, in_directory}
use Rattle.run_jobs.proofs.MoreLemmas.{parts_more}
use Rattle.run_jobs.proofs.names.Directory.paths.Goals as goal

pub loop-number-preserved : goal.loop-number-preserved
loop-number-preserved c =
    parts_more (λ part. in_directory c.args.self.now.name.now (file_name c.args.self.now.format c.args.self.now.plan.now.schema c.args.unit part)) c.args.contents.now c.args.places.from c.loop-number.number
    c.loop-number.paths _ c.loop-number.invariant c.in_ok-push_paths.ensures
