use Rattle.std.proofs.Common.{length}
use Rattle.run_jobs.proofs.headings.+push_headings.Given as goal

abbrev pub decreases-push_headings : goal.decreases-push_headings
decreases-push_headings l = length l.contents.now
