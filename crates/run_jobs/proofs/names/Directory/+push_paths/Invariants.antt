use Rattle.std.proofs.Common.{length}
use Rattle.run_jobs.proofs.names.Directory.+push_paths.Given as goal

abbrev pub decreases-push_paths : goal.decreases-push_paths
decreases-push_paths l = length l.contents.now
