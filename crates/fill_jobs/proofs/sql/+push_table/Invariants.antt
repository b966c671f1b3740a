use Rattle.std.proofs.Common.{length}
use Rattle.fill_jobs.proofs.sql.+push_table.Given as goal

abbrev pub decreases-push_table : goal.decreases-push_table
decreases-push_table l = length l.contents.now
