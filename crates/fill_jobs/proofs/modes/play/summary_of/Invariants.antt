use Rattle.std.proofs.Common.{◌≡◌}
use Rattle.fill_jobs.specs.modes.Play.{play_lines}
use Rattle.fill_jobs.proofs.modes.play.summary_of.Given as goal

abbrev pub invariant-loop-table : goal.invariant-loop-table
invariant-loop-table g l = l.text.items ≡ play_lines l.plan l.unit l.table
