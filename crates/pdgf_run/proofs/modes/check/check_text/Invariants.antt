use Rattle.std.proofs.Common.{◌≡◌}
use Rattle.pdgf_run.specs.modes.Check.{check_lines}
use Rattle.pdgf_run.proofs.modes.check.check_text.Given as goal

abbrev pub invariant-loop-table : goal.invariant-loop-table
invariant-loop-table l = l.text.items ≡ check_lines l.plan l.table
