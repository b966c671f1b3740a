use Rattle.std.proofs.Common.{◌≡◌, drop, pos}
use Rattle.schema_plan.specs.Rules.{do_phases_rise}
use Rattle.schema_check.proofs.phase_rules.do_phases_rise.Given as goal

abbrev pub invariant-loop-phase : goal.invariant-loop-phase
invariant-loop-phase l = do_phases_rise l.before (drop l.phase-index l.phases) ≡ do_phases_rise (pos 0) l.phases
