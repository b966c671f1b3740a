use Rattle.std.proofs.Common.{◌≡◌, map, take}
use Rattle.std.specs.List.{fold}
use Rattle.cohort_sizes.specs.Births.{with_rate}
use Rattle.schema_facts.specs.Layout.{rate_of}
use Rattle.schema_plan.proofs.births.cohort_size.Given as goal

abbrev pub invariant-loop-phase : goal.invariant-loop-phase
invariant-loop-phase l = l.size ≡ fold (with_rate l.unit) 0 (map rate_of (take l.phase-index l.phase-items))
