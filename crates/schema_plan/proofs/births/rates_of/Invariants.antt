use Rattle.std.proofs.Common.{◌≡◌, map, take}
use Rattle.schema_facts.specs.Layout.{rate_of}
use Rattle.schema_plan.proofs.births.rates_of.Given as goal

abbrev pub invariant-loop-phase : goal.invariant-loop-phase
invariant-loop-phase l = l.rates.items ≡ map rate_of (take l.phase-index l.phases)
