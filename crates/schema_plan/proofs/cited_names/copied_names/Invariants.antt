use Rattle.std.proofs.Common.{◌≡◌, map, take}
use Rattle.schema_plan.proofs.cited_names.copied_names.Given as goal

abbrev pub invariant-loop-name : goal.invariant-loop-name
invariant-loop-name l = l.copied ≡ map (λ name. name.now) (take l.name-index l.name-items)
