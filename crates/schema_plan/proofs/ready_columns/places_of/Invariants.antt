use Rattle.std.proofs.Common.{◌≡◌, map, take}
use Rattle.schema_facts.specs.Layout.{place_of_column}
use Rattle.schema_plan.proofs.ready_columns.places_of.Given as goal

abbrev pub invariant-loop-name : goal.invariant-loop-name
invariant-loop-name l = l.places ≡ map (place_of_column l.columns) (take l.name-index l.names)
