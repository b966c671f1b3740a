use Rattle.std.proofs.Common.{◌≡◌, List, ℕ, sum_by, take}
use Rattle.schema_facts.specs.Capped.{capped}
use Rattle.schema_facts.specs.FieldCosts.{cost_among}
use Rattle.schema_facts.specs.Layout.{place_of_column}
use Rattle.schema_facts.proofs.field_costs.cost_of_named.Given as goal

abbrev pub invariant-loop-name : goal.invariant-loop-name
invariant-loop-name l =
    l.cost ≡ capped (sum_by (λ (name : List ℕ). cost_among l.before.columns.now (place_of_column l.before.table.now.columns name)) (take l.name-index l.names))
