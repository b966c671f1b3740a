-- What a unit does to the rows of a table.
use Rattle.std.specs.Prelude.{ℕ, zero, suc, ◌==◌, List, [], filter, take, is_none, slice_index_or}
use Rattle.schema_facts.specs.Layout.{table_at}
use Rattle.life_intervals.specs.Generator.{Generator}
use Rattle.life_intervals.specs.Rows.{Row}
use Rattle.life_intervals.specs.Simulation.{kept, rows_at, simulation, with_deletions, with_updates}

-- the rows of the table at a place that a unit's deletions don't keep, as they are at the unit before it
unfoldable pub deleted : Generator → ℕ → ℕ → List Row
deleted generator place zero = []
deleted generator place (suc unit) =
    let earlier = take place (with_deletions generator (suc unit) (simulation generator unit)) in
    filter (λ row. is_none (kept (suc unit) earlier (table_at generator.tables place) row)) (rows_at generator place unit)

-- the rows that a unit updates, as they are then: of those that it keeps, the ones that change at it, since they are due or lose a
-- parent
unfoldable pub updated : Generator → ℕ → ℕ → List Row
updated generator place zero = []
updated generator place (suc unit) =
    let kept_state = with_updates generator (suc unit) (with_deletions generator (suc unit) (simulation generator unit)) in
    filter (λ (row : Row). row.changed == suc unit) (slice_index_or kept_state place [])

-- the rows that a unit inserts
unfoldable pub inserted : Generator → ℕ → ℕ → List Row
inserted generator place unit = filter (λ (row : Row). row.born == unit) (rows_at generator place unit)
