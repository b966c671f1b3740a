use Rattle.std.proofs.Common.{◌≡◌, ◌≤◌, ◌<◌, ◌+◌, ◌-◌, ◌*◌, ℕ, get_or, length}
use Rattle.cohort_sizes.specs.Births.{first_ordinal}
use Rattle.life_intervals.specs.CohortOrders.{due_for}
use Rattle.life_intervals.specs.Generator.{table_of}
use Rattle.life_intervals.proofs.CohortParentLemmas.{change_before, loss_before}
use Rattle.life_intervals.proofs.rows.Rows.put_losses.Given as goal

-- the last of the due units and of the losses by the references before a column, and what these have cost
abbrev pub invariant-loop-column : goal.invariant-loop-column
invariant-loop-column g l = record {
  same_length : length l.changes ≡ length l.ordinals;
  changes : (i : ℕ) → i < length l.ordinals →
      get_or l.changes i 0
      ≡ change_before (record { plan = l.self; table = l.table; unit = l.born }) (get_or l.ordinals i 0 - first_ordinal (table_of l.self l.table).births l.born) (due_for l.self l.table l.t l.born (get_or l.ordinals i 0)) l.t l.column;
  steps : l.steps ≤ l.fn.steps + length l.ordinals * loss_before (record { plan = l.self; table = l.table; unit = l.born }) l.column;
}
