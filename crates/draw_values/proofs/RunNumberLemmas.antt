-- The days and the numbers of a run's rows in a column, by what a plan keeps ready for the column.
use Rattle.std.proofs.Common.{◌≡◌, ◌≤◌, ℕ, ℤ, Option, None, Some, refl, ap, subst, sym, ◌∙◌}
use Rattle.std.specs.Prelude.{IfSome}
use Rattle.philox_seeds.specs.SeedTree.{draw}
use Rattle.schema_plan.specs.declared.ready.ReadyColumn.{ReadyColumn}
use Rattle.schema_facts.specs.ColumnFacts.{field_facts}
use Rattle.schema_facts.specs.Dictionaries.{Project}
use Rattle.schema_facts.specs.Layout.{KindLayout, column_at, layout_of, table_at}
use Rattle.schema_plan.specs.Limits.{IsTableInLimits}
use Rattle.draw_values.specs.declared.leaf_numbers.Number.{Number}
use Rattle.draw_values.specs.declared.runs.RunRows.{RunRows}
use Rattle.draw_values.specs.declared.values.RowAt.{RowAt}
use Rattle.draw_values.specs.CohortValues.{IsDayOf, IsNumberOf}
use Rattle.draw_values.specs.ReadyValues.{ready_own_day, ready_own_number}
use Rattle.draw_values.specs.Runs.{IsRunColumn, RunColumnOf, day_in, number_in, ready_at, run_row, run_seed}
use Rattle.draw_values.specs.Values.{Draws, draws_at}
use Rattle.draw_values.proofs.ColumnLemmas.{own_day-ready, own_number-ready}
use Rattle.draw_values.proofs.OwnEndLemmas.{own_day-within, own_number-within, table_here}
use Rattle.draw_values.proofs.RunLemmas.{run_draws}

-- what the column holds
abbrev kind_in : Project → RunColumnOf → KindLayout
kind_in plan run = (column_at (table_at (layout_of plan).tables run.table).columns run.column).kind

-- ---- days

day_is : (plan : Project) (run : RunColumnOf) (column : ReadyColumn) (at : RowAt) (draws : Draws) → column ≡ ready_at plan run.table run.column →
    draws ≡ draws_at (layout_of plan) run.table at run.column → ready_own_day at draws column.kind ≡ day_in plan run at
day_is plan run column at draws is drawn =
    ap (λ (found : Draws). ready_own_day at found column.kind) drawn
    ∙ ap (λ (found : ReadyColumn). ready_own_day at (draws_at (layout_of plan) run.table at run.column) found.kind) is
    ∙ own_day-ready (layout_of plan).delimiter at (draws_at (layout_of plan) run.table at run.column) (kind_in plan run)

-- of a row of a run
pub run_day : (plan : Project) (run : RunColumnOf) (column : ReadyColumn) (rows : RunRows) (i : ℕ) → IsRunColumn plan run → column ≡ ready_at plan run.table run.column →
    ready_own_day (run_row rows i) (draw (run_seed run.seed column.changes rows i)) column.kind ≡ day_in plan run (run_row rows i)
run_day plan run column rows i of is = day_is plan run column (run_row rows i) (draw (run_seed run.seed column.changes rows i)) is (run_draws plan run column rows i of is)

-- where none are shown
pub no_day : (plan : Project) (run : RunColumnOf) (column : ReadyColumn) (at : RowAt) → column ≡ ready_at plan run.table run.column →
    ((at : RowAt) → (draws : Draws) → ready_own_day at draws column.kind ≡ None) → day_in plan run at ≡ None
no_day plan run column at is none =
    let draws : Draws = draws_at (layout_of plan) run.table at run.column in
    sym (day_is plan run column at draws is refl) ∙ none at draws

-- a day that is shown is among those that the facts tell
pub day-within : (plan : Project) (run : RunColumnOf) (at : RowAt) (day : ℤ) → IsRunColumn plan run → IsTableInLimits (layout_of plan).units (table_at (layout_of plan).tables run.table) →
    at.born ≤ (layout_of plan).units → at.changed ≤ (layout_of plan).units → day_in plan run at ≡ Some day → IsDayOf (field_facts (layout_of plan) run.table run.column).days day
day-within plan run at day of limits born changed is =
    let here = table_here (record { plan = plan; table = run.table; born = 0; changed = 0 }) of.table_within in
    subst (λ (found : Option ℤ). IfSome found (IsDayOf (field_facts (layout_of plan) run.table run.column).days)) is
    (own_day-within (layout_of plan) run.table run.column at (draws_at (layout_of plan) run.table at run.column) here limits of.column_within born changed)

-- ---- numbers

number_is : (plan : Project) (run : RunColumnOf) (column : ReadyColumn) (at : RowAt) (draws : Draws) → column ≡ ready_at plan run.table run.column →
    draws ≡ draws_at (layout_of plan) run.table at run.column → ready_own_number draws column.kind ≡ number_in plan run at
number_is plan run column at draws is drawn =
    ap (λ (found : Draws). ready_own_number found column.kind) drawn
    ∙ ap (λ (found : ReadyColumn). ready_own_number (draws_at (layout_of plan) run.table at run.column) found.kind) is
    ∙ own_number-ready (layout_of plan).delimiter (draws_at (layout_of plan) run.table at run.column) (kind_in plan run)

-- of a row of a run
pub run_number : (plan : Project) (run : RunColumnOf) (column : ReadyColumn) (rows : RunRows) (i : ℕ) → IsRunColumn plan run → column ≡ ready_at plan run.table run.column →
    ready_own_number (draw (run_seed run.seed column.changes rows i)) column.kind ≡ number_in plan run (run_row rows i)
run_number plan run column rows i of is = number_is plan run column (run_row rows i) (draw (run_seed run.seed column.changes rows i)) is (run_draws plan run column rows i of is)

-- where none are drawn
pub no_number : (plan : Project) (run : RunColumnOf) (column : ReadyColumn) (at : RowAt) → column ≡ ready_at plan run.table run.column →
    ((draws : Draws) → ready_own_number draws column.kind ≡ None) → number_in plan run at ≡ None
no_number plan run column at is none =
    let draws : Draws = draws_at (layout_of plan) run.table at run.column in
    sym (number_is plan run column at draws is refl) ∙ none draws

-- a number that is drawn is among those that the facts tell
pub number-within : (plan : Project) (run : RunColumnOf) (at : RowAt) (number : Number) → IsRunColumn plan run → IsTableInLimits (layout_of plan).units (table_at (layout_of plan).tables run.table) →
    number_in plan run at ≡ Some number → IsNumberOf (field_facts (layout_of plan) run.table run.column).numbers number
number-within plan run at number of limits is =
    let here = table_here (record { plan = plan; table = run.table; born = 0; changed = 0 }) of.table_within in
    subst (λ (found : Option Number). IfSome found (IsNumberOf (field_facts (layout_of plan) run.table run.column).numbers)) is
    (own_number-within (layout_of plan) run.table run.column (draws_at (layout_of plan) run.table at run.column) here limits of.column_within)
