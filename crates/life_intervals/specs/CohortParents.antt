-- The parents of a cohort's rows, and the rows among which they are chosen.
use Rattle.std.specs.Prelude.{◌≡◌, ◌<◌, ℕ, ◌+◌, max, Bool, false, if◌then◌else◌, List, length, map, sum_by, Option, None, take}
use Rattle.schema_plan.specs.declared.ready.ReadyColumn.{ReadyColumn}
use Rattle.schema_plan.specs.declared.ready.ReadyReference.{ReadyReference}
use Rattle.schema_plan.specs.declared.ready.ReadyKind.{ReadyKind}
use Rattle.schema_plan.specs.declared.ready.ReadyKind.TheVariants as kind
use Rattle.schema_facts.specs.Dictionaries.{Project}
use Rattle.schema_facts.specs.Layout.{TableLayout, column_at, layout_of, table_at}
use Rattle.schema_facts.specs.Lineage.{choice_cost, death_cost, loss_cost, one_if}
use Rattle.schema_plan.specs.Ready.{ready_kind}
use Rattle.schema_facts.specs.References.{Reference, cascades_of, count_in_window, first_in_window, references_of}
use Rattle.life_intervals.specs.declared.window.CandidateWindow.{CandidateWindow}
use Rattle.life_intervals.specs.CohortKeys.{CohortOf}
use Rattle.life_intervals.specs.CohortOrders.{do_lives_differ, do_updates_differ}
use Rattle.life_intervals.specs.Generator.{generator_of, last_unit, table_of}
use Rattle.life_intervals.specs.Intervals.{death, first_death, held_until, known_tables, parent_by}
use Rattle.life_intervals.specs.References.{deal_of}
use Rattle.philox_seeds.specs.SeedTree.{deal_seed}
use Rattle.id_permutation.specs.Order.{Arrangement}

-- the reference that is ready in the column at a place
abbrev pub reference_by : ℕ → ReadyReference → Reference
reference_by column ready =
    record { column = column; parent = ready.parent; window = ready.window; spread = ready.spread; nulls = ready.nulls; drawn = ready.drawn }

-- a reference is ready in the column at a place of the table at a place
pub record IsReferenceOf (plan : Project) (table column : ℕ) (ready : ReadyReference) : Type 0 where
  pub within : column < length (table_of plan table).columns
  pub is : ready_kind (layout_of plan).delimiter (column_at (table_of plan table).columns column).kind ≡ kind.Reference ready

-- the rows that are born in the window of a reference for a unit's cohort, one row where there is none
abbrev pub window_by : Project → ReadyReference → ℕ → CandidateWindow
window_by plan ready unit = record {
  first = first_in_window (table_of plan ready.parent).births ready.window unit;
  count = max 1 (count_in_window (table_of plan ready.parent).births ready.window unit);
}

-- the order in which the candidates of a unit's cohort are dealt by the reference that is ready in the column at a place
abbrev pub deal_by : Project → ℕ → ℕ → ReadyReference → ℕ → Arrangement
deal_by plan table column ready unit =
    deal_of ready.drawn (deal_seed (layout_of plan).seed table column unit) (window_by plan ready unit).count

abbrev pub is_nulling_kind : ReadyKind → Bool
is_nulling_kind (kind.Reference ready) = ready.nulls
is_nulling_kind _ = false

-- a column that is ready as a reference that may become null
abbrev pub is_nulling : ReadyColumn → Bool
is_nulling column = is_nulling_kind column.kind

-- the ordinal of the parent that the row with an index in the cohort has by a reference
abbrev pub parent_in : CohortOf → ℕ → Reference → ℕ
parent_in cohort index reference =
    parent_by (generator_of cohort.plan).order (take cohort.table (known_tables (generator_of cohort.plan))) cohort.unit index reference

-- the unit at which that parent dies; None where it never does
abbrev pub parent_death_in : CohortOf → ℕ → Reference → Option ℕ
parent_death_in cohort index reference =
    death (generator_of cohort.plan) reference.parent (last_unit cohort.plan) (parent_in cohort index reference)

-- the unit at which the row loses it; None where it never does, and where the parent takes it along
abbrev pub loss_in : CohortOf → ℕ → Reference → Option ℕ
loss_in cohort index reference = if reference.nulls then parent_death_in cohort index reference else None

-- those of all its parents
abbrev pub losses_in : CohortOf → ℕ → List (Option ℕ)
losses_in cohort index = map (loss_in cohort index) (references_of (table_of cohort.plan cohort.table))

-- the ordinal of that parent, where the row still has it at a unit
abbrev pub held_in : CohortOf → ℕ → ℕ → Reference → Option ℕ
held_in cohort index unit reference =
    held_until (loss_in cohort index reference) unit (parent_in cohort index reference)

-- the unit at which the first of the parents dies that take it along; None where none ever does
abbrev pub parents_death_in : CohortOf → ℕ → Option ℕ
parents_death_in cohort index =
    first_death (map (parent_death_in cohort index) (cascades_of (table_of cohort.plan cohort.table)))

-- how many permutations the death of the parent by a reference takes at most, with those that choose the parent
abbrev pub parent_cost : List TableLayout → Reference → ℕ
parent_cost tables reference = choice_cost reference.drawn + death_cost tables reference.parent

-- how many the deaths of all parents take that take a row of the table at a place along
abbrev pub cascades_cost : List TableLayout → ℕ → ℕ
cascades_cost tables table = sum_by (parent_cost tables) (cascades_of (table_at tables table))

-- how many permutations tell at most the parent that a row still has by a reference
abbrev pub held_cost : List TableLayout → Reference → ℕ
held_cost tables reference = if reference.nulls then parent_cost tables reference else choice_cost reference.drawn

-- how many permutations the death of a row takes at most, by its cohort: that of its own life where lives of the table differ, and
-- those of the deaths of all parents that take it along
abbrev pub asked_for_death : Project → ℕ → ℕ
asked_for_death plan table = one_if (do_lives_differ (table_of plan table).life) + cascades_cost (layout_of plan).tables table

-- how many the last change of a row takes at most, by its cohort: that of its updates where rows of a cohort may be due at different
-- units, and those of the deaths of all parents that it may lose
abbrev pub asked_for_change : Project → ℕ → ℕ
asked_for_change plan table = one_if (do_updates_differ (table_of plan table).update) + loss_cost (layout_of plan).tables table
