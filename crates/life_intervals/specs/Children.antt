-- The rows of a cohort that have a row as their parent.
use Rattle.std.specs.Prelude.{ℕ, ◌+◌, ◌-◌, ◌<◌, ◌≤◌, ◌==◌, IfSome, List, filter, Option}
use Rattle.std.specs.List.{flat_map}
use Rattle.philox_seeds.specs.SeedTree.{deal_seed}
use Rattle.id_permutation.specs.Order.{Arrangement, number_at}
use Rattle.cohort_sizes.specs.Births.{born_count, cohort_size, first_ordinal}
use Rattle.schema_facts.specs.Dictionaries.{Project}
use Rattle.schema_facts.specs.Layout.{layout_of}
use Rattle.schema_facts.specs.References.{Reference, count_in_window, first_in_window}
use Rattle.life_intervals.specs.declared.children.Block.{Block}
use Rattle.life_intervals.specs.Blocks.{block_of}
use Rattle.life_intervals.specs.CohortOrders.{parent_order}
use Rattle.life_intervals.specs.Generator.{generator_of, table_of}
use Rattle.life_intervals.specs.Intervals.{newborn, parent_of}
use Rattle.life_intervals.specs.References.{deal_of}

-- a row of a reference's parent table is among those of which a unit's cohort chooses its parents: it is born in the window
pub record IsCandidate (plan : Project) (reference : Reference) (unit parent : ℕ) : Type 0 where
  pub begun : first_in_window (table_of plan reference.parent).births reference.window unit ≤ parent
  pub born : parent < born_count (table_of plan reference.parent).births unit

-- a birth lies in a window that ends at a unit
pub record IsInWindow (window : Option ℕ) (unit birth : ℕ) : Type 0 where
  pub begun : IfSome window (λ units. unit ≤ birth + units)
  pub by : birth ≤ unit

-- how many there are
abbrev pub candidate_count : Project → Reference → ℕ → ℕ
candidate_count plan reference unit = count_in_window (table_of plan reference.parent).births reference.window unit

-- the number of such a row among them
abbrev pub candidate_number : Project → Reference → ℕ → ℕ → ℕ
candidate_number plan reference unit parent =
    parent - first_in_window (table_of plan reference.parent).births reference.window unit

-- the order in which a reference of a table deals them to a unit's cohort
abbrev pub deal_to : Project → ℕ → Reference → ℕ → Arrangement
deal_to plan table reference unit =
    deal_of reference.drawn (deal_seed (layout_of plan).seed table reference.column unit) (candidate_count plan reference unit)

-- the number of such a row as they are dealt: the turn in which it comes
abbrev pub deal_number : Project → ℕ → Reference → ℕ → ℕ → ℕ
deal_number plan table reference unit parent = number_at (deal_to plan table reference unit) (candidate_number plan reference unit parent)

-- the block of places at which rows of the cohort choose the one that is dealt with a number, in a turn
abbrev pub number_block : Project → ℕ → Reference → ℕ → ℕ → ℕ → Option Block
number_block plan table reference number unit turn =
    block_of reference.spread (cohort_size (table_of plan table).births unit) (candidate_count plan reference unit) number turn

-- those at which they choose a row
abbrev pub child_block : Project → ℕ → Reference → ℕ → ℕ → ℕ → Option Block
child_block plan table reference parent unit turn =
    number_block plan table reference (deal_number plan table reference unit parent) unit turn

-- the row of the cohort that has a place among those at which they choose their parents by the reference in the column at a place
abbrev pub child_at : Project → ℕ → ℕ → ℕ → ℕ → ℕ
child_at plan table column unit place =
    first_ordinal (table_of plan table).births unit + number_at (parent_order plan table column unit) place

-- the rows of the cohort whose parent by a reference is a row, in rising order
abbrev pub children : Project → ℕ → Reference → ℕ → ℕ → List ℕ
children plan table reference unit parent =
    filter (λ ordinal. parent_of (generator_of plan) table unit ordinal reference == parent) (newborn (generator_of plan) table unit)

-- those of each of some rows
abbrev pub children_of_each : Project → ℕ → Reference → ℕ → List ℕ → List ℕ
children_of_each plan table reference unit parents = flat_map (children plan table reference unit) parents
