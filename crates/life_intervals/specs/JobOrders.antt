-- The orders that are kept for a job.
use Rattle.std.specs.Prelude.{◌≡◌, ◌<◌, ℕ, ◌+◌, List, get_or, length, map, sum_by}
use Rattle.std.specs.List.{range_with_len}
use Rattle.schema_plan.specs.declared.ready.ReadyReference.{ReadyReference}
use Rattle.schema_facts.specs.Dictionaries.{Project}
use Rattle.life_intervals.specs.declared.kept.ParentOrders.{ParentOrders}
use Rattle.life_intervals.specs.declared.kept.TableOrders.{TableOrders}
use Rattle.life_intervals.specs.CohortOrders.{key_order, life_order, parent_order, update_order}
use Rattle.life_intervals.specs.CohortParents.{IsReferenceOf, deal_by, window_by}

-- what is kept unit by unit, from 0 on, is what there is of each
abbrev pub IsKeptByUnit : {X : Type 0} → (ℕ → X) → List X → Type 0
IsKeptByUnit of_unit kept = kept ≡ map of_unit (range_with_len 0 (length kept))

-- what is kept for the column at a place are the orders by its reference, the windows of this, and the orders in which it deals
pub record AreParentOrders (plan : Project) (table column : ℕ) (kept : ParentOrders) : Type 0 where
  pub orders : IsKeptByUnit (parent_order plan table column) kept.orders.orders
  pub windows : (reference : ReadyReference) → IsReferenceOf plan table column reference → IsKeptByUnit (window_by plan reference) kept.windows.items
  pub deals : (reference : ReadyReference) → IsReferenceOf plan table column reference → IsKeptByUnit (deal_by plan table column reference) kept.deals.orders

-- what is kept for each column
abbrev pub AreAllParentOrders : Project → ℕ → List ParentOrders → Type 0
AreAllParentOrders plan table parents =
    (column : ℕ) (d : ParentOrders) → column < length parents → AreParentOrders plan table column (get_or parents column d)

-- what is kept of the table at a place are its orders
pub record AreTableOrders (plan : Project) (table : ℕ) (kept : TableOrders) : Type 0 where
  pub keys : IsKeptByUnit (key_order plan table) kept.keys.orders
  pub lives : IsKeptByUnit (life_order plan table) kept.lives.orders
  pub updates : IsKeptByUnit (update_order plan table) kept.updates.orders
  pub parents : AreAllParentOrders plan table kept.parents.items

-- what is kept for a job are the orders of the plan's tables
abbrev pub AreOrdersOf : Project → List TableOrders → Type 0
AreOrdersOf plan job = (table : ℕ) (d : TableOrders) → table < length job → AreTableOrders plan table (get_or job table d)

-- how many entries the tables of kept orders have together: of those in which parents are chosen, of a table's, and of a job's
abbrev pub entries_of_parent : ParentOrders → ℕ
entries_of_parent kept = kept.orders.entries + kept.deals.entries

abbrev pub entries_of_table : TableOrders → ℕ
entries_of_table kept =
    kept.keys.entries + (kept.lives.entries + (kept.updates.entries + sum_by entries_of_parent kept.parents.items))

abbrev pub entries_of : List TableOrders → ℕ
entries_of job = sum_by entries_of_table job
