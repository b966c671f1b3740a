-- The lists of a table, as the code keeps them.
use Rattle.std.specs.Prelude.{◌≡◌, ◌<◌, ◌==◌, ℕ, Bool, true, [], Option, Some, None, if◌then◌else◌, length, map, slice_index_or}
use Rattle.std.specs.List.{range_with_len}
use Rattle.schema_facts.specs.Dictionaries.{Project}
use Rattle.update_box.specs.declared.table_rows.TableRows.{TableRows}
use Rattle.update_box.specs.UnitLists.{TableLists, UnitLists, table_lists}

-- the lists that are kept of a table
abbrev pub lists_of : TableRows → TableLists
lists_of rows = record { deleted = rows.deleted.items; updated = rows.updated.items; inserted = rows.inserted }

-- what stands past the last table
abbrev pub no_lists : TableLists
no_lists = record { deleted = []; updated = []; inserted = record { first = 0; size = 0 } }

-- the lists of the table at a place
abbrev pub table_lists_at : UnitLists → ℕ → TableLists
table_lists_at lists place = slice_index_or lists.tables place no_lists

-- whether the table at a place is chosen: each is, or the one
abbrev pub is_chosen : Option ℕ → ℕ → Bool
is_chosen None place = true
is_chosen (Some one) place = place == one

-- what a unit does to the table at a place, where the table is chosen, and else no lists
abbrev pub lists_if_chosen : Project → ℕ → Option ℕ → ℕ → TableLists
lists_if_chosen plan unit table place = if is_chosen table place then table_lists plan unit place else no_lists

-- the lists of the tables that are chosen, and no lists of the others
abbrev pub chosen_lists : Project → ℕ → Option ℕ → UnitLists
chosen_lists plan unit table = record {
  unit = unit;
  tables = map (lists_if_chosen plan unit table) (range_with_len 0 (length plan.schema.tables));
}

-- the lists that stand at a place are those of the plan's table
pub record HasLists (plan : Project) (unit : ℕ) (lists : UnitLists) (place : ℕ) : Type 0 where
  pub there : place < length lists.tables
  pub are : table_lists_at lists place ≡ table_lists plan unit place

-- so are those of each table that is chosen
pub record HoldLists (plan : Project) (unit : ℕ) (table : Option ℕ) (lists : UnitLists) : Type 0 where
  pub each : (place : ℕ) → place < length plan.schema.tables → is_chosen table place ≡ true → HasLists plan unit lists place
