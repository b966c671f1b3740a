-- What is found of the tables before one, and of which tables it is needed.
use Rattle.std.specs.Prelude.{◌≡◌, ◌<◌, ℕ, Bool, true, false, ◌==◌, ◌⊎◌, if◌then◌else◌, All, List, length, Option, slice_index_or}
use Rattle.std.specs.List.{list_any}
use Rattle.schema_facts.specs.Dictionaries.{Project}
use Rattle.schema_facts.specs.References.{references_of}
use Rattle.life_intervals.specs.Generator.{generator_of, table_of}
use Rattle.life_intervals.specs.Intervals.{dying}
use Rattle.update_box.specs.declared.table_rows.TableRows.{TableRows}
use Rattle.update_box.specs.declared.units.Sought.{Sought}
use Rattle.update_box.specs.declared.units.Sought.TheVariants.{Changes, Deletions, Nothing}
use Rattle.update_box.specs.TableLists.{is_chosen, no_lists}
use Rattle.update_box.specs.UnitLists.{TableLists, table_lists}

-- among the rows that are kept table by table stand those that a unit deletes in the table at a place
pub record HasDying (plan : Project) (unit : ℕ) (kept : List TableRows) (place : ℕ) : Type 0 where
  pub there : place < length kept
  pub are : (d : TableRows) → (slice_index_or kept place d).deleted.items ≡ dying (generator_of plan) place unit

-- the lists of a table of which the deletions alone are found
abbrev pub deletions_alone : Project → ℕ → ℕ → TableLists
deletions_alone plan unit place = record no_lists { deleted = dying (generator_of plan) place unit }

-- whether the table at a place is marked
abbrev pub is_needed : List Bool → ℕ → Bool
is_needed marks place = slice_index_or marks place false

-- whether the table at a place refers to that at another
abbrev pub refers_to : Project → ℕ → ℕ → Bool
refers_to plan place other = list_any (λ reference. reference.parent == other) (references_of (table_of plan place))

-- the tables that are chosen are marked, and with each all to which it refers, and no others
pub record AreNeeded (plan : Project) (table : Option ℕ) (marks : List Bool) : Type 0 where
  pub all : length marks ≡ length plan.schema.tables
  pub chosen : (place : ℕ) → place < length plan.schema.tables → is_chosen table place ≡ true → is_needed marks place ≡ true
  pub parents : (place : ℕ) → place < length plan.schema.tables → is_needed marks place ≡ true →
      All (λ reference. is_needed marks reference.parent ≡ true) (references_of (table_of plan place))
  pub no_others : (place : ℕ) → is_needed marks place ≡ true →
      (is_chosen table place ≡ true) ⊎ ((from : ℕ) × (is_needed marks from ≡ true) × (refers_to plan from place ≡ true))

-- what is looked for of the table at a place, which is needed or isn't
abbrev pub sought_of : Option ℕ → Bool → ℕ → Sought
sought_of table needed place = if is_chosen table place then Changes else if needed then Deletions else Nothing

-- whether that is anything
abbrev pub is_something : Sought → Bool
is_something Nothing = false
is_something _ = true

-- what is found of it then
abbrev pub lists_sought : Project → ℕ → ℕ → Sought → TableLists
lists_sought plan unit place Changes = table_lists plan unit place
lists_sought plan unit place Deletions = deletions_alone plan unit place
lists_sought plan unit place Nothing = no_lists

-- by the marks of those that are needed
abbrev pub lists_as_needed : Project → ℕ → Option ℕ → List Bool → ℕ → TableLists
lists_as_needed plan unit table marks place = lists_sought plan unit place (sought_of table (is_needed marks place) place)

-- the lists of the table at a place where it is chosen, and else no lists
abbrev pub kept_if_chosen : Option ℕ → ℕ → TableLists → TableLists
kept_if_chosen table place lists = if is_chosen table place then lists else no_lists
