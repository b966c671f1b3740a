-- What a unit changes in a table, as the lists of the unit tell it.
use Rattle.std.proofs.Common.{◌≡◌, ◌<◌, ◌≤◌, ◌+◌, ℕ, ◌-◌, length, ap, arith, sym, ◌∙◌}
use Rattle.std.specs.List.{range_with_len}
use Rattle.std.proofs.lemmas.List.FromFn.{get_or-map-range_with_len, length-map-range_with_len}
use Rattle.cohort_sizes.proofs.CohortLemmas.{cohort-within}
use Rattle.schema_facts.specs.Dictionaries.{Project}
use Rattle.schema_plan.specs.Limits.{IsInLimits}
use Rattle.life_intervals.specs.Generator.{last_unit, table_of}
use Rattle.life_intervals.proofs.CohortParentLemmas.{row_limit}
use Rattle.undo_streams.specs.Packages.{AreChanges}
use Rattle.undo_streams.specs.Places.{places_of}
use Rattle.undo_streams.specs.declared.changes.Changes.{Changes}
use Rattle.update_box.specs.TableLists.{no_lists, table_lists_at}
use Rattle.update_box.specs.UnitLists.{TableLists, UnitLists, table_lists, unit_lists}

pub lists-table : (plan : Project) (unit table : ℕ) → table < length plan.schema.tables → (lists : UnitLists) → lists ≡ unit_lists plan unit → table_lists_at lists table ≡ table_lists plan unit table
lists-table plan unit table there lists are =
    let at : 0 + table ≡ table = omega arith in
    ap (λ (l : UnitLists). table_lists_at l table) are ∙ get_or-map-range_with_len (table_lists plan unit) 0 (length plan.schema.tables) table table no_lists there at

pub lists-there : (plan : Project) (unit table : ℕ) → table < length plan.schema.tables → (lists : UnitLists) → lists ≡ unit_lists plan unit → table < length lists.tables
lists-there plan unit table there lists are =
    omega (arith, there, ap (λ (l : UnitLists). length l.tables) are, length-map-range_with_len (table_lists plan unit) 0 (length plan.schema.tables))

pub changes-lists : (plan : Project) → IsInLimits plan → (unit table : ℕ) → unit ≤ last_unit plan → table < length plan.schema.tables → (lists : UnitLists) → lists ≡ unit_lists plan unit → (changes : Changes) →
    changes.deleted.now ≡ (table_lists_at lists table).deleted → changes.updated.now ≡ (table_lists_at lists table).updated → changes.inserted ≡ (table_lists_at lists table).inserted →
    changes.places.now ≡ places_of plan table (unit - 1) (table_lists_at lists table).deleted → AreChanges plan table unit changes
changes-lists plan limits unit table reached there lists are changes deleted updated inserted places =
    let births = (table_of plan table).births in
    let is : table_lists_at lists table ≡ table_lists plan unit table = lists-table plan unit table there lists are in
    record {
      deleted = deleted ∙ ap (λ (l : TableLists). l.deleted) is;
      updated = updated ∙ ap (λ (l : TableLists). l.updated) is;
      inserted = record {
        first = ap (λ cohort. cohort.first) (inserted ∙ ap (λ (l : TableLists). l.inserted) is);
        size = ap (λ cohort. cohort.size) (inserted ∙ ap (λ (l : TableLists). l.inserted) is);
        limit =
            omega (
              arith,
              ap (λ cohort. cohort.first) (inserted ∙ ap (λ (l : TableLists). l.inserted) is),
              ap (λ cohort. cohort.size) (inserted ∙ ap (λ (l : TableLists). l.inserted) is),
              cohort-within births unit (last_unit plan) reached,
              row_limit plan limits table there,
            );
      };
      places = places ∙ ap (places_of plan table (unit - 1)) (sym deleted);
    }
