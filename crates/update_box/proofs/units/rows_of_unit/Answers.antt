use Rattle.std.proofs.Common.{◌≡◌, ℕ, Bool, List, length, map, ap, arith, subst, sym}
use Rattle.std.specs.List.{range_with_len}
use Rattle.std.proofs.lemmas.List.{length-map}
use Rattle.std.proofs.lemmas.List.FromFn.{length-map-range_with_len}
use Rattle.schema_facts.specs.Dictionaries.{Project}
use Rattle.schema_plan.specs.Limits.{IsInLimits}
use Rattle.update_box.specs.declared.table_rows.TableRows.{TableRows}
use Rattle.update_box.specs.Found.{AreNeeded, lists_as_needed}
use Rattle.update_box.specs.TableLists.{HoldLists, lists_if_chosen, lists_of}
use Rattle.update_box.specs.UnitLists.{TableLists}
use Rattle.update_box.proofs.EntryLemmas.{chosen_places-held}
use Rattle.update_box.proofs.UnitLemmas.{chosen-left}
use Rattle.update_box.proofs.units.rows_of_unit.Goals as goal

pub leave_chosen-requires : goal.leave_chosen-requires
leave_chosen-requires g c =
    let plan : Project = c.args.rows.now in
    let limits : IsInLimits plan = subst IsInLimits c.plan.ensures c.schema-limits.ensures.limits in
    let tables : List TableRows = c.in_ok-tables.tables.items in
    omega (
      arith,
      length-map tables lists_of,
      ap length c.in_ok-tables.ensures.lists,
      length-map-range_with_len (lists_as_needed plan c.args.t c.args.table c.as_slice.result.now) 0 (length plan.schema.tables),
      limits.table_limit,
    )

pub returns : goal.returns
returns g c =
    let plan : Project = c.args.rows.now in
    let limits : IsInLimits plan = subst IsInLimits c.plan.ensures c.schema-limits.ensures.limits in
    let marks : List Bool = c.as_slice.result.now in
    let needed : AreNeeded plan c.args.table marks =
    subst (λ (ms : List Bool). AreNeeded plan c.args.table ms) (sym c.as_slice.ensures.value) (subst (λ (p : Project). AreNeeded p c.args.table c.in_ok-needed.needed.items) c.plan-2.ensures c.in_ok-needed.ensures) in
    let lists : ℕ → TableLists = lists_if_chosen plan c.args.t c.args.table in
    let are : map lists_of c.leave_chosen.new.tables.items ≡ map lists (range_with_len 0 (length plan.schema.tables)) =
    chosen-left plan limits c.args.t c.requires.unit c.args.table marks needed c.in_ok-tables.tables.items c.leave_chosen.new.tables.items c.in_ok-tables.ensures.lists
    c.leave_chosen.ensures.all c.leave_chosen.ensures.each in
    record {
      lists = ap (λ (tables : List TableLists). record { unit = c.args.t; tables = tables }) are;
      held = subst (λ (tables : List TableLists). HoldLists plan c.args.t c.args.table (record { unit = c.args.t; tables = tables })) (sym are) (chosen_places-held plan c.args.t c.args.table);
      steps = c.all_sought.ensures.steps;
    }
