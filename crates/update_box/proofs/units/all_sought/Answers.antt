use Rattle.std.proofs.Common.{◌≡◌, ◌+◌, ◌<◌, ◌++◌, ◌∷◌, [], ℕ, List, length, map, ap, arith, subst, sym, ◌∙◌}
use Rattle.std.specs.Prelude.{All}
use Rattle.std.specs.List.{range_with_len}
use Rattle.std.proofs.lemmas.List.{map-append}
use Rattle.std.proofs.lemmas.List.FromFn.{map-range_with_len_more}
use Rattle.schema_facts.specs.Dictionaries.{Project}
use Rattle.schema_plan.specs.Limits.{IsInLimits}
use Rattle.schema_facts.specs.References.{Reference, references_of}
use Rattle.life_intervals.specs.Generator.{table_of}
use Rattle.update_box.specs.declared.table_rows.TableRows.{TableRows}
use Rattle.update_box.specs.declared.units.Sought.{Sought}
use Rattle.update_box.specs.Found.{HasDying, is_something, lists_as_needed, lists_sought}
use Rattle.update_box.specs.TableLists.{lists_of}
use Rattle.update_box.specs.UnitLists.{TableLists}
use Rattle.update_box.proofs.CostLemmas.{cost_before, cost_before-le, cost_before-next}
use Rattle.update_box.proofs.UnitLemmas.{parents-found}
use Rattle.update_box.proofs.units.all_sought.Goals as goal

pub rows_sought-requires-clause-parents : goal.rows_sought-requires-clause-parents
rows_sought-requires-clause-parents g c = λ something.
    let plan : Project = c.args.rows.now in
    let limits : IsInLimits plan = subst IsInLimits c.plan.ensures c.schema-limits.ensures.limits in
    let below : c.loop-place.place < length plan.schema.tables = omega (arith, c.loop-place-test.true, c.tables-place-end.ensures, ap (λ (p : Project). length p.schema.tables) c.plan-2.ensures) in
    let found = parents-found plan limits c.args.t c.requires.unit c.args.table c.args.needed.now c.requires.needed c.loop-place.tables.items c.loop-place.place below c.loop-place.invariant.lists
    (ap is_something (sym c.what_is_sought-sought.ensures) ∙ something) in
    subst (λ (tables : List TableRows). All (λ (reference : Reference). HasDying plan c.args.t tables reference.parent) (references_of (table_of plan c.loop-place.place))) (sym c.as_slice.ensures.value) found

pub returns-in_err-rows_sought-clause-steps : goal.returns-in_err-rows_sought-clause-steps
returns-in_err-rows_sought-clause-steps g c =
    let plan : Project = c.args.rows.now in
    let below : c.loop-place.place < length plan.schema.tables = omega (arith, c.loop-place-test.true, c.tables-place-end.ensures, ap (λ (p : Project). length p.schema.tables) c.plan-2.ensures) in
    omega (
      arith,
      c.loop-place.invariant.steps,
      c.rows_sought.ensures.steps,
      cost_before-next plan c.args.t c.loop-place.place,
      cost_before-le plan c.args.t (c.loop-place.place + 1) (length plan.schema.tables) (omega (arith, below)),
    )

pub returns-in_err-push-clause-steps : goal.returns-in_err-push-clause-steps
returns-in_err-push-clause-steps g c =
    let plan : Project = c.args.rows.now in
    let below : c.loop-place.place < length plan.schema.tables = omega (arith, c.loop-place-test.true, c.tables-place-end.ensures, ap (λ (p : Project). length p.schema.tables) c.plan-2.ensures) in
    omega (
      arith,
      c.loop-place.invariant.steps,
      c.rows_sought.ensures.steps,
      cost_before-next plan c.args.t c.loop-place.place,
      cost_before-le plan c.args.t (c.loop-place.place + 1) (length plan.schema.tables) (omega (arith, below)),
    )

pub loop-place-preserved : goal.loop-place-preserved
loop-place-preserved g c =
    let plan : Project = c.args.rows.now in
    let lists : ℕ → TableLists = lists_as_needed plan c.args.t c.args.table c.args.needed.now in
    let found : lists_of c.in_ok-rows_sought.field-0 ≡ lists c.loop-place.place =
    c.in_ok-rows_sought.ensures.rows ∙ ap (λ (sought : Sought). lists_sought plan c.args.t c.loop-place.place sought) c.what_is_sought-sought.ensures in
    record {
      lists = ap (map lists_of) c.in_ok-push.ensures.items
          ∙ map-append lists_of c.loop-place.tables.items (c.in_ok-rows_sought.field-0 ∷ [])
          ∙ ap (λ (done : List TableLists). done ++ lists_of c.in_ok-rows_sought.field-0 ∷ []) c.loop-place.invariant.lists
          ∙ ap (λ (last : TableLists). map lists (range_with_len 0 c.loop-place.place) ++ last ∷ []) found
          ∙ sym (map-range_with_len_more lists 0 c.loop-place.place c.loop-place.place (omega arith));
      steps = omega (arith, c.loop-place.invariant.steps, c.rows_sought.ensures.steps, cost_before-next plan c.args.t c.loop-place.place);
    }

pub returns : goal.returns
returns g c =
    let plan : Project = c.args.rows.now in
    let end : c.loop-place.place ≡ length plan.schema.tables =
    omega (arith, c.loop-place-test.false, c.loop-place.auto.place-end, c.tables-place-end.ensures, ap (λ (p : Project). length p.schema.tables) c.plan-2.ensures) in
    record {
      lists = c.loop-place.invariant.lists ∙ ap (λ (n : ℕ). map (lists_as_needed plan c.args.t c.args.table c.args.needed.now) (range_with_len 0 n)) end;
      steps = omega (arith, c.loop-place.invariant.steps, ap (λ (n : ℕ). cost_before plan c.args.t n) end);
    }
