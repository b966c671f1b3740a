use Rattle.std.proofs.Common.{◌≡◌, ◌<◌, ◌≤◌, ℕ, ◌+◌, List, [], ◌∷◌, ◌++◌, Option, Some, None, length, take, refl, ap, ap₂, arith, subst, sym, ◌∙◌}
use Rattle.std.proofs.Math.ListN.{length-set}
use Rattle.std.proofs.lemmas.List.{append-nil, take_more_set}
use Rattle.schema_plan.specs.declared.ready.ReadyColumn.{ReadyColumn}
use Rattle.schema_plan.specs.declared.ready.ReadyReference.{ReadyReference}
use Rattle.schema_facts.specs.Dictionaries.{Project}
use Rattle.schema_facts.specs.Layout.{layout_of, no_table}
use Rattle.schema_plan.specs.Limits.{IsInLimits}
use Rattle.schema_plan.specs.Ready.{ready_columns}
use Rattle.life_intervals.specs.Generator.{table_of}
use Rattle.life_intervals.proofs.AcceptedLemmas.{length-tables}
use Rattle.life_intervals.proofs.CohortParentLemmas.{length-ready_columns, none_from_columns, reference_from_columns}
use Rattle.row_keeper.specs.declared.keeper.RefTo.{RefTo}
use Rattle.keeper_play.proofs.RefLemmas.{refs_before, refs_before-all, refs_before-more, refs_before-other}
use Rattle.keeper_play.proofs.refs.find_refs.Goals as goal
use Rattle.keeper_play.proofs.refs.find_refs.Goals.{in-Reference+in-Some, in-Reference+in_default-find_ref, in_default}

pub returns-clause-refs : goal.returns-clause-refs
returns-clause-refs g c =
    let plan : Project = c.args.rows.now in
    let columns : c.columns-ready-items.result.now ≡ ready_columns (layout_of plan) c.args.table =
    c.columns-ready-items.ensures.columns ∙ ap (λ (p : Project). ready_columns (layout_of p) c.args.table) c.plan-2.ensures in
    c.loop-column.invariant.refs
    ∙ refs_before-all plan c.args.table c.args.t c.args.row.ordinal c.loop-column.column
    (omega (arith, c.loop-column-test.false, ap length columns, length-ready_columns plan c.args.table))

pub loop-column-preserved : goal.loop-column-preserved
loop-column-preserved g c =
    let plan : Project = c.args.rows.now in
    let limits : IsInLimits plan = subst IsInLimits c.plan.ensures c.schema-limits.ensures.limits in
    let columns : c.columns-ready-items.result.now ≡ ready_columns (layout_of plan) c.args.table =
    c.columns-ready-items.ensures.columns ∙ ap (λ (p : Project). ready_columns (layout_of p) c.args.table) c.plan-2.ensures in
    let at : ℕ = c.loop-column.column in
    let few_columns : length c.columns-ready-items.result.now ≤ 64 =
    omega (arith, ap length columns, length-ready_columns plan c.args.table, (limits.tables c.args.table no_table (omega (arith, c.requires.table, length-tables plan))).column_limit) in
    elim c.match-ready.branch [
      | in-Reference+in-Some w ↦
          let reference : ReadyReference = w.in-Reference.reference in
          let is = reference_from_columns plan c.args.table at c.columns-ready-items.result.now c.ready-item.result reference columns c.loop-column-test.true c.ready-item.is w.in-Reference.is in
          let there : c.loop-column.count < length c.loop-column.refs =
          omega (arith, c.loop-column.invariant.few, c.loop-column.invariant.room, c.requires.room, c.loop-column-test.true, few_columns) in
          record {
            refs =
                ap₂ (λ (n : ℕ) (refs : List RefTo). take n refs) w.count-is w.refs-is
                ∙ take_more_set c.loop-column.refs c.loop-column.count w.in-Some.found there
                ∙ ap (λ (refs : List RefTo). refs ++ w.in-Some.found ∷ []) c.loop-column.invariant.refs
                ∙ sym (refs_before-more plan limits c.args.table c.requires.table c.args.row c.requires.row c.args.t c.requires.born c.requires.unit at reference is
                (Some w.in-Some.found) (sym w.in-Some.is ∙ w.find_ref.ensures));
            few = omega (arith, w.count-is, c.loop-column.invariant.few);
            room = ap length w.refs-is ∙ length-set c.loop-column.refs c.loop-column.count w.in-Some.found ∙ c.loop-column.invariant.room;
          }
      | in-Reference+in_default-find_ref w ↦
          let reference : ReadyReference = w.in-Reference.reference in
          let is = reference_from_columns plan c.args.table at c.columns-ready-items.result.now c.ready-item.result reference columns c.loop-column-test.true c.ready-item.is w.in-Reference.is in
          record {
            refs =
                ap₂ (λ (n : ℕ) (refs : List RefTo). take n refs) w.count-is w.refs-is
                ∙ c.loop-column.invariant.refs
                ∙ sym (append-nil (refs_before plan c.args.table c.args.t c.args.row.ordinal at))
                ∙ sym (refs_before-more plan limits c.args.table c.requires.table c.args.row c.requires.row c.args.t c.requires.born c.requires.unit at reference is
                None (sym w.in_default-find_ref.is ∙ w.find_ref.ensures));
            few = omega (arith, w.count-is, c.loop-column.invariant.few);
            room = ap length w.refs-is ∙ c.loop-column.invariant.room;
          }
      | in_default w ↦
          let none = none_from_columns plan c.args.table at c.columns-ready-items.result.now c.ready-item.result columns c.loop-column-test.true c.ready-item.is w.in_default.not-Reference in
          record {
            refs =
                ap₂ (λ (n : ℕ) (refs : List RefTo). take n refs) w.count-is w.refs-is
                ∙ c.loop-column.invariant.refs
                ∙ sym (refs_before-other plan c.args.table c.args.t c.args.row.ordinal at none.0 none.1);
            few = omega (arith, w.count-is, c.loop-column.invariant.few);
            room = ap length w.refs-is ∙ c.loop-column.invariant.room;
          }
    ]
