use Rattle.std.proofs.Common.{inl, inr, ◌<◌, ℕ, true, false, length, length-set, arith, ap, refl, sym, ◌∙◌}
use Rattle.std.proofs.lemmas.List.{get_or_default}
use Rattle.schema_plan.specs.declared.ready.ReadyReference.{ReadyReference}
use Rattle.schema_facts.specs.Dictionaries.{Project}
use Rattle.life_intervals.specs.CohortParents.{IsReferenceOf}
use Rattle.life_intervals.proofs.CohortParentLemmas.{length-ready_columns, limits_of, none_from_columns, reference_from_columns}
use Rattle.update_box.proofs.NeededLemmas.{marked-all, marked-no_others, marked-next, marked-none, marked-other}
use Rattle.update_box.proofs.needed.mark_parents.Goals as goal
use Rattle.update_box.proofs.needed.mark_parents.Goals.{in-Reference, in_default}

pub loop-ready-init : goal.loop-ready-init
loop-ready-init c = record { all = refl; marked = marked-none c.args.plan.now c.args.place c.args.marks.now.items }

pub index_mut-requires : goal.index_mut-requires
index_mut-requires c =
    let plan : Project = c.args.plan.now in
    let of : IsReferenceOf plan c.args.place c.loop-ready.ready-index c.in-Reference.reference =
    reference_from_columns plan c.args.place c.loop-ready.ready-index c.columns-ready-items.result.now c.ready-item.result c.in-Reference.reference c.columns-ready-items.ensures.columns c.loop-ready-test.true c.ready-item.is c.in-Reference.is in
    let is = limits_of plan c.schema-limits.ensures.limits c.args.place c.loop-ready.ready-index c.in-Reference.reference c.requires.place of in
    omega (arith, is.earlier, c.requires.place, c.requires.marks, c.loop-ready.invariant.all)

pub loop-ready-preserved : goal.loop-ready-preserved
loop-ready-preserved c =
    let plan : Project = c.args.plan.now in
    let at : ℕ = c.loop-ready.ready-index in
    elim c.match-ready.branch [
      | in-Reference w ↦
          let ready : ReadyReference = w.in-Reference.reference in
          let of : IsReferenceOf plan c.args.place at ready =
          reference_from_columns plan c.args.place at c.columns-ready-items.result.now c.ready-item.result ready c.columns-ready-items.ensures.columns c.loop-ready-test.true c.ready-item.is w.in-Reference.is in
          let is = limits_of plan c.schema-limits.ensures.limits c.args.place at ready c.requires.place of in
          let inside : ready.parent < length c.loop-ready.marks.items = omega (arith, is.earlier, c.requires.place, c.requires.marks, c.loop-ready.invariant.all) in
          rw w.marks-is
          (record {
            all = length-set c.loop-ready.marks.items ready.parent true ∙ c.loop-ready.invariant.all;
            marked = marked-next plan c.args.place at ready of is.earlier c.args.marks.now.items c.loop-ready.marks.items inside c.loop-ready.invariant.marked;
          })
      | in_default w ↦
          let none = none_from_columns plan c.args.place at c.columns-ready-items.result.now c.ready-item.result c.columns-ready-items.ensures.columns c.loop-ready-test.true c.ready-item.is w.in_default.not-Reference in
          rw w.marks-is
          (record {
            all = c.loop-ready.invariant.all;
            marked = marked-other plan c.args.place at none.0 none.1 c.args.marks.now.items c.loop-ready.marks.items c.loop-ready.invariant.marked;
          })
    ]

pub returns-clause-parents : goal.returns-clause-parents
returns-clause-parents c = λ marked.
    marked-all c.args.plan.now c.args.place c.loop-ready.ready-index c.loop-ready.marks.items
    (omega (arith, c.loop-ready-test.false, ap length c.columns-ready-items.ensures.columns, length-ready_columns c.args.plan.now c.args.place)) c.loop-ready.invariant.marked.parents

pub returns-clause-no_others : goal.returns-clause-no_others
returns-clause-no_others c = λ other at.
    elim (marked-no_others c.args.plan.now c.args.place c.loop-ready.ready-index c.args.marks.now.items c.loop-ready.marks.items
    (omega (arith, c.loop-ready-test.false, ap length c.columns-ready-items.ensures.columns, length-ready_columns c.args.plan.now c.args.place)) c.loop-ready.invariant.marked other at) [
      | inl old ↦ inl old
      | inr refers ↦ inr (get_or_default c.args.marks.now.items c.args.place false c.index.result.now (omega (arith, c.requires.place, c.requires.marks)) ∙ sym c.index.ensures ∙ c.if-not-index.false, refers)
    ]
