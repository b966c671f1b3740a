use Rattle.std.proofs.Common.{◌≡◌, ℕ, Bool, true, false, Some, List, Vec, Global, replicate, inl, inr, sym, subst, ap, arith, eq-eqb, eqb-true, ◌∙◌}
use Rattle.std.proofs.lemmas.Bool.{cases_lt, false≢true}
use Rattle.schema_facts.specs.Dictionaries.{Project}
use Rattle.update_box.specs.Found.{AreNeeded, is_needed}
use Rattle.update_box.proofs.NeededLemmas.{needed-none}
use Rattle.update_box.proofs.needed.tables_behind.Goals as goal
use Rattle.update_box.proofs.needed.tables_behind.Goals.{then-place-count+else-loop-before-test, else-place-count}

pub returns : goal.returns
returns c =
    let plan : Project = c.args.plan.now in
    let place : ℕ = c.args.place in
    elim c.if-place-count.branch [
      | then-place-count+else-loop-before-test w ↦
          let marks : List Bool = w.loop-before.marks.items in
          subst (λ (marks : Vec Bool Global). AreNeeded plan (Some place) marks.items) (sym w.marks-is)
          (record {
            all = w.loop-before.invariant.all;
            chosen = λ other inside is. subst (λ (at : ℕ). is_needed marks at ≡ true) (sym (eqb-true other place is)) w.loop-before.invariant.here;
            parents = λ other inside marked. elim (cases_lt place other) [
              | inl past ↦ absurd (false≢true (sym (w.loop-before.invariant.none other past) ∙ marked))
              | inr behind ↦ w.loop-before.invariant.parents other (omega (arith, w.loop-before-test.false)) behind marked
            ];
            no_others = λ other marked. elim (w.loop-before.invariant.no_others other marked) [
              | inl same ↦ inl (eq-eqb other place same)
              | inr from ↦ inr from
            ];
          })
      | else-place-count w ↦
          subst (λ (marks : Vec Bool Global). AreNeeded plan (Some place) marks.items) (sym w.marks-is)
          (needed-none plan place (omega (arith, w.if-place-count.false, c.tables-count.ensures)) c.in_ok-marks.marks.items
          (c.in_ok-marks.ensures.items_if_clones_equal (λ y same. same) ∙ ap (λ (n : ℕ). replicate n false) c.tables-count.ensures))
    ]
