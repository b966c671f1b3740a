use Rattle.std.proofs.Common.{◌≡◌, ℕ, List, ap, ap₂, arith, subst, sym, ◌∙◌}
use Rattle.cohort_sizes.specs.declared.cohort.Cohort.{Cohort}
use Rattle.schema_facts.specs.Dictionaries.{Project}
use Rattle.schema_plan.specs.Limits.{IsInLimits}
use Rattle.life_intervals.specs.CohortKeys.{IsCohort}
use Rattle.update_box.specs.UnitLists.{table_lists}
use Rattle.update_box.proofs.CostLemmas.{changes-cost}
use Rattle.update_box.proofs.StepLemmas.{deleted-ordinals, updated-ordinals}
use Rattle.update_box.proofs.table_rows.TableRows.changed_at.Goals as goal

pub returns-in_err-deleted-clause-steps : goal.returns-in_err-deleted-clause-steps
returns-in_err-deleted-clause-steps g c = omega (arith, c.deletions.ensures.steps, changes-cost c.args.rows.now c.args.table c.args.t)

pub returns-in_err-updated-clause-steps : goal.returns-in_err-updated-clause-steps
returns-in_err-updated-clause-steps g c = omega (arith, c.deletions.ensures.steps, c.updates.ensures.steps, changes-cost c.args.rows.now c.args.table c.args.t)

pub returns : goal.returns
returns g c =
    let plan : Project = c.args.rows.now in
    let limits : IsInLimits plan = subst IsInLimits c.plan.ensures c.schema-sound.ensures.limits in
    let cohort : IsCohort plan c.args.table c.args.t c.cohort.result = subst (λ (p : Project). IsCohort p c.args.table c.args.t c.cohort.result) c.plan-2.ensures c.cohort.ensures in
    let deleted = c.in_ok-deleted.ensures.rows ∙ sym (deleted-ordinals plan limits c.args.table c.requires.table c.args.t c.requires.unit) in
    let updated = c.in_ok-updated.ensures.rows ∙ sym (updated-ordinals plan limits c.args.table c.requires.table c.args.t c.requires.unit) in
    let inserted : c.cohort.result ≡ (table_lists plan c.args.t c.args.table).inserted = ap₂ (λ (first size : ℕ). record { first = first; size = size }) cohort.first cohort.size in
    record {
      rows = ap₂ (λ (xs ys : List ℕ). record { deleted = xs; updated = ys; inserted = c.cohort.result }) deleted updated
          ∙ ap (λ (of : Cohort). record (table_lists plan c.args.t c.args.table) { inserted = of }) inserted;
      steps = omega (arith, c.deletions.ensures.steps, c.updates.ensures.steps, changes-cost plan c.args.table c.args.t);
    }
