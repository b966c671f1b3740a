use Rattle.std.proofs.Common.{◌≡◌, ◌≤◌, ◌+◌, ◌*◌, ℕ, List, None, Some, ap, arith, length, subst, sym, ◌∙◌}
use Rattle.std.specs.Prelude.{OnOk}
use Rattle.schema_facts.specs.Dictionaries.{Project}
use Rattle.schema_facts.specs.Lineage.{one_if}
use Rattle.life_intervals.specs.CohortOrders.{do_updates_differ}
use Rattle.life_intervals.specs.FoundAt.{AreAppended, due_at}
use Rattle.life_intervals.specs.Generator.{table_of}
use Rattle.life_intervals.proofs.AppendLemmas.{AreAppended-none}
use Rattle.life_intervals.proofs.FoundAtLemmas.{due-leaving, due-never}
use Rattle.life_intervals.proofs.rows.Rows.push_due.Goals as goal

pub returns-in_default-clause-rows : goal.returns-in_default-clause-rows
returns-in_default-clause-rows g c =
    let plan : Project = c.args.self.now in
    let none : (table_of plan c.args.table).update ≡ None =
    sym (ap (λ (p : Project). (table_of p c.args.table).update) c.plan.ensures) ∙ sym c.update.ensures.update ∙ c.in_default.is in
    AreAppended-none (due_at plan c.args.table c.args.born c.args.t) c.args.rows.now.items
    (due-never plan c.args.table c.args.born c.args.t (omega (arith, c.requires.born)) c.requires.unit c.requires.born none)

pub returns-clause-rows : goal.returns-clause-rows
returns-clause-rows g c =
    let plan : Project = c.args.self.now in
    let is : (table_of plan c.args.table).update ≡ Some c.in-Some.period =
    sym (c.in-Some.ensures.update ∙ ap (λ (p : Project). (table_of p c.args.table).update) c.plan.ensures) in
    let same = due-leaving plan c.args.table c.args.born c.args.t (omega (arith, c.requires.born)) c.requires.unit c.requires.born c.in-Some.period is (omega (arith, c.in-Some.ensures.limits.some_unit)) in
    subst (λ (rows : List ℕ). OnOk c.push_rows_leaving.result (AreAppended rows c.args.rows.now.items c.push_rows_leaving.new.rows.items)) (sym same) c.push_rows_leaving.ensures.rows

pub returns-clause-steps : goal.returns-clause-steps
returns-clause-steps g c =
    let plan : Project = c.args.self.now in
    let is : (table_of plan c.args.table).update ≡ Some c.in-Some.period =
    sym (c.in-Some.ensures.update ∙ ap (λ (p : Project). (table_of p c.args.table).update) c.plan.ensures) in
    let same = due-leaving plan c.args.table c.args.born c.args.t (omega (arith, c.requires.born)) c.requires.unit c.requires.born c.in-Some.period is (omega (arith, c.in-Some.ensures.limits.some_unit)) in
    subst (λ (rows : List ℕ). c.push_rows_leaving.new.steps ≤ c.args.steps.now + length rows * one_if (do_updates_differ (table_of plan c.args.table).update)) (sym same) c.push_rows_leaving.ensures.steps
