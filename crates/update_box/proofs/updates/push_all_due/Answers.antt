use Rattle.std.proofs.Common.{◌≡◌, ℕ, ◌≤◌, List, length, arith, subst, sym, ap, ◌∙◌}
use Rattle.cohort_sizes.specs.Births.{Births}
use Rattle.schema_facts.specs.Dictionaries.{Project}
use Rattle.life_intervals.specs.CohortOrders.{do_updates_differ}
use Rattle.life_intervals.specs.Generator.{table_of}
use Rattle.update_box.specs.Candidates.{is_due_at, is_young}
use Rattle.life_intervals.specs.FoundAt.{AreAppended, due_at}
use Rattle.life_intervals.proofs.AppendLemmas.{AreAppended-none}
use Rattle.update_box.proofs.BornLemmas.{IsFoundBefore, found-all, found-next, found-none, found-within, of_cohort, times-one_if}
use Rattle.update_box.proofs.CandidateLemmas.{due-old, due-young}
use Rattle.update_box.proofs.updates.push_all_due.Goals as goal
use Rattle.update_box.proofs.updates.push_all_due.Goals.{then-is_young+in_ok-push_due, else-is_young}

pub loop-born-init : goal.loop-born-init
loop-born-init g c = found-none (is_due_at c.args.rows.now c.args.table c.args.t) (table_of c.args.rows.now c.args.table).births c.args.list.now.items c.args.steps.now

pub loop-born-preserved : goal.loop-born-preserved
loop-born-preserved g c =
    let plan : Project = c.args.rows.now in
    let before : List ℕ = c.args.list.now.items in
    let births : Births = (table_of plan c.args.table).births in
    let born : ℕ = c.loop-born.born in
    let early : born ≤ c.args.t = omega (arith, c.loop-born-test.true) in
    let is : c.is_young.result ≡ is_young plan c.args.table born c.args.t = c.is_young.ensures ∙ ap (λ (p : Project). is_young p c.args.table born c.args.t) c.plan.ensures in
    elim c.if-is_young.branch [
      | then-is_young+in_ok-push_due w ↦
          let found : List ℕ = due_at plan c.args.table born c.args.t in
          let same = due-young plan c.args.table born c.args.t early (sym is ∙ w.if-is_young.true) in
          rw (w.list-is, w.steps-is)
          (found-next (is_due_at plan c.args.table c.args.t) births born before c.loop-born.list.items w.push_due.new.rows.items c.args.steps.now c.loop-born.steps w.push_due.new.steps c.loop-born.invariant
          (subst (λ (rows : List ℕ). AreAppended rows c.loop-born.list.items w.push_due.new.rows.items) (sym same) w.in_ok-push_due.ensures.rows)
          (omega (arith, w.push_due.ensures.steps, times-one_if (length found) (do_updates_differ (table_of plan c.args.table).update), ap length same)))
      | else-is_young w ↦
          let none = due-old plan c.args.table born c.args.t early (sym is ∙ w.if-is_young.false) in
          rw (w.list-is, w.steps-is)
          (found-next (is_due_at plan c.args.table c.args.t) births born before c.loop-born.list.items c.loop-born.list.items c.args.steps.now c.loop-born.steps c.loop-born.steps c.loop-born.invariant
          (AreAppended-none (of_cohort (is_due_at plan c.args.table c.args.t) births born) c.loop-born.list.items (sym none))
          (omega arith))
    ]

pub returns-in_err-push_due-clause-steps : goal.returns-in_err-push_due-clause-steps
returns-in_err-push_due-clause-steps g c =
    let plan : Project = c.args.rows.now in
    let born : ℕ = c.loop-born.born in
    let is : c.is_young.result ≡ is_young plan c.args.table born c.args.t = c.is_young.ensures ∙ ap (λ (p : Project). is_young p c.args.table born c.args.t) c.plan.ensures in
    let same = due-young plan c.args.table born c.args.t (omega (arith, c.loop-born-test.true)) (sym is ∙ c.if-is_young.true) in
    found-within (is_due_at plan c.args.table c.args.t) (table_of plan c.args.table).births born c.args.t c.args.list.now.items c.loop-born.list.items c.args.steps.now c.loop-born.steps c.push_due.new.steps
    c.loop-born-test.true c.loop-born.invariant
    (omega (arith, c.push_due.ensures.steps, times-one_if (length (due_at plan c.args.table born c.args.t)) (do_updates_differ (table_of plan c.args.table).update), ap length same))

pub returns : goal.returns
returns g c =
    let plan : Project = c.args.rows.now in
    let all : IsFoundBefore (is_due_at plan c.args.table c.args.t) (table_of plan c.args.table).births c.args.t c.args.list.now.items c.loop-born.list.items c.args.steps.now c.loop-born.steps =
    found-all (is_due_at plan c.args.table c.args.t) (table_of plan c.args.table).births c.loop-born.born c.args.t c.args.list.now.items c.loop-born.list.items c.args.steps.now c.loop-born.steps
    (omega (arith, c.loop-born-test.false, c.loop-born.auto.born-end)) c.loop-born.invariant in
    record { rows = all.rows; steps = all.steps }
