use Rattle.std.proofs.Common.{◌≡◌, ◌<◌, ◌≤◌, ◌⊎◌, ◌+◌, ◌*◌, ℕ, List, None, Some, ap, inl, inr, length, subst, sym, ◌∙◌}
use Rattle.std.specs.Prelude.{OnOk}
use Rattle.schema_facts.specs.Dictionaries.{Project}
use Rattle.schema_facts.specs.Lineage.{one_if}
use Rattle.life_intervals.specs.CohortOrders.{do_lives_differ}
use Rattle.life_intervals.specs.FoundAt.{AreAppended, ending_at}
use Rattle.life_intervals.specs.Generator.{table_of}
use Rattle.life_intervals.proofs.AppendLemmas.{AreAppended-none}
use Rattle.life_intervals.proofs.FoundAtLemmas.{ending-leaving, ending-never, ending-outside}
use Rattle.life_intervals.proofs.rows.Rows.push_ending.Goals as goal
use Rattle.life_intervals.proofs.rows.Rows.push_ending.Goals.{then-t-born-via-then-t-born, then-t-born-via-else-t-born+then-born-life}

pub returns-in_default-clause-rows : goal.returns-in_default-clause-rows
returns-in_default-clause-rows g c =
    let plan : Project = c.args.self.now in
    let none : (table_of plan c.args.table).life ≡ None =
    sym (ap (λ (p : Project). (table_of p c.args.table).life) c.plan-2.ensures) ∙ sym c.life.ensures.life ∙ c.in_default.is in
    AreAppended-none (ending_at plan c.args.table c.args.born c.args.t) c.args.rows.now.items
    (ending-never plan c.args.table c.args.born c.args.t c.requires.born c.requires.unit none)

pub returns-then-t-born-clause-rows : goal.returns-then-t-born-clause-rows
returns-then-t-born-clause-rows g c =
    let plan : Project = c.args.self.now in
    let is : (table_of plan c.args.table).life ≡ Some c.in-Some.life =
    sym (c.in-Some.ensures.life ∙ ap (λ (p : Project). (table_of p c.args.table).life) c.plan-2.ensures) in
    let outside : (c.args.t < c.args.born + c.in-Some.life.least) ⊎ (c.args.born + c.in-Some.life.most < c.args.t) =
    elim c.then-t-born.branch [
      | then-t-born-via-then-t-born w ↦ inl w.if-t-born.true
      | then-t-born-via-else-t-born+then-born-life w ↦ inr w.if-born-life.true
    ] in
    AreAppended-none (ending_at plan c.args.table c.args.born c.args.t) c.args.rows.now.items
    (ending-outside plan c.args.table c.args.born c.args.t c.requires.born c.requires.unit c.in-Some.life is c.in-Some.ensures.limits.span.ordered outside)

pub returns-clause-rows : goal.returns-clause-rows
returns-clause-rows g c =
    let plan : Project = c.args.self.now in
    let is : (table_of plan c.args.table).life ≡ Some c.in-Some.life =
    sym (c.in-Some.ensures.life ∙ ap (λ (p : Project). (table_of p c.args.table).life) c.plan-2.ensures) in
    let same = ending-leaving plan c.args.table c.args.born c.args.t c.requires.born c.requires.unit c.in-Some.life is c.in-Some.ensures.limits.span.ordered c.if-t-born.false in
    subst (λ (rows : List ℕ). OnOk c.push_rows_leaving.result (AreAppended rows c.args.rows.now.items c.push_rows_leaving.new.rows.items)) (sym same) c.push_rows_leaving.ensures.rows

pub returns-clause-steps : goal.returns-clause-steps
returns-clause-steps g c =
    let plan : Project = c.args.self.now in
    let is : (table_of plan c.args.table).life ≡ Some c.in-Some.life =
    sym (c.in-Some.ensures.life ∙ ap (λ (p : Project). (table_of p c.args.table).life) c.plan-2.ensures) in
    let same = ending-leaving plan c.args.table c.args.born c.args.t c.requires.born c.requires.unit c.in-Some.life is c.in-Some.ensures.limits.span.ordered c.if-t-born.false in
    subst (λ (rows : List ℕ). c.push_rows_leaving.new.steps ≤ c.args.steps.now + length rows * one_if (do_lives_differ (table_of plan c.args.table).life)) (sym same) c.push_rows_leaving.ensures.steps
