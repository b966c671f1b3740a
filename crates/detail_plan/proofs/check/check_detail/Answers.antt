use Rattle.std.proofs.Common.{◌≡◌, ◌∙◌, ◌≤◌, ◌++◌, ℕ, All, List, ap, arith, subst, sym}
use Rattle.schema_model.specs.declared.column.Column.{Column}
use Rattle.schema_model.specs.declared.table.Table.{Table}
use Rattle.schema_facts.specs.Capped.{capped}
use Rattle.schema_plan.specs.Beside.{facts_beside, ready_beside}
use Rattle.schema_facts.specs.Dictionaries.{Dictionary}
use Rattle.schema_plan.specs.Limits.{CanBeReady}
use Rattle.detail_plan.specs.Beside.{columns_beside}
use Rattle.detail_plan.specs.Kept.{KeepsRules}
use Rattle.detail_plan.specs.Rules.{reach_of}
use Rattle.detail_plan.proofs.Accepted.{can_be_ready_all, limits_of, short_lines_of}
use Rattle.detail_plan.proofs.check.check_detail.Goals as goal

pub ready_beside-requires : goal.ready_beside-requires
ready_beside-requires c =
    let keeps = sym c.first_broken.ensures ∙ c.in_default.is in
    subst (λ (columns : List Column). All (λ (column : Column). CanBeReady c.in_ok-lists.lists column.kind) columns) (sym (c.as_slice-columns.ensures ∙ ap (λ (table : Table). table.columns) c.in_ok-table.ensures))
    (can_be_ready_all c.in_ok-lists.lists c.args.detail (limits_of c.args.plan.now c.in_ok-lists.lists c.len-lists.ensures.lists c.args.detail keeps))

pub of_accepted-requires : goal.of_accepted-requires
of_accepted-requires c = limits_of c.args.plan.now c.in_ok-lists.lists c.len-lists.ensures.lists c.args.detail (sym c.first_broken.ensures ∙ c.in_default.is)

pub returns-clause-keeps : goal.returns-clause-keeps
returns-clause-keeps c =
    let plan = c.args.plan.now in
    let lists = c.in_ok-lists.lists in
    let detail = c.args.detail in
    let keeps = sym c.first_broken.ensures ∙ c.in_default.is in
    let columns_are : c.as_slice-columns.result.now ≡ columns_beside detail = c.as_slice-columns.ensures ∙ ap (λ (table : Table). table.columns) c.in_ok-table.ensures in
    let kept : KeepsRules plan (record { detail = detail; lists = lists; columns = c.in_ok-ready.ready; facts = c.facts_beside-facts.result; reach = c.reach-reach.result }) = record {
      others = c.args.dictionaries;
      lists = c.in_ok-lists.ensures ∙ ap (λ (first : List Dictionary). first ++ c.args.dictionaries) c.dictionaries.ensures;
      keeps = keeps;
      columns = c.in_ok-ready.ensures ∙ ap (ready_beside plan lists) columns_are;
      facts = c.facts_beside-facts.ensures ∙ ap (facts_beside plan) c.in_ok-table.ensures;
      reach = c.reach-reach.ensures ∙ whole (reach_of plan lists detail) (short_lines_of plan lists detail keeps);
    } in
    subst (KeepsRules plan) (sym c.of_accepted.ensures) kept
  where
    whole : (n : ℕ) → n ≤ 65536 → capped n ≡ n
    whole n h = omega (arith, h)
