use Rattle.schema_plan.specs.Rules.{rules, broken_rule, first_broken}
use Rattle.schema_check.proofs.Kept.{keeps_from_none, none_from_keeps, none_at, none_found}
use Rattle.schema_check.proofs.FirstBreak.{none_of_rule, none_for_rule}
use Rattle.schema_check.proofs.laws.accepted_schemas_keep_each_rule.Goals as goal

pub returns : goal.returns
unfolding first_broken
returns c = λ schema. (
  (λ accepted i rule at. keeps_from_none rule schema (none_of_rule schema rule (none_at (broken_rule schema) rules accepted i rule at))),
  (λ keeps. none_found (broken_rule schema) rules (λ i rule at. none_for_rule schema rule (none_from_keeps rule schema (keeps i rule at)))),
)
