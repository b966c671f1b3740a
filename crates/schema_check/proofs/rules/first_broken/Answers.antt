use Rattle.std.proofs.Common.{◌∙◌, sym}
use Rattle.schema_plan.specs.Rules.{broken_rule, first_broken, rules}
use Rattle.schema_check.proofs.FirstBreak.{none_for_rule, some_for_rule}
use Rattle.schema_check.proofs.FirstFound.{found_at_item, found_past_item}
use Rattle.schema_check.proofs.rules.first_broken.Goals as goal

pub loop-rule-preserved : goal.loop-rule-preserved
loop-rule-preserved c =
    c.loop-rule.invariant
    ∙ found_past_item (broken_rule c.args.candidate.now) rules c.loop-rule.rule-index _ c.loop-rule-test.true (none_for_rule c.args.candidate.now _ (sym c.first_break.ensures.first ∙ c.in_default.is))

pub returns-in-Some-clause-first : goal.returns-in-Some-clause-first
unfolding first_broken
returns-in-Some-clause-first c =
    sym (c.loop-rule.invariant
    ∙ found_at_item (broken_rule c.args.candidate.now) rules c.loop-rule.rule-index _ _ c.loop-rule-test.true (some_for_rule c.args.candidate.now _ c.in-Some.site (sym c.first_break.ensures.first ∙ c.in-Some.is)))
