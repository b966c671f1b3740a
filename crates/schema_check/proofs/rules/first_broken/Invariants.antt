use Rattle.std.proofs.Common.{◌≡◌, drop}
use Rattle.schema_plan.specs.Rules.{broken_rule, first_found, rules}
use Rattle.schema_check.proofs.rules.first_broken.Given as goal

abbrev pub invariant-loop-rule : goal.invariant-loop-rule
invariant-loop-rule l =
    let look = broken_rule l.candidate in
    first_found look rules ≡ first_found look (drop l.rule-index rules)
