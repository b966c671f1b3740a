use Rattle.schema_plan.specs.Rules.{rules, broken_rule, first_broken}
use Rattle.schema_check.proofs.Kept.{found_at}
use Rattle.schema_check.proofs.FirstBreak.{first_rule}
use Rattle.schema_check.proofs.laws.first_broken_is_the_first_rule_at_its_first_site.Goals as goal

pub returns : goal.returns
unfolding first_broken
returns c = λ schema broken h. first_rule schema rules broken (found_at (broken_rule schema) rules broken h)
