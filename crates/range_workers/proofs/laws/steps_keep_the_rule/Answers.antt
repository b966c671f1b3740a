use Rattle.std.proofs.Common.{◌∷◌, refl}
use Rattle.range_workers.specs.declared.view.View.TheVariants.{Caller}
use Rattle.range_workers.proofs.LawLemmas.{claim_between, join_behind}
use Rattle.range_workers.proofs.RuleLemmas.{split_keeps}
use Rattle.range_workers.proofs.laws.steps_keep_the_rule.Goals as goal

pub returns-clause-claim : goal.returns-clause-claim
returns-clause-claim c = claim_between

pub returns-clause-split : goal.returns-clause-split
returns-clause-split c word out ns seats rule room = split_keeps word 0 (Caller ns out ∷ seats) ns out rule refl room

pub returns-clause-join : goal.returns-clause-join
returns-clause-join c = join_behind
