use Rattle.std.proofs.Common.{◌∷◌, refl}
use Rattle.range_workers.specs.declared.view.View.TheVariants.{Caller}
use Rattle.range_workers.proofs.RuleLemmas.{alone_has_all, word_bound}
use Rattle.range_workers.proofs.laws.all_numbers_come_back.Goals as goal

pub returns-clause-all : goal.returns-clause-all
returns-clause-all c word ns seats rule = alone_has_all word 0 (Caller ns 0 ∷ seats) ns rule refl

pub returns-clause-end : goal.returns-clause-end
returns-clause-end c = word_bound
