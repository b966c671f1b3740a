use Rattle.std.proofs.Common.{◌≡◌, arith}
use Rattle.std.proofs.lemmas.Grind.{common_steps}
use Rattle.weight_tables.specs.Weights.{Selects, selected}
use Rattle.weight_tables.proofs.SelectionLemmas.{Selects-selected}
use Rattle.weight_tables.proofs.FinderLemmas.{selected-is}
use Rattle.weight_tables.proofs.weights.Weights.select.Goals as goal

pub returns-then-is_empty-clause-exact : goal.returns-then-is_empty-clause-exact
returns-then-is_empty-clause-exact c = selected-is c.args.self.now c.args.x c.search.result c.requires c.search.ensures

tabled : (c : goal.After-from) → Selects c.args.self.now c.args.x c.from.result
tabled c =
    let is : c.from.result ≡ selected c.args.self.now c.args.x = grind (arith, common_steps) in
    rw is (Selects-selected c.args.self.now c.args.x c.requires)

pub returns-else-is_empty-clause-within : goal.returns-else-is_empty-clause-within
returns-else-is_empty-clause-within c = (tabled c).within

pub returns-else-is_empty-clause-below : goal.returns-else-is_empty-clause-below
returns-else-is_empty-clause-below c = (tabled c).below

pub returns-else-is_empty-clause-first : goal.returns-else-is_empty-clause-first
returns-else-is_empty-clause-first c = (tabled c).first
