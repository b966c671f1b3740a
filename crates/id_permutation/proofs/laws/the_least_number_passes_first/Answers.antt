use Rattle.id_permutation.proofs.LeastLaws.{IsLeast-least}
use Rattle.id_permutation.proofs.laws.the_least_number_passes_first.Goals as goal

pub returns : goal.returns
returns c = record {
  within = λ p bound. (IsLeast-least p bound).within;
  passes = λ p bound. (IsLeast-least p bound).passes;
  first = λ p bound. (IsLeast-least p bound).fails;
}
