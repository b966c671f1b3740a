use Rattle.detail_laws.proofs.ApplyLawLemmas.{text-applied, unit-applied, units-applied}
use Rattle.detail_lines.proofs.DeclaredLemmas.{delimits}
use Rattle.detail_laws.proofs.laws.streams_give_the_next_details.Goals as goal

pub returns : goal.returns
returns c = record {
  text = λ plan limits kept keeps t within. text-applied plan limits kept keeps (delimits plan) t within;
  unit = λ plan limits kept keeps t some within. unit-applied plan limits kept keeps (delimits plan) t some within;
  units = λ plan limits kept keeps from count within. units-applied plan limits kept keeps (delimits plan) from count within;
}
