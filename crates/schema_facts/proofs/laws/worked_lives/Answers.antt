use Rattle.std.proofs.Common.{refl}
use Rattle.schema_facts.specs.Lineage.{lineages}
use Rattle.schema_facts.proofs.laws.worked_lives.Goals as goal

pub returns : goal.returns
unfolding lineages
returns c = record {
  customer = refl;
  orders = refl;
  lines = refl;
  customer_at_most = refl;
  orders_at_most = refl;
  lines_at_most = refl;
  city = refl;
  house = refl;
  house_at_most = refl;
  remark = refl;
  remark_at_most = refl;
}
