use Rattle.std.proofs.Common.{refl}
use Rattle.schema_facts.specs.ColumnFacts.{column_facts}
use Rattle.schema_facts.proofs.laws.worked_numbers.Goals as goal

pub returns : goal.returns
unfolding column_facts
returns c = record {
  doubled = refl;
  ten_digits = refl;
  square = refl;
  greater_square = refl;
  signs = refl;
  scaled = refl;
  scaled_past_the_end = refl;
  on_its_way = refl;
  in_another_order = refl;
  least_of_64_bits = refl;
  reads = refl;
  one_read_more = refl;
}
