-- How an order is held. No public clause cites this module.
use Rattle.std.specs.Prelude.{None, Some}
use Rattle.id_permutation.specs.Order.{Arrangement}
use Rattle.id_permutation.specs.declared.order.Way.{Way}
use Rattle.id_permutation.specs.declared.order.Way.TheVariants.{InPlace, Rounds, Tables}

-- the order that is held so
abbrev pub order_of : Way → Arrangement
order_of (InPlace size) = record { size = size; seed = None }
order_of (Rounds network) = record { size = network.size; seed = Some network.seed }
order_of (Tables tables) = record { size = tables.network.size; seed = Some tables.network.seed }
