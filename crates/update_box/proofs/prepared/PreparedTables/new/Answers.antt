use Rattle.std.proofs.Common.{length, ap}
use Rattle.update_box.proofs.TableLemmas.{first_lines-none}
use Rattle.update_box.proofs.prepared.PreparedTables.new.Goals as goal

pub loop-number-init : goal.loop-number-init
loop-number-init c = record {
  many = ap length c.new-lines.ensures.items;
  lines = first_lines-none c.args.plan.now c.places_of-from.result.from _;
}
