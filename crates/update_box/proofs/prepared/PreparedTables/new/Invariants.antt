use Rattle.std.proofs.Common.{◌≡◌, length}
use Rattle.update_box.proofs.TableLemmas.{AreFirstLines}
use Rattle.update_box.proofs.prepared.PreparedTables.new.Given as goal

abbrev pub invariant-loop-number : goal.invariant-loop-number
invariant-loop-number l = record {
  many : length l.lines.items ≡ l.number;
  lines : AreFirstLines l.plan l.from l.number l.lines.items;
}
