use Rattle.std.proofs.Common.{◌≡◌, ◌++◌, ◌*◌, ◌≤◌, length, take}
use Rattle.undo_streams.specs.Packages.{most_bytes}
use Rattle.undo_streams.specs.Parts.{setting_each}
use Rattle.undo_streams.proofs.undo_packer.put_sets.Given as goal

abbrev pub invariant-loop-i : goal.invariant-loop-i
invariant-loop-i g l = record {
  text : l.page ≡ record l.initial.page { text = l.initial.page.text ++ setting_each l.before (take l.i l.updated) };
  size : length (setting_each l.before (take l.i l.updated)) ≤ l.i * most_bytes l.before.plan l.before.table;
}
