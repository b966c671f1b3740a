use Rattle.std.proofs.Common.{◌≡◌, ◌++◌, ◌*◌, ◌≤◌, length, take}
use Rattle.undo_streams.specs.Packages.{most_bytes}
use Rattle.undo_streams.specs.Parts.{adding_each}
use Rattle.undo_streams.proofs.undo_packer.put_adds.Given as goal

abbrev pub invariant-loop-i : goal.invariant-loop-i
invariant-loop-i g l = record {
  text : l.page ≡ record l.initial.page { text = l.initial.page.text ++ adding_each l.before (take l.i l.deleted) (take l.i l.places) };
  size : length (adding_each l.before (take l.i l.deleted) (take l.i l.places)) ≤ l.i * most_bytes l.before.plan l.before.table;
}
