use Rattle.std.proofs.Common.{◌≡◌, ◌++◌, ◌*◌, ◌≤◌, length}
use Rattle.std.specs.List.{range_with_len}
use Rattle.undo_streams.specs.Packages.{most_bytes}
use Rattle.undo_streams.specs.Parts.{dropping_each}
use Rattle.undo_streams.proofs.undo_packer.put_drops.Given as goal

abbrev pub invariant-loop-number : goal.invariant-loop-number
invariant-loop-number g l = record {
  text : l.page ≡ record l.initial.page { text = l.initial.page.text ++ dropping_each l.rows l.table (range_with_len l.first l.number) };
  size : length (dropping_each l.rows l.table (range_with_len l.first l.number)) ≤ l.number * most_bytes l.rows l.table;
}
