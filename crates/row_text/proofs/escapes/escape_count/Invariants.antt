use Rattle.std.proofs.Common.{◌≡◌, ◌≤◌, ◌+◌, length, take}
use Rattle.row_text.specs.Fields.{escaped_text}
use Rattle.row_text.proofs.escapes.escape_count.Given as goal

abbrev pub invariant-loop-byte : goal.invariant-loop-byte
invariant-loop-byte l = record {
  count : l.byte-index + l.count ≡ length (escaped_text l.delimiter (take l.byte-index l.bytes));
  within : l.count ≤ l.byte-index;
}
