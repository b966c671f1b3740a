use Rattle.std.proofs.Common.{◌≡◌, ◌<◌, ◌≤◌, length, take}
use Rattle.row_text.specs.Fields.{escaped_text}
use Rattle.row_text.proofs.escapes.has_escape.Given as goal

abbrev pub invariant-loop-byte : goal.invariant-loop-byte
invariant-loop-byte l = record {
  none : l.found ≡ 0 → escaped_text l.delimiter (take l.byte-index l.bytes) ≡ take l.byte-index l.bytes;
  some : 0 < l.found → l.byte-index < length (escaped_text l.delimiter (take l.byte-index l.bytes));
  within : l.byte-index ≤ length (escaped_text l.delimiter (take l.byte-index l.bytes));
}
