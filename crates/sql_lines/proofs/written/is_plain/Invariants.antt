use Rattle.std.proofs.Common.{◌≡◌, take}
use Rattle.sql_lines.specs.Reading.{IsPlain}
use Rattle.sql_lines.proofs.written.is_plain.Given as goal

abbrev pub invariant-loop-byte : goal.invariant-loop-byte
invariant-loop-byte l = l.found ≡ 0 → IsPlain (take l.byte-index l.bytes)
