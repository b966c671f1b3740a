use Rattle.std.proofs.Common.{◌≡◌, ◌++◌, drop, false}
use Rattle.sql_lines.specs.Literals.{literal_text}
use Rattle.sql_lines.specs.Reading.{text_from}
use Rattle.sql_lines.proofs.written.put_text.Given as goal

abbrev pub invariant-loop-byte : goal.invariant-loop-byte
invariant-loop-byte l = record {
  text : l.buf.text ++ literal_text l.bare (text_from l.escape (drop l.byte-index l.written)) ≡ l.fn.buf.text ++ literal_text l.bare (text_from false l.written);
  room : l.buf.room ≡ l.fn.buf.room;
}
