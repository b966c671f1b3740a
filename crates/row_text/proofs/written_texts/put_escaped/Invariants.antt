use Rattle.std.proofs.Common.{◌≡◌, ◌++◌, take}
use Rattle.row_text.specs.Fields.{escaped_text}
use Rattle.row_text.proofs.written_texts.put_escaped.Given as goal

abbrev pub invariant-loop-byte : goal.invariant-loop-byte
invariant-loop-byte l = l.bytes.items ≡ l.fn.bytes.items ++ escaped_text l.delimiter (take l.byte-index l.text)
