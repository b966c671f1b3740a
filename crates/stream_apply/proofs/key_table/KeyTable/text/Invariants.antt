use Rattle.std.proofs.Common.{◌≡◌, take}
use Rattle.stream_apply.specs.KeyedLines.{lines_text}
use Rattle.stream_apply.proofs.key_table.KeyTable.text.Given as goal

abbrev pub invariant-loop-index : goal.invariant-loop-index
invariant-loop-index l = l.text.items ≡ lines_text (take l.index l.self)
