use Rattle.std.proofs.Common.{◌≡◌, take}
use Rattle.row_text.specs.SplitLines.{read_so_far}
use Rattle.row_text.proofs.split_lines.split_line.Given as goal

abbrev pub invariant-loop-at : goal.invariant-loop-at
invariant-loop-at l = read_so_far l.delimiter l.reader ≡ take l.at l.line
