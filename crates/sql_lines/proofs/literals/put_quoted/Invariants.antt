use Rattle.std.proofs.Common.{◌≡◌, ◌≤◌, ◌++◌, flat_map, take}
use Rattle.std.specs.List.{slice_range}
use Rattle.sql_lines.specs.Literals.{quoted}
use Rattle.sql_lines.proofs.literals.put_quoted.Given as goal

abbrev pub invariant-loop-index : goal.invariant-loop-index
invariant-loop-index l = record {
  order : l.start ≤ l.index;
  text : l.buf.text ++ slice_range l.bytes l.start l.index ≡ l.fn.buf.text ++ flat_map quoted (take l.index l.bytes);
  room : l.buf.room ≡ l.fn.buf.room;
}
