use Rattle.std.proofs.Common.{◌≡◌, ◌≤◌, ◌++◌, take}
use Rattle.std.specs.List.{slice_range}
use Rattle.row_text.specs.Fields.{escaped_text}
use Rattle.row_text.proofs.fields.put_runs.Given as goal

abbrev pub invariant-loop-index : goal.invariant-loop-index
invariant-loop-index l = record {
  order : l.start ≤ l.index;
  text : l.buf.text ++ slice_range l.bytes l.start l.index ≡ l.fn.buf.text ++ escaped_text l.delimiter (take l.index l.bytes);
  room : l.buf.room ≡ l.fn.buf.room;
}
