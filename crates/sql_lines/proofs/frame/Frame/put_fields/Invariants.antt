use Rattle.std.proofs.Common.{◌≡◌, ◌<◌, ◌≤◌, ◌++◌, drop, length}
use Rattle.sql_lines.specs.Frames.{behind_framed, framed}
use Rattle.sql_lines.proofs.frame.Frame.put_fields.Given as goal

abbrev pub invariant-loop-number : goal.invariant-loop-number
invariant-loop-number l = record {
  within : l.at ≤ length l.lines;
  order : l.fn.at ≤ l.at;
  further : 0 < l.number → l.fn.at < length l.lines → l.fn.at < l.at;
  text : l.page.text ++ framed l.delimiter (drop l.number l.self.columns) (drop l.at l.lines) ≡ l.fn.page.text ++ framed l.delimiter l.self.columns (drop l.fn.at l.lines);
  room : l.page.room ≡ l.fn.page.room;
  rest : behind_framed l.delimiter (drop l.number l.self.columns) (drop l.at l.lines) ≡ behind_framed l.delimiter l.self.columns (drop l.fn.at l.lines);
}
