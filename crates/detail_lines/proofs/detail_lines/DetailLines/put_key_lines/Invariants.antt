use Rattle.std.proofs.Common.{◌≡◌, ◌≤◌, ◌*◌, ◌++◌, flat_map, length}
use Rattle.std.specs.List.{range_with_len}
use Rattle.detail_plan.specs.Rules.{line_size}
use Rattle.detail_lines.specs.Made.{made_key_line}
use Rattle.detail_lines.proofs.detail_lines.DetailLines.put_key_lines.Given as goal

abbrev pub invariant-loop-done : goal.invariant-loop-done
invariant-loop-done l = record {
  text : l.page ≡ record { text = l.fn.page.text ++ flat_map (made_key_line l.self l.t l.row.ordinal) (range_with_len 1 l.done); room = l.fn.page.room };
  size : length (flat_map (made_key_line l.self l.t l.row.ordinal) (range_with_len 1 l.done)) ≤ l.done * line_size l.self.plan l.self.kept.lists l.self.kept.detail;
}
