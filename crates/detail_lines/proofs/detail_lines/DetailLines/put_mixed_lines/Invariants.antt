use Rattle.std.proofs.Common.{◌≡◌, ◌≤◌, ◌*◌, ◌++◌, length}
use Rattle.detail_plan.specs.Rules.{line_size}
use Rattle.detail_lines.specs.LineRuns.{run_text}
use Rattle.detail_lines.proofs.detail_lines.DetailLines.put_mixed_lines.Given as goal

-- the lines before one
abbrev pub invariant-loop-k : goal.invariant-loop-k
invariant-loop-k l = record {
  text : l.page ≡ record { text = l.fn.page.text ++ run_text l.self l.at.unit l.run l.k; room = l.fn.page.room };
  size : length (run_text l.self l.at.unit l.run l.k) ≤ l.k * line_size l.self.plan l.self.kept.lists l.self.kept.detail;
}
