use Rattle.std.proofs.Common.{◌≡◌, ◌<◌, ◌+◌, ◌*◌, ℕ, true}
use Rattle.draw_values.specs.Runs.{is_itemized}
use Rattle.detail_lines.specs.LineRuns.{AreItems}
use Rattle.detail_lines.specs.Made.{ready_over}
use Rattle.detail_lines.proofs.detail_lines.DetailLines.itemize_columns.Given as goal

abbrev pub invariant-loop-column : goal.invariant-loop-column
invariant-loop-column l = (k : ℕ) → k < l.column → is_itemized (ready_over l.self k).kind ≡ true → AreItems l.self l.count l.run l.items ((k + 2) * l.count) k
