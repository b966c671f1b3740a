use Rattle.std.proofs.Common.{◌≡◌, ◌<◌, ◌≤◌, ◌+◌, ◌*◌, ℕ, true, sum_by}
use Rattle.std.specs.List.{range_with_len}
use Rattle.row_lines.specs.RunFields.{AreMade, asked_short}
use Rattle.row_lines.specs.RunParents.{AreKnown}
use Rattle.row_lines.specs.TableLines.{is_short_at}
use Rattle.row_lines.proofs.runs.RunLines.put_columns.Given as goal

abbrev pub invariant-loop-column : goal.invariant-loop-column
invariant-loop-column g l = record {
  made : (k : ℕ) → k < l.column → is_short_at l.self.plan l.self.table k ≡ true → AreMade l.self l.rows.ordinals.now l.pieces (k * l.count) k;
  known : AreKnown l.self l.rows.ordinals.now l.parents;
  steps : l.steps ≤ l.fn.steps + l.count * sum_by (asked_short l.self) (range_with_len 0 l.column);
}
