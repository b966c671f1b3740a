use Rattle.std.proofs.Common.{◌≡◌, ◌≤◌, ◌+◌, ◌*◌, ◌++◌, length, sum_by, take}
use Rattle.std.specs.Prelude.{All}
use Rattle.std.specs.List.{range_with_len}
use Rattle.schema_facts.specs.Layout.{layout_of}
use Rattle.schema_facts.specs.TableFacts.{max_line}
use Rattle.row_lines.specs.RunFields.{HasSizes, asked_long}
use Rattle.row_lines.specs.Runs.{layout_for, listed_text}
use Rattle.row_lines.proofs.RowOfRunLemmas.{of_unit}
use Rattle.row_lines.proofs.runs.RunLines.put_lines.Given as goal

abbrev pub invariant-loop-row : goal.invariant-loop-row
invariant-loop-row g l = record {
  lines : l.lines ≡ of_unit l.self l.lines.born;
  text : l.page ≡ record { text = l.fn.page.text ++ listed_text l.self (take l.row l.rows.ordinals.now); room = l.fn.page.room };
  size : length (listed_text l.self (take l.row l.rows.ordinals.now)) ≤ l.row * max_line (layout_of l.self.plan) l.self.table;
  fields : All (HasSizes l.self) (take l.row l.rows.ordinals.now);
  steps : l.steps ≤ l.fn.steps + l.row * sum_by (asked_long l.self) (range_with_len 0 (length (layout_for l.self).columns));
}
