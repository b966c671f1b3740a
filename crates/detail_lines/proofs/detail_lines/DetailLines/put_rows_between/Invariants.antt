use Rattle.std.proofs.Common.{◌≡◌, ◌≤◌, ◌-◌, ◌*◌, ◌++◌, flat_map, length}
use Rattle.std.specs.List.{range_with_len}
use Rattle.detail_lines.specs.declared.detail_lines.LineKind.TheVariants.{Whole}
use Rattle.detail_lines.specs.Made.{made_row, row_of}
use Rattle.detail_lines.proofs.detail_lines.DetailLines.put_rows_between.Given as goal

-- the rows before one
abbrev pub invariant-loop-i : goal.invariant-loop-i
invariant-loop-i g l = record {
  ordered : l.first ≤ l.i;
  text : l.page ≡ record { text = l.fn.page.text ++ flat_map (λ i. made_row l.self Whole l.at.unit (row_of l.rows i).ordinal) (range_with_len l.first (l.i - l.first)); room = l.fn.page.room };
  size : length (flat_map (λ i. made_row l.self Whole l.at.unit (row_of l.rows i).ordinal) (range_with_len l.first (l.i - l.first))) ≤ (l.i - l.first) * l.self.kept.reach;
}
