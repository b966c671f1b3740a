use Rattle.std.proofs.Common.{◌≡◌, ◌≤◌, ◌++◌, decimal, flat_map, get_or, length}
use Rattle.std.specs.List.{range_with_len}
use Rattle.draw_values.specs.Runs.{with_behind}
use Rattle.detail_lines.specs.LineRuns.{line_of, text_over}
use Rattle.detail_lines.specs.Made.{behind_over, delimiter_over, fields_room}
use Rattle.detail_lines.proofs.detail_lines.DetailLines.put_mixed_line.Given as goal

-- the key, the number and the fields before one
abbrev pub invariant-loop-column : goal.invariant-loop-column
invariant-loop-column l = record {
  text : l.page ≡ record {
    text = l.fn.page.text ++ (with_behind (delimiter_over l.self) (decimal (get_or l.run.rows.keys.now l.k 0)) ++ (with_behind (delimiter_over l.self) (decimal (get_or l.run.numbers.now l.k 0))
        ++ flat_map (λ column. with_behind (behind_over l.self column) (text_over (line_of l.self l.at.unit l.run l.k) column)) (range_with_len 0 l.column)));
    room = l.fn.page.room;
  };
  size : length (flat_map (λ column. with_behind (behind_over l.self column) (text_over (line_of l.self l.at.unit l.run l.k) column)) (range_with_len 0 l.column)) ≤ fields_room l.self l.column;
}
