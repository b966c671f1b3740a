use Rattle.std.proofs.Common.{◌≡◌, decimal, map}
use Rattle.std.specs.List.{range_with_len}
use Rattle.line_pages.specs.Pieces.{piece_text}
use Rattle.draw_values.specs.Runs.{with_behind}
use Rattle.detail_lines.proofs.detail_lines.number_pieces.Given as goal

abbrev pub invariant-loop-number : goal.invariant-loop-number
invariant-loop-number l = map piece_text l.made.items ≡ map (λ number. with_behind l.delimiter (decimal number)) (range_with_len 0 l.number)
