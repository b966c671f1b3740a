use Rattle.std.proofs.Common.{◌≡◌, ◌+ℤ◌, map, pos}
use Rattle.std.specs.List.{range_with_len}
use Rattle.line_pages.specs.Pieces.{piece_text}
use Rattle.draw_values.specs.Dates.{date_text}
use Rattle.draw_values.specs.Runs.{with_behind}
use Rattle.draw_values.proofs.kept.day_pieces.Given as goal

abbrev pub invariant-loop-day : goal.invariant-loop-day
invariant-loop-day l = map piece_text l.pieces.items ≡ map (with_behind l.behind) (map (λ day. date_text (l.first +ℤ pos day)) (range_with_len 0 l.day))
