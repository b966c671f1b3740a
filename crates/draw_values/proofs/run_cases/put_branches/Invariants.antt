use Rattle.std.proofs.Common.{◌≡◌, ℕ, ◌<◌, [], get_or, map}
use Rattle.line_pages.specs.Pieces.{piece_text}
use Rattle.draw_values.specs.ReadyValues.{ready_branch}
use Rattle.draw_values.specs.Runs.{text_by, with_behind}
use Rattle.draw_values.proofs.run_cases.put_branches.Given as goal

abbrev pub invariant-loop-i : goal.invariant-loop-i
invariant-loop-i l = (k : ℕ) → k < l.i → get_or (map piece_text l.pieces) k [] ≡ with_behind l.behind (text_by (ready_branch l.branches (get_or l.places k 0)) (get_or l.draws k 0))
