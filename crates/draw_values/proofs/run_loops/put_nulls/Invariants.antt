use Rattle.std.proofs.Common.{◌≡◌, ℕ, ◌+◌, ◌%◌, ◌<◌, [], if◌then◌else◌, get_or, length, map, nat_lt}
use Rattle.line_pages.specs.Pieces.{piece_text}
use Rattle.draw_values.proofs.run_loops.put_nulls.Given as goal

abbrev pub invariant-loop-i : goal.invariant-loop-i
invariant-loop-i l = record {
  written : (k : ℕ) → k < l.i → get_or (map piece_text l.pieces) k [] ≡ (if nat_lt (get_or l.draws k 0 % 1000) l.null then piece_text l.null_piece else get_or (map piece_text l.initial.pieces) k []);
  kept : (k : ℕ) → l.i < k + 1 → k < length l.pieces → get_or (map piece_text l.pieces) k [] ≡ get_or (map piece_text l.initial.pieces) k [];
}
