use Rattle.std.proofs.Common.{◌≡◌, ℕ, ◌+◌, ◌++◌, get_or}
use Rattle.std.specs.List.{flat_map, range_with_len}
use Rattle.line_pages.specs.Rows.{piece_text_at}
use Rattle.draw_values.specs.Items.{space_before}
use Rattle.draw_values.proofs.items.put_pieces.Given as goal

abbrev pub invariant-loop-i : goal.invariant-loop-i
invariant-loop-i l = record {
  text : l.page.text ≡ l.fn.page.text ++ flat_map (λ (i : ℕ). space_before l.spaced (l.first + i) ++ piece_text_at l.kept (get_or l.places i 0)) (range_with_len 0 l.i);
  room : l.page.room ≡ l.fn.page.room;
}
