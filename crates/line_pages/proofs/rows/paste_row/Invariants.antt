use Rattle.std.proofs.Common.{◌≡◌, ℕ, ◌+◌, ◌*◌, ◌++◌, length, take}
use Rattle.std.specs.List.{flat_map, range_with_len}
use Rattle.line_pages.specs.Rows.{piece_text_at}
use Rattle.line_pages.proofs.rows.paste_row.Given as goal

abbrev pub invariant-loop-column : goal.invariant-loop-column
invariant-loop-column l =
    let f = λ (column : ℕ). piece_text_at l.pieces (column * l.stride + l.row) in
    record {
      place : l.place ≡ l._column * l.stride + l.row;
      end : l.end ≡ l.start + length (flat_map f (range_with_len 0 l._column));
      text : take l.end l.bytes ≡ take l.start l.fn.bytes ++ flat_map f (range_with_len 0 l._column);
    }
