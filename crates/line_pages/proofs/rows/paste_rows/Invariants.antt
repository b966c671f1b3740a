use Rattle.std.proofs.Common.{◌≡◌, ◌+◌, ◌++◌, length, take}
use Rattle.std.specs.List.{flat_map, range_with_len}
use Rattle.line_pages.specs.Rows.{row_of_pieces}
use Rattle.line_pages.proofs.rows.paste_rows.Given as goal

abbrev pub invariant-loop-row : goal.invariant-loop-row
invariant-loop-row l = record {
  end : l.end ≡ l.start + length (flat_map (row_of_pieces l.pieces l.columns l.stride) (range_with_len 0 l.row));
  text : take l.end l.bytes ≡ take l.start l.fn.bytes ++ flat_map (row_of_pieces l.pieces l.columns l.stride) (range_with_len 0 l.row);
}
