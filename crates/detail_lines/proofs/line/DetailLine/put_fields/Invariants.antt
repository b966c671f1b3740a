use Rattle.std.proofs.Common.{◌≡◌, ◌≤◌, ◌++◌, length}
use Rattle.detail_lines.specs.Made.{fields_room, written_fields}
use Rattle.detail_lines.specs.Shown.{AreShown}
use Rattle.detail_lines.proofs.line.DetailLine.put_fields.Given as goal

-- the fields before one
abbrev pub invariant-loop-column : goal.invariant-loop-column
invariant-loop-column g l = record {
  shown : AreShown l.self l.column l.shown;
  text : l.page ≡ record { text = l.fn.page.text ++ written_fields l.self l.column; room = l.fn.page.room };
  size : length (written_fields l.self l.column) ≤ fields_room l.self.over l.column;
}
