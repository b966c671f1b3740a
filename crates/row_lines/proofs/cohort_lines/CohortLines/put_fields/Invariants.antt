use Rattle.std.proofs.Common.{◌≡◌, ◌≤◌, ◌+◌, ◌++◌, length, map, min}
use Rattle.std.specs.List.{join_with_byte, range_with_len}
use Rattle.schema_facts.specs.Layout.{layout_of}
use Rattle.row_lines.specs.CohortLines.{text_in_cohort}
use Rattle.row_lines.proofs.CohortLineLemmas.{asked_before, bytes_before}
use Rattle.row_lines.proofs.cohort_lines.CohortLines.put_fields.Given as goal

abbrev pub invariant-loop-column : goal.invariant-loop-column
invariant-loop-column g l = record {
  text : l.buf.text ≡ l.fn.buf.text ++ join_with_byte (layout_of l.self.plan).delimiter (map (text_in_cohort l.self l.index) (range_with_len 0 l.column));
  steps : l.steps ≤ l.fn.steps + asked_before l.self l.column;
  room : l.buf.room ≡ l.fn.buf.room;
  short : length l.buf.text + min l.column 1 ≤ length l.fn.buf.text + bytes_before l.self l.column;
}
