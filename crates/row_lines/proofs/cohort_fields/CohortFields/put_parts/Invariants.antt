use Rattle.std.proofs.Common.{◌≡◌, ◌≤◌, ◌+◌, ◌++◌, flat_map, is_some, length, sum_by, take}
use Rattle.row_lines.specs.Parts.{part_asked, part_size, written_part}
use Rattle.row_lines.proofs.cohort_fields.CohortFields.put_parts.Given as goal

abbrev pub invariant-loop-part : goal.invariant-loop-part
invariant-loop-part g l = record {
  text : l.buf.text ≡ l.fn.buf.text ++ flat_map (written_part l.self l.index l.values.changed) (take l.part-index l.parts);
  room : l.buf.room ≡ l.fn.buf.room;
  steps : l.steps ≤ l.fn.steps + sum_by (part_asked (is_some l.key) l.self) (take l.part-index l.parts);
  size : length (flat_map (written_part l.self l.index l.values.changed) (take l.part-index l.parts)) ≤ sum_by (part_size l.self) (take l.part-index l.parts);
}
