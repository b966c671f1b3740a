use Rattle.std.proofs.Common.{arith, length, length-append, ap, List, ℕ, flat_map, take}
use Rattle.std.proofs.lemmas.List.Sums.{sum_by_more_le}
use Rattle.row_lines.specs.Parts.{part_size, written_part}
use Rattle.row_lines.proofs.cohort_fields.CohortFields.put_parts.Goals as goal

pub put_part-requires-clause-room : goal.put_part-requires-clause-room
put_part-requires-clause-room g c =
    let so_far : List ℕ = flat_map (written_part c.args.self.now c.args.index c.args.values.now.changed) (take c.loop-part.part-index c.args.parts.now) in
    omega (
      arith,
      c.loop-part.invariant.size,
      c.loop-part.invariant.room,
      ap (λ (text : List ℕ). length text) c.loop-part.invariant.text,
      length-append c.args.buf.now.text so_far,
      sum_by_more_le (part_size c.args.self.now) c.args.parts.now c.loop-part.part-index c.part-item.result c.loop-part-test.true,
      ap (part_size c.args.self.now) c.part-item.is,
      c.requires.room,
    )
