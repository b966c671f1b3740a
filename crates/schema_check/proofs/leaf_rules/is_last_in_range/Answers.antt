use Rattle.std.proofs.Common.{◌∙◌, ◌≤ℤ◌, ◌-ℤ◌, FitsSigned, pos, w64, arith}
use Rattle.std.proofs.lemmas.Int.{ints, to_z-of_z}
use Rattle.schema_check.proofs.LeafLemmas.{is_some-sum}
use Rattle.schema_check.proofs.leaf_rules.is_last_in_range.Goals as goal

pub returns : goal.returns
returns c =
    let lo = to_z-of_z w64 c.args.lo c.ranges.lo in
    let size = to_z-of_z w64 c.args.size c.ranges.size in
    let fits : FitsSigned w64 (c.args.size -ℤ pos 1) = omega (arith, ints) in
    let more : pos 0 ≤ℤ (c.args.size -ℤ pos 1) = omega (arith, ints) in
    c.is_some.ensures
    ∙ is_some-sum c.args.lo (c.args.size -ℤ pos 1) c.checked_add.result c.ranges.lo more (rw (lo, size, to_z-of_z w64 (c.args.size -ℤ pos 1) fits) at c.checked_add.ensures)
