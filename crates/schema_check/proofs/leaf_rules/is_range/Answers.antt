use Rattle.std.proofs.Common.{◌∙◌, ◌&&◌, ◌^◌, ◌-◌, ◌-ℤ◌, int_le, pos, sym, ap, w64}
use Rattle.std.proofs.lemmas.Int.{to_z-of_z}
use Rattle.schema_check.proofs.LeafLemmas.{is_range-checked}
use Rattle.schema_check.proofs.leaf_rules.is_range.Goals as goal

pub returns-then-lo-hi : goal.returns-then-lo-hi
returns-then-lo-hi c =
    let lo = to_z-of_z w64 c.args.lo c.ranges.lo in
    let hi = to_z-of_z w64 c.args.hi c.ranges.hi in
    c.is_some.ensures
    ∙ is_range-checked c.args.lo c.args.hi c.checked_sub.result (rw (lo, hi) at c.if-lo-hi.true) (rw (lo, hi) at c.checked_sub.ensures)

pub returns-else-lo-hi : goal.returns-else-lo-hi
returns-else-lo-hi c =
    let lo = to_z-of_z w64 c.args.lo c.ranges.lo in
    let hi = to_z-of_z w64 c.args.hi c.ranges.hi in
    let apart = rw (lo, hi) at c.if-lo-hi.false in
    rw (lo, hi) (apart ∙ sym (ap (λ test. test && int_le (c.args.hi -ℤ c.args.lo) (pos (2 ^ 63 - 1))) apart))
