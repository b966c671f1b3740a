use Rattle.std.proofs.Common.{◌≤◌, ◌<◌, ◌/◌, ◌*◌, ◌^◌, ℕ, arith, sym}
use Rattle.std.proofs.lemmas.Nat.{div-add-mod', mul-le}
use Rattle.schema_facts.proofs.SpreadLemmas.{spread_sum}
use Rattle.life_intervals.proofs.BlockLemmas.{block_start-from, none_from_over}
use Rattle.life_intervals.proofs.children.block_below.Goals as goal

pub returns-then-number-size : goal.returns-then-number-size
returns-then-number-size c =
    sym (none_from_over c.args.reference.now.spread c.args.size c.args.number
    (omega (arith, c.if-number-size.true, block_start-from c.args.reference.now.spread c.requires.spread c.args.number)))

-- a quotient is no greater than the number
quotient_le : (number groups : ℕ) → 1 ≤ groups → number / groups ≤ number
quotient_le number groups some = omega (arith, some, div-add-mod' number groups, mul-le (number / groups) 1 (number / groups) groups (omega arith) some)

product_le : (number groups total size : ℕ) → 1 ≤ groups → number < size → size ≤ 2 ^ 40 → total ≤ 64000 → number / groups * total ≤ 2 ^ 40 * 64000
product_le number groups total size some below limit small =
    mul-le (number / groups) total (2 ^ 40) 64000 (omega (arith, quotient_le number groups some, below, limit)) small

pub overflow_mul-first : goal.overflow_mul-first
overflow_mul-first c =
    let small = spread_sum c.args.reference.now.spread c.requires.spread in
    let product = product_le c.args.number c.args.reference.now.groups c.number.result c.args.size (omega (arith, c.requires.groups, c.requires.spread.some_weight)) c.if-number-size.false c.requires.size
    (omega (arith, c.number.ensures.number, c.requires.total, small)) in
    omega (arith, product)

pub overflow_add-first : goal.overflow_add-first
overflow_add-first c =
    let small = spread_sum c.args.reference.now.spread c.requires.spread in
    let product = product_le c.args.number c.args.reference.now.groups c.number.result c.args.size (omega (arith, c.requires.groups, c.requires.spread.some_weight)) c.if-number-size.false c.requires.size
    (omega (arith, c.number.ensures.number, c.requires.total, small)) in
    omega (arith, product, small, c.weight_before.ensures.within)
