use Rattle.std.proofs.Common.{◌<◌, ℕ, length, arith, sym, ◌∙◌}
use Rattle.std.specs.List.{range_with_len}
use Rattle.std.proofs.lemmas.List.{ext_get_or}
use Rattle.std.proofs.lemmas.List.FromFn.{get_or-range_with_len, length-range_with_len}
use Rattle.undo_streams.proofs.row_places.put_range.Goals as goal

pub returns : goal.returns
returns c =
    let count : ℕ = length c.args.list.now in
    ext_get_or 0 c.loop-index.list (range_with_len c.args.first count)
    (omega (arith, c.loop-index.invariant.length, length-range_with_len c.args.first count))
    (λ i below.
    let inside : i < count = omega (arith, below, c.loop-index.invariant.length) in
    c.loop-index.invariant.each i (omega (arith, inside, c.loop-index.invariant.length, c.loop-index-test.false)) ∙ sym (get_or-range_with_len c.args.first count i 0 inside))
