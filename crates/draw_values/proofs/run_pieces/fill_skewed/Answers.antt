use Rattle.std.proofs.Common.{◌≡◌, ◌<◌, ◌+◌, ◌^◌, ◌+ℤ◌, ℕ, ℤ, pos, get_or, w64, to_z, of_z, ap, ◌∙◌, arith}
use Rattle.std.specs.Prelude.{unsigned_abs}
use Rattle.std.specs.Fmt.{signed_decimal}
use Rattle.std.proofs.lemmas.Int.{to_z-of_z}
use Rattle.draw_values.specs.Runs.{with_behind}
use Rattle.draw_values.specs.Values.{chosen_group}
use Rattle.draw_values.proofs.PieceLemmas.{text-written}
use Rattle.draw_values.proofs.ShortNumberLemmas.{back, short_past}
use Rattle.draw_values.proofs.run_pieces.fill_skewed.Goals as goal
use Rattle.draw_values.proofs.run_pieces.fill_skewed.Goals.{After-skewed-value}

value_short : (c : After-skewed-value) → unsigned_abs c.skewed-value.result + 1 < 10 ^ 14
value_short c =
    let past : ℕ = chosen_group c.args.weights.now (get_or c.args.draws.now c.loop-i.i 0) in
    omega (arith, ap unsigned_abs (c.skewed-value.ensures.exact ∙ ap (λ (lo : ℤ). lo +ℤ pos past) (to_z-of_z w64 c.args.lo c.ranges.lo)), short_past c.args.lo past c.requires.short c.skewed-value.ensures.near)

value_back : (c : After-skewed-value) → to_z w64 (of_z w64 c.skewed-value.result) ≡ c.skewed-value.result
value_back c = back c.skewed-value.result (omega (arith, value_short c))

pub whole_piece-requires : goal.whole_piece-requires
whole_piece-requires c =
    let at : After-skewed-value = (goal.at.whole_piece-requires c).After-skewed-value in
    omega (arith, value_short at, ap unsigned_abs (value_back at))

pub loop-i-preserved : goal.loop-i-preserved
loop-i-preserved c =
    let lo : ℤ = to_z w64 (of_z w64 c.args.lo) in
    text-written (λ (k : ℕ). with_behind c.args.behind (signed_decimal (lo +ℤ pos (chosen_group c.args.weights.now (get_or c.args.draws.now k 0))))) c.loop-i.pieces c.loop-i.i c.whole_piece.result (omega arith) c.loop-i.invariant
    (c.whole_piece.ensures
    ∙ ap (λ (value : ℤ). with_behind c.args.behind (signed_decimal value)) (value_back (goal.at.loop-i-preserved c).After-skewed-value ∙ c.skewed-value.ensures.exact))

pub returns : goal.returns
returns c = λ k within.
    c.loop-i.invariant k (omega arith)
    ∙ ap (λ (lo : ℤ). with_behind c.args.behind (signed_decimal (lo +ℤ pos (chosen_group c.args.weights.now (get_or c.args.draws.now k 0))))) (to_z-of_z w64 c.args.lo c.ranges.lo)
