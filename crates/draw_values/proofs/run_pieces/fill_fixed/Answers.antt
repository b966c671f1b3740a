use Rattle.std.proofs.Common.{◌≡◌, ◌<◌, ◌≤ℤ◌, ◌^◌, ℕ, ℤ, get_or, w64, to_z, of_z, ap, subst, ◌∙◌, arith}
use Rattle.std.specs.Prelude.{unsigned_abs}
use Rattle.std.proofs.lemmas.Int.{to_z-of_z}
use Rattle.draw_values.specs.Digits.{signed_pointed}
use Rattle.draw_values.specs.Runs.{with_behind}
use Rattle.draw_values.specs.Values.{chosen}
use Rattle.draw_values.proofs.PieceLemmas.{text-written}
use Rattle.draw_values.proofs.ShortNumberLemmas.{back, short_between}
use Rattle.draw_values.proofs.run_pieces.fill_fixed.Goals as goal
use Rattle.draw_values.proofs.run_pieces.fill_fixed.Goals.{After-chosen-value}

value_short : (c : After-chosen-value) → unsigned_abs c.chosen-value.result < 10 ^ 13
value_short c =
    let lo : to_z w64 (of_z w64 c.args.lo) ≡ c.args.lo = to_z-of_z w64 c.args.lo c.ranges.lo in
    let hi : to_z w64 (of_z w64 c.args.hi) ≡ c.args.hi = to_z-of_z w64 c.args.hi c.ranges.hi in
    let least : c.args.lo ≤ℤ c.chosen-value.result = subst (λ (n : ℤ). n ≤ℤ c.chosen-value.result) lo c.chosen-value.ensures.least in
    let greatest : c.chosen-value.result ≤ℤ c.args.hi = subst (λ (n : ℤ). c.chosen-value.result ≤ℤ n) hi c.chosen-value.ensures.greatest in
    short_between c.args.lo c.args.hi c.chosen-value.result c.requires.short_lo c.requires.short_hi least greatest

value_back : (c : After-chosen-value) → to_z w64 (of_z w64 c.chosen-value.result) ≡ c.chosen-value.result
value_back c = back c.chosen-value.result (omega (arith, value_short c))

pub fixed_piece-requires-clause-short : goal.fixed_piece-requires-clause-short
fixed_piece-requires-clause-short c =
    let at : After-chosen-value = (goal.at.fixed_piece-requires-clause-short c).After-chosen-value in
    omega (arith, value_short at, ap unsigned_abs (value_back at))

pub loop-i-preserved : goal.loop-i-preserved
loop-i-preserved c =
    let lo : ℤ = to_z w64 (of_z w64 c.args.lo) in
    let hi : ℤ = to_z w64 (of_z w64 c.args.hi) in
    text-written (λ (k : ℕ). with_behind c.args.behind (signed_pointed c.args.decimals (chosen lo hi 1 (get_or c.args.draws.now k 0)))) c.loop-i.pieces c.loop-i.i c.fixed_piece.result (omega arith) c.loop-i.invariant
    (c.fixed_piece.ensures
    ∙ ap (λ (value : ℤ). with_behind c.args.behind (signed_pointed c.args.decimals value)) (value_back (goal.at.loop-i-preserved c).After-chosen-value ∙ c.chosen-value.ensures.exact))

pub returns : goal.returns
returns c = λ k within.
    c.loop-i.invariant k (omega arith)
    ∙ ap (λ (lo : ℤ). with_behind c.args.behind (signed_pointed c.args.decimals (chosen lo (to_z w64 (of_z w64 c.args.hi)) 1 (get_or c.args.draws.now k 0)))) (to_z-of_z w64 c.args.lo c.ranges.lo)
    ∙ ap (λ (hi : ℤ). with_behind c.args.behind (signed_pointed c.args.decimals (chosen c.args.lo hi 1 (get_or c.args.draws.now k 0)))) (to_z-of_z w64 c.args.hi c.ranges.hi)
