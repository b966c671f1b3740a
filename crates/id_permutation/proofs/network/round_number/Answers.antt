use Rattle.std.proofs.Common.{◌≡◌, ℕ, ◌/◌, ◌%◌, ◌^◌, sym, ap, ◌∙◌, arith}
use Rattle.philox_seeds.specs.SeedTree.{keyed_number}
use Rattle.id_permutation.specs.Placement.{round_number}
use Rattle.id_permutation.proofs.network.round_number.Goals as goal

pub returns : goal.returns
unfolding round_number
returns c =
    let low : c.args.half % 2 ^ 32 ≡ c.args.half = omega arith in
    let high : c.args.half / 2 ^ 32 ≡ 0 = omega arith in
    c.keyed_number.ensures.number
    ∙ ap (λ (w : ℕ). keyed_number c.args.seed w 0 c.args.index 6) (sym low)
    ∙ ap (λ (w : ℕ). keyed_number c.args.seed (c.args.half % 2 ^ 32) w c.args.index 6) (sym high)
