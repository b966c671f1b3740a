use Rattle.std.proofs.Common.{◌≡◌, ℕ, ◌+◌, ◌-◌, ◌/◌, ◌<◌, ◌≤◌, ◌^◌, sym, ap, subst, arith}
use Rattle.id_permutation.specs.Placement.{height_of, width_of}
use Rattle.id_permutation.proofs.SideLaws.{Covers-sides, height_of-root, height_of-small}
use Rattle.id_permutation.proofs.shape.Shape.new.Goals as goal

pub made-requires : goal.made-requires
unfolding width_of
made-requires c =
    let n = c.args.size in
    let root = c.isqrt-height.result in
    let tall : height_of n ≡ root + 1 = height_of-root n root c.requires.some c.isqrt-height.ensures.square_le c.isqrt-height.ensures.next_square_gt in
    let wide : (n + (root + 1 - 1)) / (root + 1) ≡ width_of n = ap (λ (a : ℕ). (n + (a - 1)) / a) (sym tall) in
    let low : height_of n ≤ 2 ^ 20 = height_of-small n c.requires.small in
    let covers = Covers-sides n c.requires.some in
    let not_wider : width_of n ≤ height_of n = covers.not_wider in
    record {
      some = c.requires.some;
      small = c.requires.small;
      tall = sym tall;
      wide = wide;
      rows = subst (λ (a : ℕ). 0 < a) tall covers.tall;
      columns = subst (λ (b : ℕ). 0 < b) (sym wide) covers.wide;
      low = subst (λ (a : ℕ). a ≤ 2 ^ 20) tall low;
      narrow = subst (λ (b : ℕ). b ≤ 2 ^ 20) (sym wide) (let h : width_of n ≤ 2 ^ 20 = omega arith in h);
    }
