-- Where packages of rows begin, and texts of a range.
use Rattle.std.proofs.Common.{◌≡◌, ◌<◌, ◌≤◌, ℕ, zero, suc, ◌+◌, ◌-◌, ◌*◌, ◌/◌, List, ◌++◌, flat_map, refl, ap, arith, ◌∙◌}
use Rattle.std.specs.List.{range_with_len}
use Rattle.std.proofs.Math.Nat.{mul-div-le, mul-le-mul_left}
use Rattle.detail_rows.specs.Packages.{package_count}

-- a package begins before the last row's end
pub package-begins : (n rows size : ℕ) → 1 ≤ size → n < package_count size rows → n * size < rows
package-begins n rows size some below =
    let whole : size * ((rows + (size - 1)) / size) ≤ rows + (size - 1) = mul-div-le (rows + (size - 1)) size in
    let here : size * (n + 1) ≤ size * ((rows + (size - 1)) / size) = mul-le-mul_left size (omega (arith, below)) in
    omega (arith, whole, here, some)

-- texts that are the same at each number of a range are the same one after the other
pub flat_map-range_same : (g h : ℕ → List ℕ) (a count : ℕ) → ((k : ℕ) → k < a + count → g k ≡ h k) → flat_map g (range_with_len a count) ≡ flat_map h (range_with_len a count)
flat_map-range_same g h a zero same = refl
flat_map-range_same g h a (suc count) same =
    ap (λ (text : List ℕ). text ++ flat_map g (range_with_len (a + 1) count)) (same a (omega arith))
    ∙ ap (λ (text : List ℕ). h a ++ text) (flat_map-range_same g h (a + 1) count (λ k below. same k (omega (arith, below))))
