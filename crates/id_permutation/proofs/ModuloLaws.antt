-- Adding a number modulo m, and taking it away again.
use Rattle.std.proofs.Common.{◌≡◌, ℕ, ◌+◌, ◌-◌, ◌*◌, ◌/◌, ◌%◌, ◌<◌, sym, ap, ◌∙◌, arith}
use Rattle.std.proofs.Math.Nat.{mod-add-mod, mod-eq_of_lt, div-add-mod, add-mul-mod_self_left}
use Rattle.std.proofs.lemmas.Nat.{mod_below}

-- c and what it lacks of a multiple of m leave a number below m alone
add_and_rest : (x c m : ℕ) → x < m → (x + (c + (m - c % m))) % m ≡ x
add_and_rest x c m h =
    let low : c % m < m = mod_below c m (omega arith) in
    let parts : m * (c / m) + c % m ≡ c = div-add-mod c m in
    let whole : c + (m - c % m) ≡ m * (c / m + 1) = omega arith in
    ap (λ (k : ℕ). (x + k) % m) whole ∙ add-mul-mod_self_left x m (c / m + 1) ∙ mod-eq_of_lt h

-- added and taken away
pub add_modulo-undone : (x c m : ℕ) → x < m → ((x + c) % m + (m - c % m)) % m ≡ x
add_modulo-undone x c m h =
    mod-add-mod (x + c) m (m - c % m)
    ∙ ap (λ (k : ℕ). k % m) (let regrouped : x + c + (m - c % m) ≡ x + (c + (m - c % m)) = omega arith in regrouped)
    ∙ add_and_rest x c m h

-- taken away, with m lent, and added
pub lacking_and_add : (x c m : ℕ) → x < m → ((x + (m - c % m)) % m + c) % m ≡ x
lacking_and_add x c m h =
    mod-add-mod (x + (m - c % m)) m c
    ∙ ap (λ (k : ℕ). k % m) (let regrouped : x + (m - c % m) + c ≡ x + (c + (m - c % m)) = omega arith in regrouped)
    ∙ add_and_rest x c m h

-- adding is one-to-one
pub add_modulo-one : (x y c m : ℕ) → x < m → y < m → (x + c) % m ≡ (y + c) % m → x ≡ y
add_modulo-one x y c m hx hy e =
    sym (add_modulo-undone x c m hx) ∙ ap (λ (k : ℕ). (k + (m - c % m)) % m) e ∙ add_modulo-undone y c m hy
