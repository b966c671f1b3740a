-- Numbers in decimal, with a point.
use Rattle.std.specs.Prelude.{ℕ, zero, suc, ℤ, pos, negsuc, ◌/◌, ◌^◌, List, ◌∷◌, ◌++◌, decimal}
use Rattle.line_pages.specs.Digits.{last_digits}

-- a number whose last digits, as many as are said, stand after a point, and at least one before it; no point where none are said
abbrev pub pointed : ℕ → ℕ → List ℕ
pointed zero n = decimal n
pointed (suc count) n = decimal (n / 10 ^ suc count) ++ 46 ∷ last_digits (suc count) n

-- the same with a minus sign where the number is negative
abbrev pub signed_pointed : ℕ → ℤ → List ℕ
signed_pointed decimals (pos n) = pointed decimals n
signed_pointed decimals (negsuc n) = 45 ∷ pointed decimals (suc n)
