-- Numbers with zeros before their digits.
use Rattle.std.specs.Prelude.{ℕ, ◌-◌, ◌==◌, List, [], ◌∷◌, ◌++◌, drop, if◌then◌else◌, length, replicate, take}

-- the number of bytes of the minus sign with which a text begins, 0 where it begins with none
abbrev pub sign_size : List ℕ → ℕ
sign_size [] = 0
sign_size (byte ∷ bytes) = if byte == 45 then 1 else 0

-- a text with so many zeros in it, after a minus sign and before all else
abbrev pub with_zeros : ℕ → List ℕ → List ℕ
with_zeros zeros text = take (sign_size text) text ++ replicate zeros 48 ++ drop (sign_size text) text

-- a text that is filled with them up to so many bytes. One that has as many or more stays as it is
abbrev pub padded : ℕ → List ℕ → List ℕ
padded width text = with_zeros (width - length text) text
