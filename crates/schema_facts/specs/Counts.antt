-- The numbers of a schema that count something.
use Rattle.std.specs.Prelude.{ℕ, ℤ, pos, negsuc}

-- the count that a number of a schema stands for; a number below 0 counts as 0
abbrev pub count : ℤ → ℕ
count (pos n) = n
count (negsuc n) = 0
