-- Ordinals, and lists of them.
use Rattle.std.specs.Prelude.{ℕ, ◌==◌, Bool, ◌&&◌, List, nat_le, nat_lt}
use Rattle.std.specs.List.{list_any}

-- an ordinal lies from a first one up to another
abbrev pub lies_within : ℕ → ℕ → ℕ → Bool
lies_within first end ordinal = nat_le first ordinal && nat_lt ordinal end

-- whether an ordinal is one of some
abbrev pub is_one_of : List ℕ → ℕ → Bool
is_one_of ordinals ordinal = list_any (λ one. one == ordinal) ordinals
