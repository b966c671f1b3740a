-- The keys of a map's entries, as those of lines.
use Rattle.std.proofs.Common.{◌≡◌, ℕ, Bool, false, List, [], ◌∷◌, map}
use Rattle.std.specs.List.{AllByRecursion, IsDistinct}
use Rattle.std.specs.Map.{keys_of}
use Rattle.std.specs.Str.{bytes_eq}
use Rattle.stream_apply.specs.KeyedLines.{KeyedLine, lines_of}
use denote.Ref.{Bor}

abbrev Entry : Type 0
Entry = Bor (List ℕ) × Bor (List ℕ)

abbrev eq : Bor (List ℕ) → Bor (List ℕ) → Bool
eq x y = bytes_eq x.now y.now

differ : (key : List ℕ) (entries : List Entry) → AllByRecursion (λ (y : Bor (List ℕ)). bytes_eq key y.now ≡ false) (keys_of entries) →
    AllByRecursion (λ (y : List ℕ). bytes_eq key y ≡ false) (map (λ (line : KeyedLine). line.key) (lines_of entries))
differ key [] all = tt
differ key (e ∷ es) all = (all.0, differ key es all.1)

-- entries with keys apart are lines with keys apart
pub lines_of-distinct : (entries : List Entry) → IsDistinct eq (keys_of entries) → IsDistinct bytes_eq (map (λ (line : KeyedLine). line.key) (lines_of entries))
unfolding IsDistinct
lines_of-distinct [] apart = tt
lines_of-distinct (e ∷ es) apart = (differ e.0.now es apart.0, lines_of-distinct es apart.1)
