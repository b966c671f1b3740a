-- What is kept of a list.
use Rattle.std.specs.Prelude.{Bool, List, [], ◌∷◌, if◌then◌else◌}

-- of some items those beside which a flag is true
abbrev pub kept_by : {A : Type 0} → List Bool → List A → List A
kept_by [] items = []
kept_by (flag ∷ flags) [] = []
kept_by (flag ∷ flags) (item ∷ items) = if flag then item ∷ kept_by flags items else kept_by flags items
