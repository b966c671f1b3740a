-- What comes of the items of a list in turn.
use Rattle.std.specs.Prelude.{List, [], ◌∷◌, ◌++◌}

-- what comes of each of some items, by what came of those before it
abbrev pub in_turn : {A B : Type 0} → (List B → A → B) → List B → List A → List B
in_turn give given [] = []
in_turn give given (x ∷ xs) = give given x ∷ in_turn give (given ++ give given x ∷ []) xs
