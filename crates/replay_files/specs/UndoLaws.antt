-- What the laws of undo texts speak of.
use Rattle.std.specs.Prelude.{ℕ, zero, suc, ◌+◌, List, [], ◌∷◌}
use Rattle.schema_facts.specs.Dictionaries.{Project}
use Rattle.undo_streams.specs.UndoText.{undo_text}

-- the undo texts of the table at a place, of as many units after one as a count tells, from the last of these down
abbrev pub undo_texts : Project → ℕ → ℕ → ℕ → List (List ℕ)
undo_texts plan place to zero = []
undo_texts plan place to (suc count) = undo_text plan (to + suc count) place ∷ undo_texts plan place to count
