-- Lines as they are read.
use Rattle.std.specs.Prelude.{◌≡◌, ℕ, List, ◌∷◌, ◌++◌}
use Rattle.stream_apply.specs.KeyedLines.{keyed}
use Rattle.undo_streams.specs.Reverting.{IsPlaceOf, UndoLine, place_text, word_of}
use Rattle.undo_streams.specs.declared.undo_lines.Lead.{Lead}
use Rattle.undo_streams.specs.declared.undo_lines.ReadUndo.{ReadUndo}

-- what is read of an undo line
abbrev pub undo_of : ReadUndo → UndoLine
undo_of read = record { part = read.part; place = read.place; line = keyed read.key.now read.text.now }

-- what a line begins with: a word, and a place where its part has one
pub record IsLead (delimiter : ℕ) (text : List ℕ) (lead : Lead) : Type 0 where
  pub place : IsPlaceOf lead.part lead.place
  pub written : text ≡ word_of lead.part ++ delimiter ∷ (place_text delimiter lead.part lead.place ++ lead.body.now)

-- a text that is that of no undo line, whatever its line is
abbrev pub LeadsNone : ℕ → List ℕ → Type 0
LeadsNone delimiter text =
    (undo : UndoLine) → IsPlaceOf undo.part undo.place → ¬ (text ≡ word_of undo.part ++ delimiter ∷ (place_text delimiter undo.part undo.place ++ undo.line.text))
