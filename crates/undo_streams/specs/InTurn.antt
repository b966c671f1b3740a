-- A table's text and undo texts, undone one after the other.
use Rattle.std.specs.Prelude.{◌≡◌, ℕ, zero, suc, List, [], ◌∷◌}
use Rattle.stream_apply.specs.KeyedLines.{KeyedLine, lines_text}
use Rattle.stream_apply.specs.Streams.{IsLoaded, Table}
use Rattle.stream_apply.specs.declared.key_fields.KeyFields.TheVariants.{One}
use Rattle.undo_streams.specs.Reverting.{IsLoadFault, IsUndoFault, IsUndoneBy}
use Rattle.undo_streams.specs.declared.fault.RevertFault.{RevertFault}

-- a table with these lines
abbrev pub table_with : ℕ → List KeyedLine → Table
table_with delimiter lines = record { keys = One; delimiter = delimiter; lines = lines }

-- a table before and after undo texts, each taken in its turn, none of which has a fault
abbrev pub IsUndoneInTurn : ℕ → List (List ℕ) → List KeyedLine → List KeyedLine → Type 0
IsUndoneInTurn delimiter [] before after = before ≡ after
IsUndoneInTurn delimiter (bytes ∷ rest) before after =
    (lines : List KeyedLine) × IsUndoneBy delimiter before bytes lines × IsUndoneInTurn delimiter rest lines after

-- the undo text at a place, counted from 0, is the first with a fault when they are taken in turn
abbrev pub HasUndoFaultAt : ℕ → List (List ℕ) → List KeyedLine → ℕ → RevertFault → Type 0
HasUndoFaultAt delimiter [] before place fault = ⊥
HasUndoFaultAt delimiter (bytes ∷ rest) before zero fault = IsUndoFault delimiter before bytes fault
HasUndoFaultAt delimiter (bytes ∷ rest) before (suc place) fault =
    (lines : List KeyedLine) × IsUndoneBy delimiter before bytes lines × HasUndoFaultAt delimiter rest lines place fault

-- the text that a table's text and undo texts make, in the order in which they are read
abbrev pub IsRevertedText : ℕ → List (List ℕ) → List ℕ → Type 0
IsRevertedText delimiter [] text = ⊥
IsRevertedText delimiter (bytes ∷ undos) text =
    (before : List KeyedLine) × (after : List KeyedLine)
    × IsLoaded bytes One delimiter (table_with delimiter before) × IsUndoneInTurn delimiter undos before after × (text ≡ lines_text after)

-- the input at a place, counted from 0, is the first of a table's text and undo texts that has a fault
abbrev pub IsRevertFaultAt : ℕ → List (List ℕ) → ℕ → RevertFault → Type 0
IsRevertFaultAt delimiter [] place fault = ⊥
IsRevertFaultAt delimiter (bytes ∷ undos) zero fault = IsLoadFault delimiter bytes fault
IsRevertFaultAt delimiter (bytes ∷ undos) (suc place) fault =
    (lines : List KeyedLine) × IsLoaded bytes One delimiter (table_with delimiter lines) × HasUndoFaultAt delimiter undos lines place fault
