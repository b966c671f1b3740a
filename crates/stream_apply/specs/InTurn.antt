-- A table's text and the streams of units, applied one after the other.
use Rattle.std.specs.Prelude.{◌≡◌, ℕ, zero, suc, List, [], ◌∷◌}
use Rattle.stream_apply.specs.KeyedLines.{KeyedLine, lines_text}
use Rattle.stream_apply.specs.Streams.{IsFaultOf, IsStream, made_by}
use Rattle.stream_apply.specs.declared.fault.ApplyFault.{ApplyFault}
use Rattle.stream_apply.specs.declared.key_fields.KeyFields.{KeyFields}
use Rattle.stream_apply.specs.declared.kind.InputKind.{InputKind}
use Rattle.stream_apply.specs.declared.kind.InputKind.TheVariants.{Deletes, Inserts, Snapshot, Updates}

-- bytes, and what they hold
pub record Input : Type 0 where
  pub kind : InputKind
  pub bytes : List ℕ

-- what is held after: after a table's text and after what a unit inserts, what the next unit deletes, then what it updates and inserts
abbrev pub next_kind : InputKind → InputKind
next_kind Snapshot = Deletes
next_kind Deletes = Updates
next_kind Updates = Inserts
next_kind Inserts = Deletes

-- inputs by what they hold, of which the first holds this
abbrev pub inputs_from : InputKind → List (List ℕ) → List Input
inputs_from kind [] = []
inputs_from kind (bytes ∷ rest) = record { kind = kind; bytes = bytes } ∷ inputs_from (next_kind kind) rest

-- a table before and after inputs, each applied in its turn, none of which has a fault
abbrev pub IsMadeInTurn : KeyFields → ℕ → List Input → List KeyedLine → List KeyedLine → Type 0
IsMadeInTurn keys delimiter [] before after = before ≡ after
IsMadeInTurn keys delimiter (input ∷ rest) before after =
    (lines : List KeyedLine) × IsStream keys delimiter input.kind before input.bytes lines
    × IsMadeInTurn keys delimiter rest (made_by input.kind before lines) after

-- the input at a place, counted from 0, is the first with a fault when inputs are applied in turn to a table
abbrev pub HasFaultAt : KeyFields → ℕ → List Input → List KeyedLine → ℕ → ApplyFault → Type 0
HasFaultAt keys delimiter [] before place fault = ⊥
HasFaultAt keys delimiter (input ∷ rest) before zero fault = IsFaultOf keys delimiter input.kind before input.bytes fault
HasFaultAt keys delimiter (input ∷ rest) before (suc place) fault =
    (lines : List KeyedLine) × IsStream keys delimiter input.kind before input.bytes lines
    × HasFaultAt keys delimiter rest (made_by input.kind before lines) place fault

-- the text that a table's text and the streams of units make, in the order in which they are read
pub record IsAppliedText (keys : KeyFields) (delimiter : ℕ) (inputs : List (List ℕ)) (text : List ℕ) : Type 0 where
  pub lines : List KeyedLine
  pub made : IsMadeInTurn keys delimiter (inputs_from Snapshot inputs) [] lines
  pub is : text ≡ lines_text lines

-- the input at a place, counted from 0, is the first of a table's text and the streams of units that has a fault
abbrev pub IsFaultAt : KeyFields → ℕ → List (List ℕ) → ℕ → ApplyFault → Type 0
IsFaultAt keys delimiter inputs place fault = HasFaultAt keys delimiter (inputs_from Snapshot inputs) [] place fault
