-- Undo texts: their lines, what undoing them makes of a table, and their faults.
use Rattle.std.specs.Prelude.{◌≡◌, ℕ, ◌+◌, ◌<◌, ◌≤◌, ◌^◌, ⊤, true, false, List, [], ◌∷◌, ◌++◌, codes, decimal, drop, flat_map, fold, length, take}
use Rattle.stream_apply.specs.KeyedLines.{KeyedLine, has_key, put}
use Rattle.stream_apply.specs.InTurn.{IsFaultAt}
use Rattle.stream_apply.specs.Streams.{IsKeyedLine, Table, wants_held, without}
use Rattle.stream_apply.specs.declared.fault.ApplyFault.{ApplyFault}
use Rattle.stream_apply.specs.declared.fault.ApplyFault.TheVariants as applying
use Rattle.stream_apply.specs.declared.key_fields.KeyFields.TheVariants.{One}
use Rattle.stream_apply.specs.declared.kind.InputKind.{InputKind}
use Rattle.stream_apply.specs.declared.kind.InputKind.TheVariants.{Deletes, Inserts, Updates}
use Rattle.undo_streams.specs.declared.fault.RevertFault.{RevertFault}
use Rattle.undo_streams.specs.declared.fault.RevertFault.TheVariants.{BadLine, BadPlace, DoubleKey, KeyExists, Memory, NoSuchKey}
use Rattle.undo_streams.specs.declared.part.Part.{Part}
use Rattle.undo_streams.specs.declared.part.Part.TheVariants.{Adds, Drops, Sets}

-- ---- lines

-- a line of an undo text: the part that it stands in, the place from 0 at which it adds a line (0 where it adds none), and the line that it
-- drops, sets or adds, of which a drop has the key alone
pub record UndoLine : Type 0 where
  pub part : Part
  pub place : ℕ
  pub line : KeyedLine

-- the word that begins the lines of a part
abbrev pub word_of : Part → List ℕ
word_of Drops = codes "drop"
word_of Sets = codes "set"
word_of Adds = codes "add"

-- where the part stands among the three
abbrev pub rank_of : Part → ℕ
rank_of Drops = 0
rank_of Sets = 1
rank_of Adds = 2

-- what such a line drops is told by its key alone, and what it sets or adds is a line of the table
abbrev pub kind_of : Part → InputKind
kind_of Drops = Deletes
kind_of Sets = Updates
kind_of Adds = Inserts

-- a place is written in at most 13 digits, and stands where a line is added alone
abbrev pub IsPlaceOf : Part → ℕ → Type 0
IsPlaceOf Drops place = place ≡ 0
IsPlaceOf Sets place = place ≡ 0
IsPlaceOf Adds place = place < 10 ^ 13

-- the place and the delimiter after it, as they are written
abbrev pub place_text : ℕ → Part → ℕ → List ℕ
place_text delimiter Drops place = []
place_text delimiter Sets place = []
place_text delimiter Adds place = decimal place ++ delimiter ∷ []

-- a line as it is written, without its line feed: the word, the place where there is one, and the fields, with the delimiter between each two
abbrev pub undo_line_text : ℕ → UndoLine → List ℕ
undo_line_text delimiter undo = word_of undo.part ++ delimiter ∷ (place_text delimiter undo.part undo.place ++ undo.line.text)

-- lines as they stand in a text
abbrev pub undos_text : ℕ → List UndoLine → List ℕ
undos_text delimiter undos = flat_map (λ undo. undo_line_text delimiter undo ++ 10 ∷ []) undos

-- a line of an undo text
pub record IsUndoLine (delimiter : ℕ) (undo : UndoLine) : Type 0 where
  pub place : IsPlaceOf undo.part undo.place
  pub keyed : IsKeyedLine One delimiter (kind_of undo.part) undo.line

-- ---- what they make of a table

-- what a line makes of a table's lines: the one with its key is dropped, or its line takes the place of that, or stands at its place in the
-- list as it then is
abbrev pub undone_by : Part → ℕ → KeyedLine → List KeyedLine → List KeyedLine
undone_by Drops place line lines = without lines (line ∷ [])
undone_by Sets place line lines = put lines line
undone_by Adds place line lines = take place lines ++ line ∷ drop place lines

-- the least place at which a line after it may be added
abbrev pub least_behind : Part → ℕ → ℕ
least_behind Drops place = 0
least_behind Sets place = 0
least_behind Adds place = place + 1

-- a table while it is undone: its lines, those that the text told up to here, the part of the last of these, and the least place at which a line
-- may be added
pub record Undoing : Type 0 where
  pub lines : List KeyedLine
  pub told : List KeyedLine
  pub part : Part
  pub least : ℕ

-- before the first line of the text
abbrev pub begun : List KeyedLine → Undoing
begun lines = record { lines = lines; told = []; part = Drops; least = 0 }

-- after one line more, and after several in order
abbrev pub behind : Undoing → UndoLine → Undoing
behind undoing undo = record {
  lines = undone_by undo.part undo.place undo.line undoing.lines;
  told = undoing.told ++ undo.line ∷ [];
  part = undo.part;
  least = least_behind undo.part undo.place;
}

abbrev pub behind_all : Undoing → List UndoLine → Undoing
behind_all undoing undos = fold behind undoing undos

-- ---- faults

-- the place at which a line is added is greater than that of the one added before, and no greater than the length of the list
abbrev pub IsPlaceIn : Undoing → Part → ℕ → Type 0
IsPlaceIn undoing Drops place = ⊤
IsPlaceIn undoing Sets place = ⊤
IsPlaceIn undoing Adds place = (undoing.least ≤ place) × (place ≤ length undoing.lines)

-- the next line has no fault: it is a line, and of no earlier part than the one before; no line before has its key, and the table holds that where
-- it has to, and not where it may not; and its place is right
pub record IsTaken (delimiter : ℕ) (undoing : Undoing) (undo : UndoLine) : Type 0 where
  pub is : IsUndoLine delimiter undo
  pub order : rank_of undoing.part ≤ rank_of undo.part
  pub free : has_key undoing.told undo.line.key ≡ false
  pub held : has_key undoing.lines undo.line.key ≡ wants_held (kind_of undo.part)
  pub placed : IsPlaceIn undoing undo.part undo.place

-- nor has any of several in order
abbrev pub AreTaken : ℕ → Undoing → List UndoLine → Type 0
AreTaken delimiter undoing [] = ⊤
AreTaken delimiter undoing (undo ∷ undos) = IsTaken delimiter undoing undo × AreTaken delimiter (behind undoing undo) undos

-- bytes that start with no line that may stand after one of a part
abbrev pub StartsNone : ℕ → Part → List ℕ → Type 0
StartsNone delimiter part bytes =
    (undo : UndoLine) (rest : List ℕ) → bytes ≡ undo_line_text delimiter undo ++ 10 ∷ rest → IsUndoLine delimiter undo → ¬ (rank_of part ≤ rank_of undo.part)

-- bytes of which the first lines have no fault, and what is after them
pub record IsReadTo (delimiter : ℕ) (table : List KeyedLine) (bytes : List ℕ) (undos : List UndoLine) (rest : List ℕ) : Type 0 where
  pub text : bytes ≡ undos_text delimiter undos ++ rest
  pub taken : AreTaken delimiter (begun table) undos

-- the fault of a line that may stand where it stands, at its number
abbrev pub IsLineFault : Undoing → UndoLine → ℕ → RevertFault → Type 0
IsLineFault undoing undo number (BadLine line) = ⊥
IsLineFault undoing undo number (DoubleKey line) = (line ≡ number) × (has_key undoing.told undo.line.key ≡ true)
IsLineFault undoing undo number (NoSuchKey line) =
    (line ≡ number) × (has_key undoing.told undo.line.key ≡ false)
    × (wants_held (kind_of undo.part) ≡ true) × (has_key undoing.lines undo.line.key ≡ false)
IsLineFault undoing undo number (KeyExists line) =
    (line ≡ number) × (has_key undoing.told undo.line.key ≡ false)
    × (wants_held (kind_of undo.part) ≡ false) × (has_key undoing.lines undo.line.key ≡ true)
IsLineFault undoing undo number (BadPlace line) =
    (line ≡ number) × (has_key undoing.told undo.line.key ≡ false)
    × (has_key undoing.lines undo.line.key ≡ wants_held (kind_of undo.part)) × ¬ IsPlaceIn undoing undo.part undo.place
IsLineFault undoing undo number Memory = Unit {0}

-- what is after the lines without a fault starts with no line that may stand there
pub record HasBadUndo (delimiter : ℕ) (table : List KeyedLine) (bytes : List ℕ) (line : ℕ) : Type 0 where
  pub before : List UndoLine
  pub rest : List ℕ
  pub read : IsReadTo delimiter table bytes before rest
  pub number : line ≡ length before + 1
  pub more : 0 < length rest
  pub none : StartsNone delimiter (behind_all (begun table) before).part rest

-- the line after those without a fault may stand there, and has a fault
pub record HasLineFault (delimiter : ℕ) (table : List KeyedLine) (bytes : List ℕ) (fault : RevertFault) : Type 0 where
  pub before : List UndoLine
  pub undo : UndoLine
  pub rest : List ℕ
  pub read : IsReadTo delimiter table bytes before (undo_line_text delimiter undo ++ 10 ∷ rest)
  pub is : IsUndoLine delimiter undo
  pub order : rank_of (behind_all (begun table) before).part ≤ rank_of undo.part
  pub fault_is : IsLineFault (behind_all (begun table) before) undo (length before + 1) fault

-- the first fault of an undo text of a table
abbrev pub IsUndoFault : ℕ → List KeyedLine → List ℕ → RevertFault → Type 0
IsUndoFault delimiter table bytes (BadLine line) = HasBadUndo delimiter table bytes line
IsUndoFault delimiter table bytes (DoubleKey line) = HasLineFault delimiter table bytes (DoubleKey line)
IsUndoFault delimiter table bytes (NoSuchKey line) = HasLineFault delimiter table bytes (NoSuchKey line)
IsUndoFault delimiter table bytes (KeyExists line) = HasLineFault delimiter table bytes (KeyExists line)
IsUndoFault delimiter table bytes (BadPlace line) = HasLineFault delimiter table bytes (BadPlace line)
IsUndoFault delimiter table bytes Memory = Unit {0}

-- the first fault of a table's own text, which is that of a table to which streams are applied
abbrev pub IsLoadFault : ℕ → List ℕ → RevertFault → Type 0
IsLoadFault delimiter bytes (BadLine line) = IsFaultAt One delimiter (bytes ∷ []) 0 (applying.BadLine line)
IsLoadFault delimiter bytes (DoubleKey line) = IsFaultAt One delimiter (bytes ∷ []) 0 (applying.DoubleKey line)
IsLoadFault delimiter bytes (NoSuchKey line) = ⊥
IsLoadFault delimiter bytes (KeyExists line) = ⊥
IsLoadFault delimiter bytes (BadPlace line) = ⊥
IsLoadFault delimiter bytes Memory = Unit {0}

-- the fault as it is told of a table that is taken back
abbrev pub revert_fault_of : ApplyFault → RevertFault
revert_fault_of (applying.BadLine line) = BadLine line
revert_fault_of (applying.DoubleKey line) = DoubleKey line
revert_fault_of (applying.NoSuchKey line) = NoSuchKey line
revert_fault_of (applying.KeyExists line) = KeyExists line
revert_fault_of applying.Memory = Memory

-- ---- an undo text

-- bytes that are an undo text of a table's lines, with no fault, and the lines that they make of those
pub record IsUndoneBy (delimiter : ℕ) (before : List KeyedLine) (bytes : List ℕ) (after : List KeyedLine) : Type 0 where
  pub undos : List UndoLine
  pub text : bytes ≡ undos_text delimiter undos
  pub taken : AreTaken delimiter (begun before) undos
  pub made : after ≡ (behind_all (begun before) undos).lines

-- a table before and after
pub record IsUndone (bytes : List ℕ) (old new : Table) : Type 0 where
  pub delimits : new.delimiter ≡ old.delimiter
  pub undone : IsUndoneBy old.delimiter old.lines bytes new.lines
