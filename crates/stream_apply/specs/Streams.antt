-- Streams of lines, what they make of a table, and their faults.
use Rattle.std.specs.Prelude.{◌≡◌, ℕ, ◌+◌, Bool, true, false, not, List, [], ◌∷◌, ◌++◌, All, Option, Some, filter, fold, get_or, length, map, take, ◌<◌}
use Rattle.row_text.specs.Lines.{IsLineBody, line_text}
use Rattle.stream_apply.specs.KeyedLines.{KeyedLine, has_key, lines_text, put}
use Rattle.stream_apply.specs.declared.fault.ApplyFault.{ApplyFault}
use Rattle.stream_apply.specs.declared.fault.ApplyFault.TheVariants.{BadLine, DoubleKey, KeyExists, Memory, NoSuchKey}
use Rattle.stream_apply.specs.declared.key_fields.KeyFields.{KeyFields}
use Rattle.stream_apply.specs.declared.key_fields.KeyFields.TheVariants.{One, Two}
use Rattle.stream_apply.specs.declared.kind.InputKind.{InputKind}
use Rattle.stream_apply.specs.declared.kind.InputKind.TheVariants.{Deletes, Inserts, Snapshot, Updates}

-- whether each line is a key alone
abbrev pub holds_keys_alone : InputKind → Bool
holds_keys_alone Snapshot = false
holds_keys_alone Deletes = true
holds_keys_alone Updates = false
holds_keys_alone Inserts = false

-- whether the table has to hold the key of each line; else it may hold none
abbrev pub wants_held : InputKind → Bool
wants_held Snapshot = false
wants_held Deletes = true
wants_held Updates = true
wants_held Inserts = false

-- how many fields at the front of a line are its key
abbrev pub key_count : KeyFields → ℕ
key_count One = 1
key_count Two = 2

-- texts as fields, none of which is null
abbrev pub text_fields : List (List ℕ) → List (Option (List ℕ))
text_fields texts = map (λ (text : List ℕ). Some text) texts

-- the fields of a line: as many texts first as a key has, and others
pub record IsFields (keys : KeyFields) (kind : InputKind) (fields : List (Option (List ℕ))) (front : List (List ℕ)) (others : List (Option (List ℕ))) : Type 0 where
  pub count : length front ≡ key_count keys
  pub is : fields ≡ text_fields front ++ others
  pub alone : holds_keys_alone kind ≡ true → others ≡ []

-- a line of a stream, with its key
pub record IsKeyedLine (keys : KeyFields) (delimiter : ℕ) (kind : InputKind) (line : KeyedLine) : Type 0 where
  pub fields : List (Option (List ℕ))
  pub front : List (List ℕ)
  pub others : List (Option (List ℕ))
  pub body : IsLineBody delimiter fields line.text
  pub parts : IsFields keys kind fields front others
  pub key : line.key ≡ line_text delimiter (text_fields front)

-- bytes that start with no line of a stream
abbrev pub StartsNone : KeyFields → ℕ → InputKind → List ℕ → Type 0
StartsNone keys delimiter kind bytes = (line : KeyedLine) (rest : List ℕ) → bytes ≡ line.text ++ 10 ∷ rest → ¬ IsKeyedLine keys delimiter kind line

-- bytes that are the lines of a stream for a table, with no fault
pub record IsStream (keys : KeyFields) (delimiter : ℕ) (kind : InputKind) (table : List KeyedLine) (bytes : List ℕ) (lines : List KeyedLine) : Type 0 where
  pub text : bytes ≡ lines_text lines
  pub keyed : All (IsKeyedLine keys delimiter kind) lines
  pub apart : (i : ℕ) (d : KeyedLine) → i < length lines → has_key (take i lines) (get_or lines i d).key ≡ false
  pub held : All (λ (line : KeyedLine). has_key table line.key ≡ wants_held kind) lines

-- a stream of which the first lines have no fault, and what is after them
pub record IsReadTo (keys : KeyFields) (delimiter : ℕ) (kind : InputKind) (table : List KeyedLine) (bytes : List ℕ) (lines : List KeyedLine) (rest : List ℕ) : Type 0 where
  pub text : bytes ≡ lines_text lines ++ rest
  pub lines_read : IsStream keys delimiter kind table (lines_text lines) lines

-- the fault of a key, at the line of a number, after lines without a fault
abbrev pub IsKeyFault : InputKind → List KeyedLine → List KeyedLine → List ℕ → ℕ → ApplyFault → Type 0
IsKeyFault kind table before key number (BadLine line) = ⊥
IsKeyFault kind table before key number (DoubleKey line) = (line ≡ number) × (has_key before key ≡ true)
IsKeyFault kind table before key number (NoSuchKey line) = (line ≡ number) × (has_key before key ≡ false) × (wants_held kind ≡ true) × (has_key table key ≡ false)
IsKeyFault kind table before key number (KeyExists line) = (line ≡ number) × (has_key before key ≡ false) × (wants_held kind ≡ false) × (has_key table key ≡ true)
IsKeyFault kind table before key number Memory = ⊥

-- the line after those without a fault is no line of the stream
pub record HasBadLine (keys : KeyFields) (delimiter : ℕ) (kind : InputKind) (table : List KeyedLine) (bytes : List ℕ) (line : ℕ) : Type 0 where
  pub before : List KeyedLine
  pub rest : List ℕ
  pub read : IsReadTo keys delimiter kind table bytes before rest
  pub number : line ≡ length before + 1
  pub more : 0 < length rest
  pub none : StartsNone keys delimiter kind rest

-- the line after those without a fault has a key at fault
pub record HasKeyFault (keys : KeyFields) (delimiter : ℕ) (kind : InputKind) (table : List KeyedLine) (bytes : List ℕ) (fault : ApplyFault) : Type 0 where
  pub before : List KeyedLine
  pub line : KeyedLine
  pub rest : List ℕ
  pub read : IsReadTo keys delimiter kind table bytes before (line.text ++ 10 ∷ rest)
  pub keyed : IsKeyedLine keys delimiter kind line
  pub key : IsKeyFault kind table before line.key (length before + 1) fault

-- the first fault of a stream
abbrev pub IsFaultOf : KeyFields → ℕ → InputKind → List KeyedLine → List ℕ → ApplyFault → Type 0
IsFaultOf keys delimiter kind table bytes (BadLine line) = HasBadLine keys delimiter kind table bytes line
IsFaultOf keys delimiter kind table bytes (DoubleKey line) = HasKeyFault keys delimiter kind table bytes (DoubleKey line)
IsFaultOf keys delimiter kind table bytes (NoSuchKey line) = HasKeyFault keys delimiter kind table bytes (NoSuchKey line)
IsFaultOf keys delimiter kind table bytes (KeyExists line) = HasKeyFault keys delimiter kind table bytes (KeyExists line)
IsFaultOf keys delimiter kind table bytes Memory = Unit {0}

-- a table without the lines whose keys are among those of others
abbrev pub without : List KeyedLine → List KeyedLine → List KeyedLine
without table others = filter (λ (line : KeyedLine). not (has_key others line.key)) table

-- a table with lines, each in its turn, in the place of the one with its key
abbrev pub with_each : List KeyedLine → List KeyedLine → List KeyedLine
with_each table lines = fold put table lines

-- what the lines of a stream make of a table: dropped, replaced in place, or appended
abbrev pub made_by : InputKind → List KeyedLine → List KeyedLine → List KeyedLine
made_by Snapshot table lines = lines
made_by Deletes table lines = without table lines
made_by Updates table lines = with_each table lines
made_by Inserts table lines = table ++ lines

-- a table as it stands, with what of its lines is their key and the byte between two fields
pub record Table : Type 0 where
  pub keys : KeyFields
  pub delimiter : ℕ
  pub lines : List KeyedLine

-- a table as bytes hold it
pub record IsLoaded (bytes : List ℕ) (keys : KeyFields) (delimiter : ℕ) (table : Table) : Type 0 where
  pub known_by : table.keys ≡ keys
  pub delimits : table.delimiter ≡ delimiter
  pub read : IsStream keys delimiter Snapshot [] bytes table.lines

-- a table before and after a stream of a kind: the lines of the stream have no fault, and what they make of the table's
pub record IsApplied (kind : InputKind) (bytes : List ℕ) (old new : Table) : Type 0 where
  pub lines : List KeyedLine
  pub known_by : new.keys ≡ old.keys
  pub delimits : new.delimiter ≡ old.delimiter
  pub read : IsStream old.keys old.delimiter kind old.lines bytes lines
  pub made : new.lines ≡ made_by kind old.lines lines

-- what the streams of one unit make of a table: the lines of the deletes dropped, those of the updates in place, those of the inserts last
abbrev pub applied : List KeyedLine → List KeyedLine → List KeyedLine → List KeyedLine → List KeyedLine
applied table deletes updates inserts = with_each (without table deletes) updates ++ inserts

-- the lines after a table's text and the streams of one unit, none of which has a fault
pub record IsBehind (keys : KeyFields) (delimiter : ℕ) (text deletes updates inserts : List ℕ) (lines : List KeyedLine) : Type 0 where
  pub table : List KeyedLine
  pub dropped : List KeyedLine
  pub replaced : List KeyedLine
  pub added : List KeyedLine
  pub table_read : IsStream keys delimiter Snapshot [] text table
  pub deletes_read : IsStream keys delimiter Deletes table deletes dropped
  pub updates_read : IsStream keys delimiter Updates (without table dropped) updates replaced
  pub inserts_read : IsStream keys delimiter Inserts (with_each (without table dropped) replaced) inserts added
  pub are : lines ≡ applied table dropped replaced added
