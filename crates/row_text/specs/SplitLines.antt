-- A line as far as it is read.
use Rattle.std.specs.Prelude.{ℕ, List, [], ◌∷◌, ◌++◌, flat_map, codes, Option}
use Rattle.row_text.specs.Fields.{field_text, escaped_text}
use Rattle.row_text.specs.Lines.{IsBadAt}
use Rattle.row_text.specs.declared.split_lines.SplitFault.{SplitFault}
use Rattle.row_text.specs.declared.split_lines.SplitFault.TheVariants.{BadAt, Memory}
use Rattle.row_text.specs.declared.split_lines.Place.{Place}
use Rattle.row_text.specs.declared.split_lines.Place.TheVariants.{Text, Backslash, Null}
use Rattle.row_text.specs.declared.split_lines.Reader.{Reader}

-- fields that are read whole, each with the delimiter after it
abbrev pub fields_before : ℕ → List (Option (List ℕ)) → List ℕ
fields_before delimiter fields = flat_map (λ field. field_text delimiter field ++ delimiter ∷ []) fields

-- what is read of the field after them
abbrev pub field_so_far : ℕ → List ℕ → Place → List ℕ
field_so_far delimiter text Text = escaped_text delimiter text
field_so_far delimiter text Backslash = escaped_text delimiter text ++ 92 ∷ []
field_so_far delimiter text Null = codes "\\N"

-- all that is read of a line
abbrev pub read_so_far : ℕ → Reader → List ℕ
read_so_far delimiter reader = fields_before delimiter reader.fields ++ field_so_far delimiter reader.text.items reader.place

-- a fault that a line has
abbrev pub IsSplitFault : ℕ → List ℕ → SplitFault → Type 0
IsSplitFault delimiter line (BadAt at) = IsBadAt delimiter line at
IsSplitFault delimiter line Memory = Unit {0}
