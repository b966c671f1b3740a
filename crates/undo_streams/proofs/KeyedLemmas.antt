-- Lines of a table, known by their first field, as undo texts tell them.
use Rattle.std.proofs.Common.{◌≡◌, ℕ, false, List}
use Rattle.stream_apply.specs.KeyedLines.{KeyedLine, keyed}
use Rattle.stream_apply.specs.Streams.{IsKeyedLine, holds_keys_alone}
use Rattle.stream_apply.specs.declared.key_fields.KeyFields.TheVariants.{One}
use Rattle.stream_apply.specs.declared.kind.InputKind.{InputKind}
use Rattle.stream_apply.specs.declared.kind.InputKind.TheVariants.{Deletes}
use Rattle.stream_apply.proofs.UnitLemmas.{IsKeyedText, keyed-alone, keyed-whole}

-- a line of each kind but of one of keys alone
abbrev pub IsRow : ℕ → KeyedLine → Type 0
IsRow delimiter line = (kind : InputKind) → holds_keys_alone kind ≡ false → IsKeyedLine One delimiter kind line

-- a line that is written from its fields is such a line, and its key alone is one of keys alone
pub row-line : (delimiter : ℕ) (key text : List ℕ) → IsKeyedText One delimiter key text → IsRow delimiter (keyed key text)
row-line delimiter key text is = λ kind whole. keyed-whole One delimiter kind key text whole is

pub key-line : (delimiter : ℕ) (key text : List ℕ) → IsKeyedText One delimiter key text → IsKeyedLine One delimiter Deletes (keyed key key)
key-line delimiter key text is = keyed-alone One delimiter key text is
