-- Lines of a table, each known by its key.
use Rattle.std.specs.Prelude.{ℕ, Bool, if◌then◌else◌, List, [], ◌∷◌, ◌++◌, flat_map, map}
use Rattle.std.specs.List.{list_any}
use Rattle.std.specs.Str.{bytes_eq}
use denote.Ref.{Bor}

-- a line without its line feed, and its first field or two as they are written, which are its key
pub record KeyedLine : Type 0 where
  pub key : List ℕ
  pub text : List ℕ

abbrev pub keyed : List ℕ → List ℕ → KeyedLine
keyed key text = record { key = key; text = text }

-- lines as they stand in a text
abbrev pub lines_text : List KeyedLine → List ℕ
lines_text lines = flat_map (λ line. line.text ++ 10 ∷ []) lines

-- whether one of the lines has this key
abbrev pub has_key : List KeyedLine → List ℕ → Bool
has_key lines key = list_any (λ line. bytes_eq key line.key) lines

-- the lines with a line in the place of the one with its key, or after them where none has it
abbrev pub put : List KeyedLine → KeyedLine → List KeyedLine
put [] line = line ∷ []
put (first ∷ lines) line = if bytes_eq line.key first.key then keyed first.key line.text ∷ lines else first ∷ put lines line

-- the lines of the entries of a map
abbrev pub lines_of : List (Bor (List ℕ) × Bor (List ℕ)) → List KeyedLine
lines_of entries = map (λ entry. keyed entry.0.now entry.1.now) entries
