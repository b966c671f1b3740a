-- The most bytes of what is read.
use Rattle.std.specs.Prelude.{ℕ}

-- of a schema's text
abbrev pub schema_limit : ℕ
schema_limit = 1048576

-- of a dictionary
abbrev pub dictionary_limit : ℕ
dictionary_limit = 16777216
