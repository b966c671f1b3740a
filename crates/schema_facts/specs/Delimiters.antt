-- The byte between two fields of a line.
use Rattle.std.specs.Prelude.{ℕ}
use Rattle.schema_model.specs.declared.table.Delimiter.{Delimiter}
use Rattle.schema_model.specs.declared.table.Delimiter.TheVariants.{Tab, Bar}

-- the byte that a delimiter is
abbrev pub delimiter_byte : Delimiter → ℕ
delimiter_byte Tab = 9
delimiter_byte Bar = 124
