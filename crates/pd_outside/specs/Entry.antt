-- A file as this crate keeps it.
use Rattle.std.specs.Prelude.{List, map, string_bytes}
use Rattle.pd_outside.specs.Files.{File}
use Rattle.pd_outside.specs.declared.files.Entry.{Entry}

abbrev pub file_of : Entry → File
file_of entry = record { name = string_bytes entry.name; bytes = entry.bytes.items }

abbrev pub files_of : List Entry → List File
files_of entries = map file_of entries
