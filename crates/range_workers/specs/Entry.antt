-- A mark as it is kept.
use Rattle.std.specs.Prelude.{string_bytes}
use Rattle.range_workers.specs.Marks.{Mark}
use Rattle.range_workers.specs.declared.marks.Entry.{Entry}

abbrev pub mark_of : Entry → Mark
mark_of entry = record { first = entry.first; name = string_bytes entry.name }
