-- Files that are written into memory, up to a limit.
use Rattle.std.specs.Prelude.{ℕ, ◌+◌, [], None, length}
use Rattle.std.specs.List.{sum_by}
use Rattle.pd_outside.specs.Files.{File}
use Rattle.pd_outside.specs.Shelf.{Held, bytes_begun}

-- a shelf that holds nothing
abbrev pub no_files : Held
no_files = record { finished = []; begun = None }

-- how many bytes a file has, and how many a shelf holds
abbrev pub file_length : File → ℕ
file_length file = length file.bytes

abbrev pub bytes_held : Held → ℕ
bytes_held held = sum_by file_length held.finished + length (bytes_begun held)
