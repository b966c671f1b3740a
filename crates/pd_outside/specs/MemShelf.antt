-- How a shelf in memory keeps what it holds.
use Rattle.std.specs.Prelude.{◌<◌}
use Rattle.std.specs.Option.{option_map}
use Rattle.pd_outside.specs.Entry.{file_of}
use Rattle.pd_outside.specs.InMemory.{Writing}
use Rattle.pd_outside.specs.declared.mem_shelf.MemShelf.TheInside.{Inside}

abbrev pub writing_of : Inside → Writing
writing_of shelf = record {
  held = record { finished = shelf.finished; begun = option_map file_of shelf.begun };
  fails = shelf.fails;
  step = shelf.step;
  begins = shelf.begins;
  writes = shelf.writes;
  ends = shelf.ends;
  faults = shelf.faults;
  last_failed = shelf.last_failed;
}

-- each write takes at least a byte
abbrev pub TakesSome : Inside → Type 0
TakesSome shelf = 0 < shelf.step
