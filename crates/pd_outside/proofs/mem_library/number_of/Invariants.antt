use Rattle.std.proofs.Common.{◌≡◌, drop}
use Rattle.pd_outside.specs.Files.{file_named}
use Rattle.pd_outside.proofs.mem_library.number_of.Given as goal

abbrev pub invariant-loop-i : goal.invariant-loop-i
invariant-loop-i l = file_named (drop l.i l.files) l.name ≡ file_named l.files l.name
