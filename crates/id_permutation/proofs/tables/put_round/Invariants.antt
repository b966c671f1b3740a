use Rattle.std.proofs.Common.{◌≡◌, ◌++◌}
use Rattle.id_permutation.specs.Tables.{round_values}
use Rattle.id_permutation.proofs.tables.put_round.Given as goal

-- the values so far
abbrev pub invariant-loop-half : goal.invariant-loop-half
invariant-loop-half l = l.tables.items ≡ l.initial.tables.items ++ round_values l.seed l.index l.modulus l.half
