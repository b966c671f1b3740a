use Rattle.std.proofs.Common.{◌≡◌, ◌<◌, ◌+◌, ◌*◌, ℕ, false, true, get_or}
use Rattle.detail_lines.specs.LineRuns.{AreFields, AreHeads}
use Rattle.detail_lines.proofs.detail_lines.DetailLines.put_columns.Given as goal

-- the columns before one
abbrev pub invariant-loop-column : goal.invariant-loop-column
invariant-loop-column l = record {
  heads : AreHeads l.self l.count l.run l.fn.pieces → AreHeads l.self l.count l.run l.pieces;
  fields : (k : ℕ) → k < l.column → get_or l.made k false ≡ true → AreFields l.self l.at.unit l.count l.run l.pieces ((k + 2) * l.count) k;
}
