use Rattle.detail_lines.specs.LineRuns.{AreSpread, HasRoom}
use Rattle.detail_lines.proofs.line_run.LineLists.spread.Given as goal

abbrev pub invariant-loop-k : goal.invariant-loop-k
invariant-loop-k l = record {
  room : HasRoom l.self;
  spread : AreSpread l.row l.place l.from l.k l.fn.self l.self;
}
