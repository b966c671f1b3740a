use Rattle.std.proofs.Common.{◌+◌, ◌*◌, arith}
use Rattle.detail_lines.proofs.LineListLemmas.{room-with, spread-more, spread-none}
use Rattle.detail_lines.proofs.line_run.LineLists.spread.Goals as goal

pub loop-k-init : goal.loop-k-init
loop-k-init c = record { room = c.requires.room; spread = spread-none c.args.row.now c.args.place c.args.from c.args.self.now }

pub loop-k-preserved : goal.loop-k-preserved
loop-k-preserved c = record {
  room = room-with c.args.row.now c.args.place (c.loop-k.k + 1) (64 * c.args.row.now.ordinal + c.loop-k.k) (c.args.from + c.loop-k.k) c.loop-k.self c.loop-k.invariant.room;
  spread = spread-more c.args.row.now c.args.place c.args.from c.loop-k.k c.args.self.now c.loop-k.self c.loop-k.invariant.room (omega (arith, c.loop-k-test.true, c.requires.within)) c.loop-k.invariant.spread;
}
