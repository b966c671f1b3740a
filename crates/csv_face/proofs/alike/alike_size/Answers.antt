use Rattle.std.proofs.Common.{◌<◌, ◌+◌, arith, inl, length}
use Rattle.csv_face.proofs.AlikeLemmas.{none-alike, stand-more}
use Rattle.csv_face.proofs.alike.alike_size.Goals as goal

pub loop-size-preserved : goal.loop-size-preserved
loop-size-preserved c =
    let within : c.loop-size.size + 64 < length c.args.text.now = omega (arith, c.loop-size-test.true) in
    record {
      within = inl within;
      alike = stand-more c.args.text.now c.loop-size.size 64 c.loop-size.invariant.alike (c.block_may_differ.ensures c.if-block_may_differ.false);
    }

pub returns-then-is_empty-clause-lines : goal.returns-then-is_empty-clause-lines
returns-then-is_empty-clause-lines c = none-alike
