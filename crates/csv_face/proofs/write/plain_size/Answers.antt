use Rattle.std.proofs.Common.{arith, sym, ◌∙◌}
use Rattle.csv_face.proofs.ScanLemmas.{plain-more}
use Rattle.csv_face.proofs.write.plain_size.Goals as goal

pub loop-place-preserved : goal.loop-place-preserved
loop-place-preserved c =
    plain-more c.args.delimiter c.args.text.now c.loop-place.place 0 (omega (arith, c.loop-place-test.true)) c.loop-place.invariant (sym c.is_plain.ensures ∙ c.if-not-is_plain.false)
