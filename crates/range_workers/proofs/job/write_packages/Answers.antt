use Rattle.std.proofs.Common.{◌+◌, arith}
use Rattle.pd_outside.proofs.Appending.{prefix_after}
use Rattle.pd_outside.proofs.Counts.{failed_then, unfailed_then}
use Rattle.range_workers.specs.Marks.{texts}
use Rattle.range_workers.proofs.WriteLemmas.{appended_then, texts_around, texts_onto}
use Rattle.range_workers.proofs.job.write_packages.Goals as goal

pub loop-n-preserved : goal.loop-n-preserved
loop-n-preserved g c =
    let text = g.P.Packer.text c.args.packer.now in
    record {
      from = omega (arith, c.loop-n.invariant.from);
      within = omega (arith, c.loop-n-test.true);
      text = appended_then (texts text c.args.first c.loop-n.n) (text c.loop-n.n) _ _ _ _ (texts_onto text c.args.first c.loop-n.n c.loop-n.invariant.from) c.loop-n.invariant.text c.in-Ok.ensures.text;
      begun = c.in-Ok.ensures.begun;
      unfailed = unfailed_then _ _ _ c.loop-n.invariant.unfailed c.in-Ok.ensures.counts.unfailed;
      ready = c.in-Ok.ensures.ready;
    }

pub returns-in-Err-clause-prefix : goal.returns-in-Err-clause-prefix
returns-in-Err-clause-prefix g c =
    let text = g.P.Packer.text c.args.packer.now in
    prefix_after _ (texts text c.args.first c.loop-n.n) (text c.loop-n.n) (texts text (c.loop-n.n + 1) c.args.end) _ _ _ (texts_around text c.args.first c.loop-n.n c.args.end c.loop-n.invariant.from c.loop-n-test.true) c.loop-n.invariant.text c.in-Err.ensures.prefix

pub returns-in-Err-clause-counts : goal.returns-in-Err-clause-counts
returns-in-Err-clause-counts g c = record {
  unfailed = tt;
  failed = failed_then _ _ _ c.loop-n.invariant.unfailed c.in-Err.ensures.counts.failed;
}
