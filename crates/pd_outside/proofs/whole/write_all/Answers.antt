use Rattle.std.proofs.Common.{◌+◌, ◌≤◌, length, arith}
use Rattle.std.proofs.lemmas.List.{length-drop, take_rest}
use Rattle.pd_outside.proofs.Appending.{append_more}
use Rattle.pd_outside.proofs.Counts.{unfailed_by, unfailed_then}
use Rattle.pd_outside.proofs.whole.write_all.Goals as goal

pub loop-at-preserved : goal.loop-at-preserved
loop-at-preserved g c =
    let inv = c.loop-at.invariant in
    let within : c.loop-at.at + c.in-Ok.n ≤ length c.args.bytes.now =
    omega (arith, rw take_rest at c.in-Ok.ensures.within, length-drop c.loop-at.at c.args.bytes.now)
    in (
      within,
      append_more _ _ _ _ _ _ inv.1 (rw take_rest at c.in-Ok.ensures.held),
      c.in-Ok.ensures.begun,
      unfailed_then _ _ _ inv.3 (unfailed_by _ _ _ c.in-Ok.ensures.counts),
    )
