use Rattle.std.proofs.Common.{ℕ, subst}
use Rattle.range_workers.specs.Makers.{IsReadyToMake}
use Rattle.range_workers.proofs.job.run.Goals as goal

pub write_files-requires-clause-ready : goal.write_files-requires-clause-ready
write_files-requires-clause-ready g c = λ lifetimes outlive.
    let text = g.P.Packer.text c.args.packer.now in
    let count = g.P.Packer.count c.args.packer.now in
    subst (λ (room : ℕ). IsReadyToMake text count room 0 c.in-Ok.makers) c.room.ensures (c.in-Ok.ensures text count)
