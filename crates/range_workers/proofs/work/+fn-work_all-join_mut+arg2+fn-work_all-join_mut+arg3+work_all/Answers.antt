use Rattle.std.proofs.Common.{rules}
use Rattle.std.specs.Prelude.{All}
use Rattle.std.proofs.lemmas.List.Elements.{All-append}
use Rattle.range_workers.specs.declared.work.RoundWorker.{RoundWorker}
use Rattle.range_workers.specs.Round.{HasWorked}
use Rattle.range_workers.proofs.work.+fn-work_all-join_mut+arg2+fn-work_all-join_mut+arg3+work_all.Goals as goal

pub returns-clause-workers : goal.returns-clause-workers
returns-clause-workers g t c =
    let Worked : RoundWorker → Type 0 = HasWorked c.args.claims.now (g.P.Packer.text c.args.packer.now) (g.P.Packer.room c.args.packer.now) c.args.round in
    let front : All Worked c.front-1.given.0 = search rules in
    let back : All Worked c.back-1.given.0 = search rules in
    All-append Worked _ _ front back
