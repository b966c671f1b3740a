use Rattle.run_jobs.proofs.JoinedLemmas.{found-next, found-room, found-text}
use Rattle.run_jobs.proofs.joined.found.Goals as goal

pub loop-part-preserved : goal.loop-part-preserved
loop-part-preserved g c =
    found-next g.P.Packer.count c.args.parts.now c.loop-part.part-index c.args.n c.loop-part.number c.count-count.result c.part-item.result c.loop-part-test.true c.part-item.is c.loop-part.invariant
    c.count-count.ensures.count c.if-number-count.false

pub returns-then-number-count-clause-text : goal.returns-then-number-count-clause-text
returns-then-number-count-clause-text g c =
    found-text g.P.Packer.count g.P.Packer.text c.args.parts.now c.loop-part.part-index c.args.n c.loop-part.number c.count-count.result c.part-item.result c.loop-part-test.true c.part-item.is c.loop-part.invariant
    c.count-count.ensures.count c.if-number-count.true

pub returns-then-number-count-clause-room : goal.returns-then-number-count-clause-room
returns-then-number-count-clause-room g c = found-room g.P.Packer.room c.args.parts.now c.loop-part.part-index c.part-item.result c.loop-part-test.true c.part-item.is
