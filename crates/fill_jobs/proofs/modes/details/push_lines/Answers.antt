use Rattle.fill_jobs.proofs.DetailFilesLemmas.{count-push, packer-is, room-push, texts-push}
use Rattle.fill_jobs.proofs.modes.details.push_lines.Goals as goal

pub push-requires : goal.push-requires
push-requires c =
    let job = c.args.job.now in
    room-push job.plan job.kept c.args.told job.size c.requires.can.rows.0 c.args.packers.now.parts.items c.in-Ok.packer
    (packer-is job.plan job.kept c.args.told job.size c.requires.can.rows.0 c.in-Ok.packer c.with-rows.result c.with-rows.ensures c.in-Ok.ensures) c.requires.few

pub returns-in-Ok-push-clause-texts : goal.returns-in-Ok-push-clause-texts
returns-in-Ok-push-clause-texts c =
    let job = c.args.job.now in
    texts-push job.plan job.kept c.args.told job.size c.requires.can.rows.0 c.args.packers.now.parts.items c.push.new.self.parts.items c.in-Ok.packer
    (packer-is job.plan job.kept c.args.told job.size c.requires.can.rows.0 c.in-Ok.packer c.with-rows.result c.with-rows.ensures c.in-Ok.ensures) c.in-Ok-push.ensures.ok

pub returns-in-Ok-push-clause-count : goal.returns-in-Ok-push-clause-count
returns-in-Ok-push-clause-count c =
    let job = c.args.job.now in
    count-push job.plan job.kept c.args.told job.size c.requires.can.rows.0 c.args.packers.now.parts.items c.push.new.self.parts.items c.in-Ok.packer
    (packer-is job.plan job.kept c.args.told job.size c.requires.can.rows.0 c.in-Ok.packer c.with-rows.result c.with-rows.ensures c.in-Ok.ensures) c.in-Ok-push.ensures.ok
