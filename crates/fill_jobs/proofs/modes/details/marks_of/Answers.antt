use Rattle.fill_jobs.proofs.DetailFilesLemmas.{files-each, names-alike, one-file}
use Rattle.fill_jobs.proofs.modes.details.marks_of.Goals as goal

pub marks-requires-clause-alike : goal.marks-requires-clause-alike
marks-requires-clause-alike c =
    let job = c.args.job.now in
    names-alike job.names c.in-Some.names _ job.plan job.kept job.unit c.args.packers.now.parts.items c.in-Some.is c.requires.can.named c.requires.texts

pub returns-in-Ok-clause-files : goal.returns-in-Ok-clause-files
returns-in-Ok-clause-files c = one-file _ c.args.job.now.names c.args.packers.now.parts.items _ c.in-None.is c.requires.texts c.in-Ok.ensures.files

pub returns-in-Ok-marks-clause-files : goal.returns-in-Ok-marks-clause-files
returns-in-Ok-marks-clause-files c = files-each _ c.args.job.now.names c.in-Some.names c.args.packers.now.parts.items _ c.in-Some.is c.requires.texts c.in-Ok-marks.ensures.files
