use Rattle.std.proofs.Common.{arith, ap}
use Rattle.std.specs.List.{sum_by}
use Rattle.detail_rows.specs.Packages.{count_of}
use Rattle.fill_jobs.proofs.DetailFilesLemmas.{born-few, text-told}
use Rattle.fill_jobs.proofs.modes.details.text_packers.Goals as goal

pub push_lines-requires-clause-few : goal.push_lines-requires-clause-few
push_lines-requires-clause-few c =
    let job = c.args.job.now in
    omega (arith, ap (sum_by count_of) c.new-packers.ensures, born-few job.plan c.schema-limits.ensures.limits job.kept c.requires.can.keeps job.unit c.requires.can.unit)

pub returns : goal.returns
returns c =
    let job = c.args.job.now in
    text-told job.plan c.schema-limits.ensures.limits job.kept c.requires.can.keeps job.unit c.requires.can.unit _ _ c.new-packers.ensures c.in_ok-push_lines.ensures.texts
