use Rattle.std.proofs.Common.{Some, ap, sym, ◌∙◌}
use Rattle.std.proofs.lemmas.Result.{IfOk-weaker}
use Rattle.fill_jobs.proofs.SqlLemmas.{files-joined, files-named}
use Rattle.fill_jobs.proofs.sql.marks_of.Goals as goal

pub returns-in-None-clause-files : goal.returns-in-None-clause-files
returns-in-None-clause-files c =
    IfOk-weaker c.mark_of_all.result _ _
    (λ marks files. files ∙ files-joined c.args.job.now c.requires.can c.schema-limits.ensures.limits c.args.parts.now c.args.packers.now.parts.items c.requires.parts c.requires.are c.requires.packers c.in-None.is)
    c.mark_of_all.ensures.files

pub returns-in_ok-paths-in-Some-clause-files : goal.returns-in_ok-paths-in-Some-clause-files
returns-in_ok-paths-in-Some-clause-files c =
    IfOk-weaker c.marks.result _ _
    (λ marks files. files
    ∙ files-named c.args.job.now c.requires.can c.schema-limits.ensures.limits c.args.parts.now c.args.packers.now.parts.items c.as_str.result.now c.requires.parts c.requires.are c.requires.packers
    (c.in-Some.is ∙ ap Some (sym c.as_str.ensures.value)) c.in_ok-paths-in-Some.paths c.in_ok-paths-in-Some.ensures)
    c.marks.ensures.files
