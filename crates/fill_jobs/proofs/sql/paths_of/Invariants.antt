use Rattle.std.proofs.Common.{◌≡◌, map, take}
use Rattle.request_words.specs.declared.usage.Format.TheVariants.{Sql}
use Rattle.run_jobs.specs.Formats.{file_name, in_directory}
use Rattle.fill_jobs.proofs.sql.paths_of.Given as goal

abbrev pub invariant-loop-part : goal.invariant-loop-part
invariant-loop-part l = l.paths ≡ map (λ part. in_directory l.fn.directory (file_name Sql l.job.of.plan.schema l.job.of.asked.unit part)) (take l.part-index l.parts)
