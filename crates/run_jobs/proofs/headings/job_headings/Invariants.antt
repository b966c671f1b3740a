use Rattle.std.proofs.Common.{◌≡◌, map}
use Rattle.std.specs.List.{range_with_len}
use Rattle.update_box.specs.Parts.{parts_of}
use Rattle.run_jobs.specs.CsvFiles.{part_heading}
use Rattle.run_jobs.proofs.headings.job_headings.Given as goal

abbrev pub invariant-loop-number : goal.invariant-loop-number
invariant-loop-number l = l.headings ≡ map (part_heading l.header l.job.plan.schema) (parts_of l.contents (range_with_len l.places.from l.number))
