use Rattle.std.proofs.Common.{◌++◌, ◌∙◌, ap, List, ℕ}
use Rattle.run_jobs.specs.CsvFiles.{part_heading}
use Rattle.run_jobs.proofs.ColumnLemmas.{headings-at}
use Rattle.run_jobs.proofs.MoreLemmas.{parts_more}
use Rattle.run_jobs.proofs.headings.job_headings.Goals as goal

pub loop-number-preserved : goal.loop-number-preserved
loop-number-preserved c =
    let job = c.args.job.now in
    let first : ℕ = c.places_of-places.result.from in
    let number : ℕ = c.loop-number.number in
    parts_more (part_heading c.header_at-header.result job.plan.schema) c.args.contents.now first number c.loop-number.headings _ c.loop-number.invariant
    (c.in_ok-push_headings.ensures
    ∙ ap (λ (more : List (List ℕ)). c.loop-number.headings ++ more) (headings-at c.header_at-header.result job.plan.schema _ c.args.contents.now _ (c.as_slice.ensures ∙ c.in_ok-names.ensures)))
