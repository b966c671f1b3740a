use Rattle.run_jobs.proofs.MoreLemmas.{joined_more}
use Rattle.run_jobs.proofs.csv_texts.joined.Goals as goal

pub loop-place-preserved : goal.loop-place-preserved
loop-place-preserved c = joined_more c.args.texts.now c.loop-place.place c.get.result.now _ _ c.get.ensures c.loop-place.invariant c.in_ok-extend_from_slice.ensures.items
