use Rattle.std.proofs.Common.{[], ◌∷◌, ◌++◌, ◌∙◌, ap, List, ℕ}
use Rattle.run_jobs.specs.Formats.{in_directory}
use Rattle.run_jobs.proofs.MoreLemmas.{mapped_more}
use Rattle.run_jobs.proofs.file_names.paths_in.Goals as goal

pub loop-place-preserved : goal.loop-place-preserved
loop-place-preserved c =
    mapped_more (in_directory c.args.directory.now) c.args.names.now c.loop-place.place _ c.loop-place.paths _ c.get.ensures c.loop-place.invariant
    (c.in_ok-put.ensures ∙ ap (λ (path : List ℕ). c.loop-place.paths ++ path ∷ [])
    (c.in_ok-path.ensures ∙ ap (in_directory c.args.directory.now) c.as_str.ensures.value))
