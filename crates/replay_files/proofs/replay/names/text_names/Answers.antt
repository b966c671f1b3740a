use Rattle.std.proofs.Common.{[], ◌∷◌, ◌++◌, ◌∙◌, ap, ap₂, List, ℕ}
use Rattle.replay_files.specs.Replay.{format_of}
use Rattle.run_jobs.specs.InputFiles.{text_name}
use Rattle.run_jobs.proofs.MoreLemmas.{mapped_more}
use Rattle.replay_files.proofs.replay.names.text_names.Goals as goal

pub loop-place-preserved : goal.loop-place-preserved
loop-place-preserved c =
    mapped_more (text_name (format_of c.args.replay.now)) c.args.replay.now.names c.loop-place.place _ c.loop-place.names _ c.get.ensures c.loop-place.invariant
    (c.in_ok-put.ensures ∙ ap (λ (name : List ℕ). c.loop-place.names ++ name ∷ []) (c.in_ok-name.ensures ∙ ap₂ text_name c.format-format.ensures c.as_str.ensures.value))
