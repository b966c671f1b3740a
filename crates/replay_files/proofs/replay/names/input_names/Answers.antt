use Rattle.std.proofs.Common.{◌++◌, ◌∙◌, ap₂, List, ℕ}
use Rattle.request_words.specs.declared.usage.Format.{Format}
use Rattle.replay_files.specs.Replay.{format_of, names_by}
use Rattle.run_jobs.proofs.MoreLemmas.{listed_more}
use Rattle.replay_files.proofs.replay.names.input_names.Goals as goal

pub loop-place-preserved : goal.loop-place-preserved
loop-place-preserved c =
    let r = c.args.request.now in
    let replay = c.args.replay.now in
    listed_more (names_by replay.way (format_of replay) r.from r.to) replay.names c.loop-place.place _ c.loop-place.names _ c.get.ensures c.loop-place.invariant
    (c.in_ok-push_inputs.ensures
    ∙ ap₂ (λ (format : Format) (table : List ℕ). c.loop-place.names ++ names_by replay.way format r.from r.to table) c.format-format.ensures c.as_str-table.ensures.value)
