use Rattle.std.proofs.Common.{◌∙◌, ap, map, List, ℕ}
use Rattle.run_jobs.specs.Formats.{in_directory}
use Rattle.replay_files.proofs.ReplayedLemmas.{due_in_directory}
use Rattle.replay_files.proofs.replay.texts.written_job.Goals as goal

pub returns-clause-made : goal.returns-clause-made
returns-clause-made c =
    let written = c.in_ok-written.ensures.written in
    due_in_directory c.args.delimiter c.args.request.now c.args.replay.now c.args.texts written.0 c.in_ok-written.written c.in_ok-names.names c.in_ok-names-2.names c.in-Some.directory
    c.in-Some.is written.1 written.2 c.in_ok-names.ensures
    (c.in_ok-names-2.ensures ∙ ap (λ (directory : List ℕ). map (in_directory directory) c.in_ok-names.names) c.as_str.ensures.value)
