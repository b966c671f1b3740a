use Rattle.std.proofs.Common.{◌≤◌, ◌*◌, ℕ, List, ap, ap₂, arith, length, map, ◌∙◌}
use Rattle.std.proofs.lemmas.List.{length-map}
use Rattle.std.proofs.lemmas.Nat.{mul-le}
use Rattle.run_jobs.specs.Formats.{in_directory}
use Rattle.run_jobs.specs.InputFiles.{input_limit}
use Rattle.replay_files.specs.Replay.{input_names, inputs_each}
use Rattle.replay_files.proofs.NameLemmas.{length-names, some-inputs}
use Rattle.replay_files.proofs.ReplayLemmas.{asked_all_told, asked_up_to, asked_up_to_told, left_by_inputs, taken_within, unasked_fault, unasked_read}
use Rattle.replay_files.proofs.ReplayedLemmas.{made_of_itself}
use Rattle.replay_files.proofs.replay.replay_files.Goals as goal

pub returns-in-Ok-read_in_turn-clause-left : goal.returns-in-Ok-read_in_turn-clause-left
returns-in-Ok-read_in_turn-clause-left g c =
    let others = made_of_itself c.made_in.result c.made_in.ensures.refused in
    left_by_inputs _ _ _ _ _ _ _ _ _ _ _ _ others.0 others.1 c.requires.read_out c.in-Ok-read_in_turn.ensures.read

pub returns-in-Ok-read_in_turn-clause-within : goal.returns-in-Ok-read_in_turn-clause-within
returns-in-Ok-read_in_turn-clause-within g c = λ before ended.
    let read = c.in-Ok-read_in_turn.ensures.read in
    let taken = taken_within c.in-Ok-read_in_turn.inputs input_limit _ before read.within in
    omega (arith, read.taken, taken)

pub returns-in-Ok-read_in_turn-clause-asked_told : goal.returns-in-Ok-read_in_turn-clause-asked_told
returns-in-Ok-read_in_turn-clause-asked_told g c =
    asked_all_told _ c.args.request.now c.args.replay.now c.in-Ok-paths_in.paths c.in-Ok-read_in_turn.inputs _ _
    (c.in-Ok-paths_in.ensures ∙ ap₂ (λ (directory : List ℕ) (names : List (List ℕ)). map (in_directory directory) names) c.as_str.ensures.value c.in-Ok.ensures)
    c.in-Ok-read_in_turn.ensures.inputs c.in-Ok-read_in_turn.ensures.asked

pub returns-in-Ok-read_in_turn-clause-unasked : goal.returns-in-Ok-read_in_turn-clause-unasked
returns-in-Ok-read_in_turn-clause-unasked g c =
    let r = c.args.request.now in
    let replay = c.args.replay.now in
    let all = ap length (c.in-Ok-paths_in.ensures ∙ ap (map (in_directory c.as_str.result.now)) c.in-Ok.ensures) ∙ length-map (input_names r replay) (in_directory c.as_str.result.now) ∙ length-names r replay in
    let some : 1 * 1 ≤ length replay.names * inputs_each r replay = mul-le 1 1 (length replay.names) (inputs_each r replay) c.requires.can.some (some-inputs replay.way r.from r.to) in
    unasked_read c.in-Ok-paths_in.paths _ _ _ _ (omega (arith, all, some)) c.in-Ok-read_in_turn.ensures.asked

pub returns-clause-asked_told : goal.returns-clause-asked_told
returns-clause-asked_told g c =
    asked_up_to_told _ c.args.request.now c.args.replay.now c.in-Ok-paths_in.paths c.in-Err-read_in_turn.fault _ _ _ _
    (c.in-Ok-paths_in.ensures ∙ ap₂ (λ (directory : List ℕ) (names : List (List ℕ)). map (in_directory directory) names) c.as_str.ensures.value c.in-Ok.ensures)
    c.in-Err-read_in_turn.ensures.asked_to_fault c.in-Err-read_in_turn.ensures.unread.limits

pub returns-clause-asked : goal.returns-clause-asked
returns-clause-asked g c =
    asked_up_to c.args.request.now c.args.replay.now c.in-Ok-paths_in.paths c.in-Err-read_in_turn.fault _ _ _
    (c.in-Ok-paths_in.ensures ∙ ap₂ (λ (directory : List ℕ) (names : List (List ℕ)). map (in_directory directory) names) c.as_str.ensures.value c.in-Ok.ensures)
    c.in-Err-read_in_turn.ensures.asked_to_fault

pub returns-clause-unasked : goal.returns-clause-unasked
returns-clause-unasked g c =
    unasked_fault c.in-Ok-paths_in.paths c.in-Err-read_in_turn.fault _ _ _ _ c.in-Err-read_in_turn.ensures.unread.number c.in-Err-read_in_turn.ensures.asked_to_fault
