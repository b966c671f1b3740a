use Rattle.std.proofs.Common.{◌*◌, ◌∙◌, ap, ap₂, length, subst, sym, ℕ}
use Rattle.replay_files.specs.Replay.{AreReplayed}
use Rattle.replay_files.proofs.KeyedTextLemmas.{made-rows_by}
use Rattle.replay_files.proofs.NameLemmas.{length-names}
use Rattle.replay_files.proofs.replay.made_of.Goals as goal

pub replayed_texts-requires-clause-inputs : goal.replayed_texts-requires-clause-inputs
replayed_texts-requires-clause-inputs c =
    c.requires.alike ∙ ap length c.requires.names ∙ length-names c.args.request.now c.args.replay.now ∙ ap₂ (λ (count each : ℕ). count * each) (sym c.len-count.ensures) (sym c.inputs_by-each.ensures.inputs)

pub written_job-requires-clause-rows : goal.written_job-requires-clause-rows
written_job-requires-clause-rows c =
    made-rows_by c.args.delimiter c.args.request.now c.args.replay.now c.args.replay.now.csv c.args.inputs.now c.in_ok-texts.texts c.requires.delimiter c.requires.can.csv c.requires.rows
    (subst (λ (each : ℕ). AreReplayed c.args.replay.now.way c.args.delimiter each c.args.inputs.now c.in_ok-texts.texts) c.inputs_by-each.ensures.inputs c.in_ok-texts.ensures.replayed)
    (c.in_ok-texts.ensures.count ∙ c.len-count.ensures)
