use Rattle.std.proofs.Common.{refl, ◌+◌}
use Rattle.replay_files.proofs.NameLemmas.{applied_more}
use Rattle.replay_files.proofs.replay.names.push_applied.Goals as goal

pub loop-step-preserved : goal.loop-step-preserved
loop-step-preserved c =
    applied_more c.args.format c.args.table.now c.args.request.now.from c.loop-step.step (c.args.request.now.from + 1 + c.loop-step.step) c.args.names.now c.loop-step.names _ refl
    c.loop-step.invariant c.in_ok-push_stream_names.ensures
