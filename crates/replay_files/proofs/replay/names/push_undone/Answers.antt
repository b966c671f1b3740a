use Rattle.std.proofs.Common.{ℕ, List, [], ◌∷◌, ◌++◌, ◌+◌, ◌-◌, ap, arith, ◌∙◌}
use Rattle.run_jobs.specs.InputFiles.{text_name}
use Rattle.replay_files.specs.Replay.{undo_names}
use Rattle.replay_files.proofs.NameLemmas.{undone_more}
use Rattle.replay_files.proofs.replay.names.push_undone.Goals as goal

pub loop-step-preserved : goal.loop-step-preserved
loop-step-preserved c =
    let r = c.args.request.now in
    let units : ℕ = r.from - r.to in
    undone_more c.args.table.now r.to (units - c.loop-step.step) (units - (c.loop-step.step + 1)) (r.from - c.loop-step.step)
    (c.args.names.now ++ (text_name c.args.format c.args.table.now ∷ undo_names c.args.table.now r.to units)) c.loop-step.names _
    (omega (arith, c.loop-step-test.true)) (omega (arith, c.loop-step-test.true)) c.loop-step.invariant
    (c.in_ok-put-2.ensures ∙ ap (λ (name : List ℕ). c.loop-step.names ++ name ∷ []) c.in_ok-undo_name.ensures)
