use Rattle.std.proofs.Common.{◌≡◌, ◌<◌, ◌+◌, ◌-◌, ◌*◌, ℕ, List, [], ◌∷◌, Option, ap, arith, drop, length, length-append, map, refl, subst, sym, take, ◌∙◌}
use Rattle.std.specs.Prelude.{IfSome}
use Rattle.refusals.specs.declared.refusal.InputCause.{InputCause}
use Rattle.replay_files.specs.Replay.{IsReplayFaultAt, IsReplayedText, inputs_at, named_fault}
use Rattle.replay_files.proofs.ReplayedLemmas.{inputs_in_turn, replayed_more, taken_few, unreplayed_at}
use Rattle.replay_files.proofs.replay.texts.replayed_texts.Goals as goal

pub returns-in-Err-clause-fault : goal.returns-in-Err-clause-fault
returns-in-Err-clause-fault c =
    let inv = c.loop-place.invariant in
    let each : ℕ = c.args.each in
    let from : ℕ = c.loop-place.place * each in
    let found =
    subst (λ (cause : Option InputCause). IfSome cause (λ told. (c.in-Err.stop.place < length (take (from + each - from) (drop from c.as_slice.result.now)))
    × IsReplayFaultAt c.args.way c.args.delimiter (map (λ input. input.items) (take (from + each - from) (drop from c.as_slice.result.now))) c.in-Err.stop.place told))
    c.in-Some.is c.in-Err.ensures.stop in
    let size : from + each - from ≡ each = omega arith in
    let own = inputs_in_turn _ each c.loop-place.place from c.as_slice.result.now _ c.args.inputs.now c.as_slice.ensures refl (ap (λ (n : ℕ). take n (drop from c.as_slice.result.now)) size) in
    let below : c.in-Err.stop.place < each = omega (arith, found.0, taken_few (from + each - from) (drop from c.as_slice.result.now), size) in
    let has : IsReplayFaultAt c.args.way c.args.delimiter (inputs_at each c.args.inputs.now (length c.loop-place.texts)) c.in-Err.stop.place c.in-Some.cause =
    subst (λ (p : ℕ). IsReplayFaultAt c.args.way c.args.delimiter (inputs_at each c.args.inputs.now p) c.in-Err.stop.place c.in-Some.cause) (sym inv.count)
    (subst (λ (l : List (List ℕ)). IsReplayFaultAt c.args.way c.args.delimiter l c.in-Err.stop.place c.in-Some.cause) own found.1) in
    unreplayed_at c.args.way c.args.delimiter c.args.records c.args.names.now each c.args.inputs.now c.loop-place.texts c.args.count c.in-Err.stop.place _ c.in-Some.cause c.fault_at.result
    inv.replayed (omega (arith, inv.count, c.loop-place-test.true)) below
    (ap (λ (p : ℕ). p * each + c.in-Err.stop.place) (sym inv.count)) has (c.fault_at.ensures ∙ ap (named_fault c.args.names.now _) c.in-Some-cause_after.ensures)

pub loop-place-preserved : goal.loop-place-preserved
loop-place-preserved c =
    let inv = c.loop-place.invariant in
    let each : ℕ = c.args.each in
    let from : ℕ = c.loop-place.place * each in
    let size : from + each - from ≡ each = omega arith in
    let own = inputs_in_turn _ each c.loop-place.place from c.as_slice.result.now _ c.args.inputs.now c.as_slice.ensures refl (ap (λ (n : ℕ). take n (drop from c.as_slice.result.now)) size) in
    let appended = c.in-Ok-push.ensures.appended in
    record {
      count = omega (arith, ap length appended, length-append c.loop-place.texts (c.in-Ok.text.items ∷ []), inv.count);
      replayed =
          replayed_more c.args.way c.args.delimiter each c.args.inputs.now c.loop-place.texts c.push.new.self c.in-Ok.text.items appended inv.replayed
          (subst (λ (p : ℕ). IsReplayedText c.args.way c.args.delimiter (inputs_at each c.args.inputs.now p) c.in-Ok.text.items) (sym inv.count)
          (subst (λ (l : List (List ℕ)). IsReplayedText c.args.way c.args.delimiter l c.in-Ok.text.items) own c.in-Ok.ensures.replayed));
    }
