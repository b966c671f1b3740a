use Rattle.std.proofs.Common.{◌<◌, ◌+◌, List, ℕ, arith, drop, length, map}
use Rattle.stream_apply.proofs.InTurnLemmas.{reached-fault, reached-more, texts-at}
use Rattle.stream_apply.proofs.in_turn.apply_slices.Goals as goal

pub returns-in-Err-clause-fault : goal.returns-in-Err-clause-fault
returns-in-Err-clause-fault c =
    let inputs = c.args.inputs.now in
    let place = c.loop-place.place in
    let below : place < length inputs = omega arith in
    let all : List (List ℕ) = map (λ input. input.now) inputs in
    let now : List (List ℕ) = map (λ input. input.now) (drop place inputs) in
    let rest : List (List ℕ) = map (λ input. input.now) (drop (place + 1) inputs) in
    λ known. (
      below,
      reached-fault c.args.keys c.args.delimiter all now rest _ place c.loop-place.kind c.loop-place.table c.in-Err.fault
          c.loop-place.invariant (texts-at (λ input. input.now) inputs place _ below) c.in-Err.ensures.fault,
    )

pub loop-place-preserved : goal.loop-place-preserved
loop-place-preserved c =
    let inputs = c.args.inputs.now in
    let place = c.loop-place.place in
    let below : place < length inputs = omega arith in
    let all : List (List ℕ) = map (λ input. input.now) inputs in
    let now : List (List ℕ) = map (λ input. input.now) (drop place inputs) in
    let rest : List (List ℕ) = map (λ input. input.now) (drop (place + 1) inputs) in
    reached-more c.args.keys c.args.delimiter all now rest _ place c.loop-place.kind c.next-kind.result c.loop-place.table c.in-Ok.made
    c.loop-place.invariant (texts-at (λ input. input.now) inputs place _ below) c.in-Ok.ensures.applied c.next-kind.ensures
