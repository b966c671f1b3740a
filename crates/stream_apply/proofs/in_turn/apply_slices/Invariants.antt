use Rattle.std.proofs.Common.{ℕ, List, drop, map}
use Rattle.stream_apply.proofs.InTurnLemmas.{IsReached}
use Rattle.stream_apply.proofs.in_turn.apply_slices.Given as goal

abbrev pub invariant-loop-place : goal.invariant-loop-place
invariant-loop-place l =
    let all : List (List ℕ) = map (λ input. input.now) l.inputs in
    IsReached l.keys l.delimiter all (map (λ input. input.now) (drop l.place l.inputs)) l.place l.kind l.table
