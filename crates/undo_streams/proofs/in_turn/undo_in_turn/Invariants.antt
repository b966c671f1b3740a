use Rattle.std.proofs.Common.{ℕ, List, drop, map}
use Rattle.undo_streams.proofs.TurnLemmas.{IsReached}
use Rattle.undo_streams.proofs.in_turn.undo_in_turn.Given as goal

abbrev pub invariant-loop-place : goal.invariant-loop-place
invariant-loop-place l =
    let all : List (List ℕ) = map (λ undo. undo.items) l.undos in
    IsReached l.delimiter all (map (λ undo. undo.items) (drop l.place l.undos)) l.fn.table l.place l.table
