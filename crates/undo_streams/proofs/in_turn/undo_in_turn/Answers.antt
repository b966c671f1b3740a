use Rattle.std.proofs.Common.{ℕ, List, ◌<◌, ◌+◌, arith, drop, length, map}
use Rattle.undo_streams.proofs.TurnLemmas.{bytes-at, reached-fault, reached-more, reached-none}
use Rattle.undo_streams.proofs.in_turn.undo_in_turn.Goals as goal

pub loop-place-init : goal.loop-place-init
loop-place-init c = reached-none c.args.delimiter (map (λ undo. undo.items) c.args.undos.now) c.args.table

pub returns-in-Err-clause-fault : goal.returns-in-Err-clause-fault
returns-in-Err-clause-fault c =
    let undos = c.args.undos.now in
    let place = c.loop-place.place in
    let undo = c.index-undos-place.result in
    let bytes = c.deref.result.now in
    let below : place < length undos = omega arith in
    let all : List (List ℕ) = map (λ undo. undo.items) undos in
    let now : List (List ℕ) = map (λ undo. undo.items) (drop place undos) in
    let rest : List (List ℕ) = map (λ undo. undo.items) (drop (place + 1) undos) in
    let is = bytes-at (λ undo. undo.items) undos place undo bytes below c.index-undos-place.is c.deref.ensures.value in
    λ known. reached-fault c.args.delimiter all now rest bytes c.args.table place c.loop-place.table c.in-Err.fault c.loop-place.invariant is c.in-Err.ensures.fault

pub loop-place-preserved : goal.loop-place-preserved
loop-place-preserved c =
    let undos = c.args.undos.now in
    let place = c.loop-place.place in
    let undo = c.index-undos-place.result in
    let bytes = c.deref.result.now in
    let below : place < length undos = omega arith in
    let all : List (List ℕ) = map (λ undo. undo.items) undos in
    let now : List (List ℕ) = map (λ undo. undo.items) (drop place undos) in
    let rest : List (List ℕ) = map (λ undo. undo.items) (drop (place + 1) undos) in
    let is = bytes-at (λ undo. undo.items) undos place undo bytes below c.index-undos-place.is c.deref.ensures.value in
    reached-more c.args.delimiter all now rest bytes c.args.table place c.loop-place.table c.in-Ok.made c.loop-place.invariant is c.in-Ok.ensures.undone
