-- Undo texts that are taken in turn.
use Rattle.std.proofs.Common.{◌≡◌, ℕ, zero, suc, ◌+◌, ◌<◌, List, ◌∷◌, drop, get_or, length, map, ap, subst, sym, arith, ◌∙◌}
use Rattle.stream_apply.specs.KeyedLines.{KeyedLine}
use Rattle.stream_apply.proofs.InTurnLemmas.{texts-at}
use Rattle.undo_streams.specs.InTurn.{HasUndoFaultAt, IsUndoneInTurn}
use Rattle.undo_streams.specs.Reverting.{IsUndoFault, IsUndoneBy}
use Rattle.undo_streams.specs.declared.fault.RevertFault.{RevertFault}

-- the text at a place, and those after it
pub bytes-at : {V : Type 0} (text : V → List ℕ) (inputs : List V) (place : ℕ) (input : V) (bytes : List ℕ) → place < length inputs → input ≡ get_or inputs place input → bytes ≡ text input →
    map text (drop place inputs) ≡ bytes ∷ map text (drop (place + 1) inputs)
bytes-at {V} text inputs place input bytes below at is =
    texts-at text inputs place input below ∙ ap (λ (t : List ℕ). t ∷ map text (drop (place + 1) inputs)) (sym (is ∙ ap text at))

-- undo texts of which as many are taken as the place tells: all of them make what the rest makes of the table, and the rest's first fault is theirs
pub record IsReached (delimiter : ℕ) (undos rest : List (List ℕ)) (before : List KeyedLine) (place : ℕ) (table : List KeyedLine) : Type 0 where
  pub made : (after : List KeyedLine) → IsUndoneInTurn delimiter rest table after → IsUndoneInTurn delimiter undos before after
  pub faults : (more : ℕ) (fault : RevertFault) → HasUndoFaultAt delimiter rest table more fault → HasUndoFaultAt delimiter undos before (place + more) fault

pub reached-none : (delimiter : ℕ) (undos : List (List ℕ)) (before : List KeyedLine) → IsReached delimiter undos undos before 0 before
reached-none delimiter undos before = record {
  made = λ after made. made;
  faults = λ more fault has. let same : more ≡ 0 + more = omega arith in subst (λ (p : ℕ). HasUndoFaultAt delimiter undos before p fault) same has;
}

-- one more
pub reached-more : (delimiter : ℕ) (undos now rest : List (List ℕ)) (bytes : List ℕ) (before : List KeyedLine) (place : ℕ) (table made : List KeyedLine) → IsReached delimiter undos now before place table →
    now ≡ bytes ∷ rest → IsUndoneBy delimiter table bytes made → IsReached delimiter undos rest before (place + 1) made
reached-more delimiter undos now rest bytes before place table made reached is undone =
    let here : IsReached delimiter undos (bytes ∷ rest) before place table = subst (λ (ls : List (List ℕ)). IsReached delimiter undos ls before place table) is reached in
    record {
      made = λ after rest_made. here.made after (made, undone, rest_made);
      faults = λ more fault has.
          let same : place + suc more ≡ place + 1 + more = omega arith in
          subst (λ (p : ℕ). HasUndoFaultAt delimiter undos before p fault) same (here.faults (suc more) fault (made, undone, has));
    }

-- the one at the place has the first fault
pub reached-fault : (delimiter : ℕ) (undos now rest : List (List ℕ)) (bytes : List ℕ) (before : List KeyedLine) (place : ℕ) (table : List KeyedLine) (fault : RevertFault) →
    IsReached delimiter undos now before place table → now ≡ bytes ∷ rest → IsUndoFault delimiter table bytes fault → HasUndoFaultAt delimiter undos before place fault
reached-fault delimiter undos now rest bytes before place table fault reached is has =
    let here : IsReached delimiter undos (bytes ∷ rest) before place table = subst (λ (ls : List (List ℕ)). IsReached delimiter undos ls before place table) is reached in
    let same : place + 0 ≡ place = omega arith in
    subst (λ (p : ℕ). HasUndoFaultAt delimiter undos before p fault) same (here.faults zero fault has)
