-- An undo text that is taken line by line.
use Rattle.std.proofs.Common.{◌≡◌, ℕ, ◌+◌, ◌≤◌, ◌<◌, false, List, [], ◌∷◌, ◌++◌, length, refl, ap, sym, subst, ◌∙◌, arith, append_assoc, length-append}
use Rattle.std.proofs.lemmas.List.{append-nil, nil_from_length}
use Rattle.std.proofs.lemmas.List.Concat.{flat_map-append}
use Rattle.stream_apply.specs.KeyedLines.{KeyedLine, has_key}
use Rattle.stream_apply.specs.Streams.{wants_held}
use Rattle.undo_streams.specs.Reverting.{AreTaken, HasLineFault, IsLineFault, IsPlaceIn, IsReadTo, IsTaken, IsUndoFault, IsUndoLine, IsUndoneBy, StartsNone, UndoLine, Undoing, begun, behind, behind_all, kind_of, rank_of, undo_line_text, undos_text}
use Rattle.undo_streams.specs.declared.fault.RevertFault.{RevertFault}
use Rattle.undo_streams.specs.declared.fault.RevertFault.TheVariants.{BadLine, BadPlace, DoubleKey, KeyExists, Memory, NoSuchKey}

-- one line more after several
pub behind_all-push : (undoing : Undoing) (undos : List UndoLine) (undo : UndoLine) → behind_all undoing (undos ++ undo ∷ []) ≡ behind (behind_all undoing undos) undo
behind_all-push undoing [] undo = refl
behind_all-push undoing (first ∷ undos) undo = behind_all-push (behind undoing first) undos undo

pub taken-push : (delimiter : ℕ) (undoing : Undoing) (undos : List UndoLine) (undo : UndoLine) → AreTaken delimiter undoing undos → IsTaken delimiter (behind_all undoing undos) undo →
    AreTaken delimiter undoing (undos ++ undo ∷ [])
taken-push delimiter undoing [] undo taken next = (next, tt)
taken-push delimiter undoing (first ∷ undos) undo taken next = (taken.0, taken-push delimiter (behind undoing first) undos undo taken.1 next)

pub undos_text-push : (delimiter : ℕ) (undos : List UndoLine) (undo : UndoLine) → undos_text delimiter (undos ++ undo ∷ []) ≡ undos_text delimiter undos ++ (undo_line_text delimiter undo ++ 10 ∷ [])
undos_text-push delimiter undos undo =
    flat_map-append (λ (u : UndoLine). undo_line_text delimiter u ++ 10 ∷ []) undos (undo ∷ [])
    ∙ ap (λ (t : List ℕ). undos_text delimiter undos ++ t) (append-nil (undo_line_text delimiter undo ++ 10 ∷ []))

-- each line is told
pub told-length : (undoing : Undoing) (undos : List UndoLine) → length (behind_all undoing undos).told ≡ length undoing.told + length undos
told-length undoing [] = omega arith
told-length undoing (undo ∷ undos) = omega (arith, told-length (behind undoing undo) undos, length-append undoing.told (undo.line ∷ []))

-- ---- an undo text up to a place

pub record IsUndoneTo (delimiter : ℕ) (table : List KeyedLine) (bytes rest : List ℕ) (undoing : Undoing) : Type 0 where
  pub undos : List UndoLine
  pub read : IsReadTo delimiter table bytes undos rest
  pub now : undoing ≡ behind_all (begun table) undos

pub undone-none : (delimiter : ℕ) (table : List KeyedLine) (bytes : List ℕ) (undoing : Undoing) → undoing ≡ begun table → IsUndoneTo delimiter table bytes bytes undoing
undone-none delimiter table bytes undoing is = record { undos = []; read = record { text = refl; taken = tt }; now = is }

module _ (delimiter : ℕ) (table : List KeyedLine) (bytes rest : List ℕ) (undoing : Undoing) (to : IsUndoneTo delimiter table bytes rest undoing) where
  pub undone-count : length undoing.told ≡ length to.undos
  undone-count = ap (λ (u : Undoing). length u.told) to.now ∙ told-length (begun table) to.undos ∙ zero-plus
    where
      zero-plus : 0 + length to.undos ≡ length to.undos
      zero-plus = omega arith

  pub undone-more : (undo : UndoLine) (next : Undoing) (later : List ℕ) → IsUndoLine delimiter undo → rank_of undoing.part ≤ rank_of undo.part → rest ≡ undo_line_text delimiter undo ++ 10 ∷ later →
      has_key undoing.told undo.line.key ≡ false → has_key undoing.lines undo.line.key ≡ wants_held (kind_of undo.part) → IsPlaceIn undoing undo.part undo.place → next ≡ behind undoing undo →
      IsUndoneTo delimiter table bytes later next
  undone-more undo next later is order cut free held placed next_is =
      let taken : IsTaken delimiter (behind_all (begun table) to.undos) undo =
      subst (λ (u : Undoing). IsTaken delimiter u undo) to.now (record { is = is; order = order; free = free; held = held; placed = placed }) in
      record {
        undos = to.undos ++ undo ∷ [];
        read = record {
          text = to.read.text
              ∙ ap (λ (t : List ℕ). undos_text delimiter to.undos ++ t) (cut ∙ sym (append_assoc (undo_line_text delimiter undo) (10 ∷ []) later))
              ∙ sym (append_assoc (undos_text delimiter to.undos) (undo_line_text delimiter undo ++ 10 ∷ []) later)
              ∙ ap (λ (t : List ℕ). t ++ later) (sym (undos_text-push delimiter to.undos undo));
          taken = taken-push delimiter (begun table) to.undos undo to.read.taken taken;
        };
        now = next_is ∙ ap (λ (u : Undoing). behind u undo) to.now ∙ sym (behind_all-push (begun table) to.undos undo);
      }

  pub undone-all : (after : List KeyedLine) → length rest ≡ 0 → after ≡ undoing.lines → IsUndoneBy delimiter table bytes after
  undone-all after none made = record {
    undos = to.undos;
    text = to.read.text ∙ ap (λ (t : List ℕ). undos_text delimiter to.undos ++ t) (nil_from_length rest none) ∙ append-nil (undos_text delimiter to.undos);
    taken = to.read.taken;
    made = made ∙ ap (λ (u : Undoing). u.lines) to.now;
  }

  pub undone-bad_line : (number : ℕ) → number ≡ length undoing.told + 1 → 0 < length rest → StartsNone delimiter undoing.part rest → IsUndoFault delimiter table bytes (BadLine number)
  undone-bad_line number is more none = record {
    before = to.undos;
    rest = rest;
    read = to.read;
    number = omega (arith, is, undone-count);
    more = more;
    none = subst (λ (u : Undoing). StartsNone delimiter u.part rest) to.now none;
  }

  line-fault : (undo : UndoLine) (later : List ℕ) (number : ℕ) (fault : RevertFault) → number ≡ length undoing.told + 1 → IsUndoLine delimiter undo → rank_of undoing.part ≤ rank_of undo.part →
      rest ≡ undo_line_text delimiter undo ++ 10 ∷ later → IsLineFault undoing undo number fault → HasLineFault delimiter table bytes fault
  line-fault undo later number fault is line order cut fault_is = record {
    before = to.undos;
    undo = undo;
    rest = later;
    read = subst (λ (t : List ℕ). IsReadTo delimiter table bytes to.undos t) cut to.read;
    is = line;
    order = subst (λ (u : Undoing). rank_of u.part ≤ rank_of undo.part) to.now order;
    fault_is =
        let number_is : number ≡ length to.undos + 1 = omega (arith, is, undone-count) in
        subst (λ (n : ℕ). IsLineFault (behind_all (begun table) to.undos) undo n fault) number_is
        (subst (λ (u : Undoing). IsLineFault u undo number fault) to.now fault_is);
  }

  pub undone-fault : (undo : UndoLine) (later : List ℕ) (number : ℕ) (fault : RevertFault) → number ≡ length undoing.told + 1 → IsUndoLine delimiter undo → rank_of undoing.part ≤ rank_of undo.part →
      rest ≡ undo_line_text delimiter undo ++ 10 ∷ later → IsLineFault undoing undo number fault → IsUndoFault delimiter table bytes fault
  undone-fault undo later number (BadLine n) is line order cut fault_is = absurd fault_is
  undone-fault undo later number (DoubleKey n) is line order cut fault_is = line-fault undo later number (DoubleKey n) is line order cut fault_is
  undone-fault undo later number (NoSuchKey n) is line order cut fault_is = line-fault undo later number (NoSuchKey n) is line order cut fault_is
  undone-fault undo later number (KeyExists n) is line order cut fault_is = line-fault undo later number (KeyExists n) is line order cut fault_is
  undone-fault undo later number (BadPlace n) is line order cut fault_is = line-fault undo later number (BadPlace n) is line order cut fault_is
  undone-fault undo later number Memory is line order cut fault_is = tt
