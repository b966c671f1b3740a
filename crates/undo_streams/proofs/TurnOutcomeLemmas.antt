-- A table's text and undo texts that are taken in turn make one text and have no fault, or have one first fault.
use Rattle.std.proofs.Common.{◌≡◌, ◌≢◌, ℕ, zero, suc, List, [], ◌∷◌, ap, refl, subst, sym, ◌∙◌}
use Rattle.row_text.specs.Fields.{IsDelimiter}
use Rattle.stream_apply.proofs.OutcomeLemmas.{one-fault as one-load_fault, one-way, read-no_fault}
use Rattle.stream_apply.specs.KeyedLines.{KeyedLine, lines_text}
use Rattle.stream_apply.specs.Streams.{IsLoaded}
use Rattle.stream_apply.specs.declared.key_fields.KeyFields.TheVariants.{One}
use Rattle.stream_apply.specs.declared.fault.ApplyFault.TheVariants as applying
use Rattle.undo_streams.specs.InTurn.{HasUndoFaultAt, IsRevertFaultAt, IsRevertedText, IsUndoneInTurn, table_with}
use Rattle.undo_streams.specs.Reverting.{IsLoadFault}
use Rattle.undo_streams.specs.declared.fault.RevertFault.{RevertFault}
use Rattle.undo_streams.specs.declared.fault.RevertFault.TheVariants.{BadLine, BadPlace, DoubleKey, KeyExists, Memory, NoSuchKey}
use Rattle.undo_streams.proofs.OutcomeLemmas.{one-fault, one-undone, taken-no_fault}

module _ (delimiter : ℕ) (delimits : IsDelimiter delimiter) where
  -- ---- the table's text

  one-loaded : (bytes : List ℕ) (lines others : List KeyedLine) → IsLoaded bytes One delimiter (table_with delimiter lines) → IsLoaded bytes One delimiter (table_with delimiter others) → others ≡ lines
  one-loaded bytes lines others is other_is = one-way One delimiter delimits _ others lines other_is.read.keyed is.read.keyed (sym other_is.read.text ∙ is.read.text)

  loaded-no_fault : (bytes : List ℕ) (lines : List KeyedLine) (fault : RevertFault) → IsLoaded bytes One delimiter (table_with delimiter lines) → fault ≢ Memory → ¬ IsLoadFault delimiter bytes fault
  loaded-no_fault bytes lines (BadLine line) is known has = read-no_fault One delimiter _ [] bytes lines (applying.BadLine line) delimits is.read (λ same. cc) has
  loaded-no_fault bytes lines (DoubleKey line) is known has = read-no_fault One delimiter _ [] bytes lines (applying.DoubleKey line) delimits is.read (λ same. cc) has
  loaded-no_fault bytes lines (NoSuchKey line) is known has = has
  loaded-no_fault bytes lines (KeyExists line) is known has = has
  loaded-no_fault bytes lines (BadPlace line) is known has = has
  loaded-no_fault bytes lines Memory is known has = known refl

  two-loads : (bytes : List ℕ) (fault other : RevertFault) → IsLoadFault delimiter bytes fault → IsLoadFault delimiter bytes other → fault ≢ Memory → other ≢ Memory → fault ≡ other
  two-loads bytes (BadLine line) (BadLine line') has other_has known other_known =
      let same : applying.BadLine line ≡ applying.BadLine line' =
      one-load_fault One delimiter _ [] bytes (applying.BadLine line) (applying.BadLine line') delimits has other_has (λ e. cc) (λ e. cc) in
      let lines : line ≡ line' = cc in
      ap BadLine lines
  two-loads bytes (BadLine line) (DoubleKey line') has other_has known other_known =
      let same : applying.BadLine line ≡ applying.DoubleKey line' =
      one-load_fault One delimiter _ [] bytes (applying.BadLine line) (applying.DoubleKey line') delimits has other_has (λ e. cc) (λ e. cc) in
      absurd (cc)
  two-loads bytes (DoubleKey line) (BadLine line') has other_has known other_known =
      let same : applying.DoubleKey line ≡ applying.BadLine line' =
      one-load_fault One delimiter _ [] bytes (applying.DoubleKey line) (applying.BadLine line') delimits has other_has (λ e. cc) (λ e. cc) in
      absurd (cc)
  two-loads bytes (DoubleKey line) (DoubleKey line') has other_has known other_known =
      let same : applying.DoubleKey line ≡ applying.DoubleKey line' =
      one-load_fault One delimiter _ [] bytes (applying.DoubleKey line) (applying.DoubleKey line') delimits has other_has (λ e. cc) (λ e. cc) in
      let lines : line ≡ line' = cc in
      ap DoubleKey lines
  two-loads bytes (NoSuchKey line) other has other_has known other_known = absurd has
  two-loads bytes (KeyExists line) other has other_has known other_known = absurd has
  two-loads bytes (BadPlace line) other has other_has known other_known = absurd has
  two-loads bytes Memory other has other_has known other_known = absurd (known refl)
  two-loads bytes fault (NoSuchKey line) has other_has known other_known = absurd other_has
  two-loads bytes fault (KeyExists line) has other_has known other_known = absurd other_has
  two-loads bytes fault (BadPlace line) has other_has known other_known = absurd other_has
  two-loads bytes fault Memory has other_has known other_known = absurd (other_known refl)

  -- ---- undo texts

  one-in_turn : (undos : List (List ℕ)) (before after other : List KeyedLine) → IsUndoneInTurn delimiter undos before after → IsUndoneInTurn delimiter undos before other → after ≡ other
  one-in_turn [] before after other made other_made = sym made ∙ other_made
  one-in_turn (bytes ∷ undos) before after other made other_made =
      let same : other_made.0 ≡ made.0 = one-undone delimiter delimits before bytes other_made.0 made.0 other_made.1 made.1 in
      one-in_turn undos made.0 after other made.2 (subst (λ (lines : List KeyedLine). IsUndoneInTurn delimiter undos lines other) same other_made.2)

  in_turn-no_fault : (undos : List (List ℕ)) (before after : List KeyedLine) (place : ℕ) (fault : RevertFault) → IsUndoneInTurn delimiter undos before after → fault ≢ Memory →
      ¬ HasUndoFaultAt delimiter undos before place fault
  in_turn-no_fault [] before after place fault made known has = has
  in_turn-no_fault (bytes ∷ undos) before after zero fault made known has = taken-no_fault delimiter delimits before bytes made.0 fault made.1 known has
  in_turn-no_fault (bytes ∷ undos) before after (suc place) fault made known has =
      let same : has.0 ≡ made.0 = one-undone delimiter delimits before bytes has.0 made.0 has.1 made.1 in
      in_turn-no_fault undos made.0 after place fault made.2 known (subst (λ (lines : List KeyedLine). HasUndoFaultAt delimiter undos lines place fault) same has.2)

  one-first : (undos : List (List ℕ)) (before : List KeyedLine) (place other_place : ℕ) (fault other : RevertFault) → HasUndoFaultAt delimiter undos before place fault →
      HasUndoFaultAt delimiter undos before other_place other → fault ≢ Memory → other ≢ Memory → (place ≡ other_place) × (fault ≡ other)
  one-first [] before place other_place fault other has other_has known other_known = absurd has
  one-first (bytes ∷ undos) before zero zero fault other has other_has known other_known =
      (refl, one-fault delimiter delimits before bytes fault other has other_has known other_known)
  one-first (bytes ∷ undos) before zero (suc other_place) fault other has other_has known other_known =
      absurd (taken-no_fault delimiter delimits before bytes other_has.0 fault other_has.1 known has)
  one-first (bytes ∷ undos) before (suc place) zero fault other has other_has known other_known =
      absurd (taken-no_fault delimiter delimits before bytes has.0 other has.1 other_known other_has)
  one-first (bytes ∷ undos) before (suc place) (suc other_place) fault other has other_has known other_known =
      let same : other_has.0 ≡ has.0 = one-undone delimiter delimits before bytes other_has.0 has.0 other_has.1 has.1 in
      let later = one-first undos has.0 place other_place fault other has.2
      (subst (λ (lines : List KeyedLine). HasUndoFaultAt delimiter undos lines other_place other) same other_has.2) known other_known in
      (ap (λ (p : ℕ). suc p) later.0, later.1)

  -- ---- all inputs

  pub one-reverted : (inputs : List (List ℕ)) (text other : List ℕ) → IsRevertedText delimiter inputs text → IsRevertedText delimiter inputs other → text ≡ other
  one-reverted [] text other is other_is = absurd is
  one-reverted (bytes ∷ undos) text other is other_is =
      let same : other_is.0 ≡ is.0 = one-loaded bytes is.0 other_is.0 is.2 other_is.2 in
      let after : is.1 ≡ other_is.1 =
      one-in_turn undos is.0 is.1 other_is.1 is.3 (subst (λ (lines : List KeyedLine). IsUndoneInTurn delimiter undos lines other_is.1) same other_is.3) in
      is.4 ∙ ap lines_text after ∙ sym other_is.4

  pub reverted-no_fault : (inputs : List (List ℕ)) (text : List ℕ) (place : ℕ) (fault : RevertFault) → IsRevertedText delimiter inputs text → fault ≢ Memory → ¬ IsRevertFaultAt delimiter inputs place fault
  reverted-no_fault [] text place fault is known has = is
  reverted-no_fault (bytes ∷ undos) text zero fault is known has = loaded-no_fault bytes is.0 fault is.2 known has
  reverted-no_fault (bytes ∷ undos) text (suc place) fault is known has =
      let same : has.0 ≡ is.0 = one-loaded bytes is.0 has.0 is.2 has.1 in
      in_turn-no_fault undos is.0 is.1 place fault is.3 known (subst (λ (lines : List KeyedLine). HasUndoFaultAt delimiter undos lines place fault) same has.2)

  pub one-revert_fault : (inputs : List (List ℕ)) (place other_place : ℕ) (fault other : RevertFault) → IsRevertFaultAt delimiter inputs place fault → IsRevertFaultAt delimiter inputs other_place other →
      fault ≢ Memory → other ≢ Memory → (place ≡ other_place) × (fault ≡ other)
  one-revert_fault [] place other_place fault other has other_has known other_known = absurd has
  one-revert_fault (bytes ∷ undos) zero zero fault other has other_has known other_known = (refl, two-loads bytes fault other has other_has known other_known)
  one-revert_fault (bytes ∷ undos) zero (suc other_place) fault other has other_has known other_known = absurd (loaded-no_fault bytes other_has.0 fault other_has.1 known has)
  one-revert_fault (bytes ∷ undos) (suc place) zero fault other has other_has known other_known = absurd (loaded-no_fault bytes has.0 other has.1 other_known other_has)
  one-revert_fault (bytes ∷ undos) (suc place) (suc other_place) fault other has other_has known other_known =
      let same : other_has.0 ≡ has.0 = one-loaded bytes has.0 other_has.0 has.1 other_has.1 in
      let later = one-first undos has.0 place other_place fault other has.2
      (subst (λ (lines : List KeyedLine). HasUndoFaultAt delimiter undos lines other_place other) same other_has.2) known other_known in
      (ap (λ (p : ℕ). suc p) later.0, later.1)
