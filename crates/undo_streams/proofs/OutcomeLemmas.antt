-- What an undo text is read as: one list of lines, or one first fault.
use Rattle.std.proofs.Common.{◌≡◌, ◌≢◌, ℕ, ◌+◌, ◌≤◌, ◌<◌, List, [], ◌∷◌, ◌++◌, ◌⊎◌, inl, inr, length, refl, ap, sym, subst, ◌∙◌, arith, append_assoc, length-append}
use Rattle.std.proofs.lemmas.Bool.{both_ways}
use Rattle.std.proofs.lemmas.List.{append-nil, append_cancel_left}
use Rattle.row_text.specs.Fields.{IsDelimiter}
use Rattle.stream_apply.specs.KeyedLines.{KeyedLine}
use Rattle.stream_apply.specs.Streams.{IsKeyedLine}
use Rattle.stream_apply.specs.declared.key_fields.KeyFields.TheVariants.{One}
use Rattle.stream_apply.proofs.LineLemmas.{first-cut}
use Rattle.stream_apply.proofs.OutcomeLemmas.{same-line}
use Rattle.undo_streams.specs.Reverting.{AreTaken, HasBadUndo, HasLineFault, IsLineFault, IsReadTo, IsTaken, IsUndoFault, IsUndoLine, IsUndoneBy, UndoLine, Undoing, begun, behind, behind_all, kind_of, rank_of, undo_line_text, undos_text}
use Rattle.undo_streams.specs.declared.fault.RevertFault.{RevertFault}
use Rattle.undo_streams.specs.declared.fault.RevertFault.TheVariants.{BadLine, BadPlace, DoubleKey, KeyExists, Memory, NoSuchKey}
use Rattle.undo_streams.specs.declared.part.Part.{Part}
use Rattle.undo_streams.proofs.LeadLemmas.{one-lead, undo-line_feed}

module _ (delimiter : ℕ) (delimits : IsDelimiter delimiter) where
  -- two starts with a line are one
  same-start : (undo other : UndoLine) (rest behind_rest : List ℕ) → IsUndoLine delimiter undo → IsUndoLine delimiter other → undo_line_text delimiter undo ++ 10 ∷ rest ≡ undo_line_text delimiter other ++ 10 ∷ behind_rest →
      (undo ≡ other) × (rest ≡ behind_rest)
  same-start undo other rest behind_rest is other_is same =
      let texts = first-cut 10 (undo_line_text delimiter undo) (undo_line_text delimiter other) rest behind_rest (undo-line_feed delimiter delimits undo is) (undo-line_feed delimiter delimits other other_is) same in
      let tails : 10 ∷ rest ≡ 10 ∷ behind_rest =
      append_cancel_left (undo_line_text delimiter other) (10 ∷ rest) (10 ∷ behind_rest) (ap (λ (t : List ℕ). t ++ 10 ∷ rest) (sym texts) ∙ same) in
      let rests : rest ≡ behind_rest = cc in
      let lead = one-lead delimiter delimits undo.part other.part undo.place other.place undo.line.text other.line.text is.place other_is.place texts in
      let other_keyed : IsKeyedLine One delimiter (kind_of undo.part) other.line = subst (λ (p : Part). IsKeyedLine One delimiter (kind_of p) other.line) (sym lead.0) other_is.keyed in
      let lines : undo.line ≡ other.line = same-line One delimiter delimits (kind_of undo.part) undo.line other.line is.keyed other_keyed lead.2 in (
        ap (λ (p : Part). record { part = p; place = undo.place; line = undo.line }) lead.0
            ∙ ap (λ (n : ℕ). record { part = other.part; place = n; line = undo.line }) lead.1
            ∙ ap (λ (l : KeyedLine). record { part = other.part; place = other.place; line = l }) lines,
        rests,
      )

  front : (undo : UndoLine) (undos : List UndoLine) (rest : List ℕ) → undos_text delimiter (undo ∷ undos) ++ rest ≡ undo_line_text delimiter undo ++ 10 ∷ (undos_text delimiter undos ++ rest)
  front undo undos rest =
      append_assoc (undo_line_text delimiter undo ++ 10 ∷ []) (undos_text delimiter undos) rest ∙ append_assoc (undo_line_text delimiter undo) (10 ∷ []) (undos_text delimiter undos ++ rest)

  -- of two readings of the same bytes, one goes on from the other
  record GoesOn (undoing : Undoing) (undos : List UndoLine) (rest : List ℕ) (others : List UndoLine) (later : List ℕ) : Type 0 where
    more : List UndoLine
    is : undos ≡ others ++ more
    text : later ≡ undos_text delimiter more ++ rest
    taken : AreTaken delimiter (behind_all undoing others) more

  one-of : (undoing : Undoing) (undos others : List UndoLine) (rest later : List ℕ) → AreTaken delimiter undoing undos → AreTaken delimiter undoing others →
      undos_text delimiter undos ++ rest ≡ undos_text delimiter others ++ later → GoesOn undoing undos rest others later ⊎ GoesOn undoing others later undos rest
  one-of undoing undos [] rest later taken other_taken same = inl (record { more = undos; is = refl; text = sym same; taken = taken })
  one-of undoing [] (other ∷ others) rest later taken other_taken same = inr (record { more = other ∷ others; is = refl; text = same; taken = other_taken })
  one-of undoing (undo ∷ undos) (other ∷ others) rest later taken other_taken same =
      let both = same-start undo other (undos_text delimiter undos ++ rest) (undos_text delimiter others ++ later) taken.0.is other_taken.0.is
      (sym (front undo undos rest) ∙ same ∙ front other others later) in
      let firsts : undo ≡ other = both.0 in
      let here : AreTaken delimiter (behind undoing undo) others = subst (λ (u : UndoLine). AreTaken delimiter (behind undoing u) others) (sym firsts) other_taken.1 in
      elim (one-of (behind undoing undo) undos others rest later taken.1 here both.1) [
        | inl on ↦
            inl (record {
              more = on.more;
              is = ap (λ (us : List UndoLine). undo ∷ us) on.is ∙ ap (λ (u : UndoLine). u ∷ (others ++ on.more)) firsts;
              text = on.text;
              taken = subst (λ (u : UndoLine). AreTaken delimiter (behind_all (behind undoing u) others) on.more) firsts on.taken;
            })
        | inr on ↦
            inr (record {
              more = on.more;
              is = ap (λ (us : List UndoLine). other ∷ us) on.is ∙ ap (λ (u : UndoLine). u ∷ (undos ++ on.more)) (sym firsts);
              text = on.text;
              taken = on.taken;
            })
      ]

  -- where a fault stands: after lines without one, before what is no line without one
  record Stop (table : List KeyedLine) (bytes : List ℕ) : Type 0 where
    before : List UndoLine
    rest : List ℕ
    read : IsReadTo delimiter table bytes before rest
    more : 0 < length rest
    stops : (undo : UndoLine) (later : List ℕ) → rest ≡ undo_line_text delimiter undo ++ 10 ∷ later → ¬ IsTaken delimiter (behind_all (begun table) before) undo

  stop-bad : (table : List KeyedLine) (bytes : List ℕ) (line : ℕ) → HasBadUndo delimiter table bytes line → Stop table bytes
  stop-bad table bytes line bad = record {
    before = bad.before;
    rest = bad.rest;
    read = bad.read;
    more = bad.more;
    stops = λ undo later is taken. bad.none undo later is taken.is taken.order;
  }

  -- a line without a fault has none
  line-none : (undoing : Undoing) (undo : UndoLine) (number : ℕ) (fault : RevertFault) → IsLineFault undoing undo number fault → fault ≢ Memory → ¬ IsTaken delimiter undoing undo
  line-none undoing undo number (BadLine line) is known taken = is
  line-none undoing undo number (DoubleKey line) is known taken = both_ways _ taken.free is.1
  line-none undoing undo number (NoSuchKey line) is known taken = both_ways _ is.3 (taken.held ∙ is.2)
  line-none undoing undo number (KeyExists line) is known taken = both_ways _ (taken.held ∙ is.2) is.3
  line-none undoing undo number (BadPlace line) is known taken = is.3 taken.placed
  line-none undoing undo number Memory is known taken = known refl

  stop-line : (table : List KeyedLine) (bytes : List ℕ) (fault : RevertFault) → HasLineFault delimiter table bytes fault → fault ≢ Memory → Stop table bytes
  stop-line table bytes fault bad known = record {
    before = bad.before;
    rest = undo_line_text delimiter bad.undo ++ 10 ∷ bad.rest;
    read = bad.read;
    more = omega (arith, length-append (undo_line_text delimiter bad.undo) (10 ∷ bad.rest));
    stops = λ undo later is taken.
        let same : bad.undo ≡ undo = (same-start bad.undo undo bad.rest later bad.is taken.is is).0 in
        line-none (behind_all (begun table) bad.before) undo (length bad.before + 1) fault
        (subst (λ (u : UndoLine). IsLineFault (behind_all (begun table) bad.before) u (length bad.before + 1) fault) same bad.fault_is) known taken;
  }

  -- lines that are read past such a place have no fault there
  passed : (table : List KeyedLine) (bytes : List ℕ) (stop : Stop table bytes) (rest : List ℕ) (more : List UndoLine) → stop.rest ≡ undos_text delimiter more ++ rest →
      AreTaken delimiter (behind_all (begun table) stop.before) more → 0 < length more → ⊥
  passed table bytes stop rest [] is taken some = omega (arith, some)
  passed table bytes stop rest (next ∷ more) is taken some = stop.stops next (undos_text delimiter more ++ rest) (is ∙ front next more rest) taken.0

  -- an undo text that is taken whole has no fault
  stop-none : (table : List KeyedLine) (bytes : List ℕ) (undos : List UndoLine) → bytes ≡ undos_text delimiter undos → AreTaken delimiter (begun table) undos → ¬ Stop table bytes
  stop-none table bytes undos text taken stop =
      elim (one-of (begun table) undos stop.before [] stop.rest taken stop.read.taken (append-nil (undos_text delimiter undos) ∙ sym text ∙ stop.read.text)) [
        | inl on ↦ behind_it on.more on.text on.taken
        | inr on ↦ omega (arith, stop.more, ap length on.text, length-append (undos_text delimiter on.more) stop.rest)
      ]
    where
      behind_it : (more : List UndoLine) → stop.rest ≡ undos_text delimiter more ++ [] → AreTaken delimiter (behind_all (begun table) stop.before) more → ⊥
      behind_it [] is taken = omega (arith, stop.more, ap length is)
      behind_it (next ∷ more) is taken = passed table bytes stop [] (next ∷ more) is taken (omega arith)

  -- a fault is of what is no line, or of a line
  split : (table : List KeyedLine) (bytes : List ℕ) (fault : RevertFault) → IsUndoFault delimiter table bytes fault → fault ≢ Memory →
      ((line : ℕ) × (fault ≡ BadLine line) × HasBadUndo delimiter table bytes line) ⊎ HasLineFault delimiter table bytes fault
  split table bytes (BadLine line) is known = inl (line, refl, is)
  split table bytes (DoubleKey line) is known = inr is
  split table bytes (NoSuchKey line) is known = inr is
  split table bytes (KeyExists line) is known = inr is
  split table bytes (BadPlace line) is known = inr is
  split table bytes Memory is known = absurd (known refl)

  pub taken-no_fault : (table : List KeyedLine) (bytes : List ℕ) (after : List KeyedLine) (fault : RevertFault) → IsUndoneBy delimiter table bytes after → fault ≢ Memory →
      ¬ IsUndoFault delimiter table bytes fault
  taken-no_fault table bytes after fault undone known is =
      elim (split table bytes fault is known) [
        | inl bad ↦ stop-none table bytes undone.undos undone.text undone.taken (stop-bad table bytes bad.0 bad.2)
        | inr bad ↦ stop-none table bytes undone.undos undone.text undone.taken (stop-line table bytes fault bad known)
      ]

  -- an undo text makes one table
  pub one-undone : (table : List KeyedLine) (bytes : List ℕ) (after other : List KeyedLine) → IsUndoneBy delimiter table bytes after → IsUndoneBy delimiter table bytes other → after ≡ other
  one-undone table bytes after other undone other_undone =
      let same : undone.undos ≡ other_undone.undos =
      elim (one-of (begun table) undone.undos other_undone.undos [] [] undone.taken other_undone.taken (ap (λ (t : List ℕ). t ++ []) (sym undone.text ∙ other_undone.text))) [
        | inl on ↦ on.is ∙ none on.more on.text other_undone.undos
        | inr on ↦ sym (on.is ∙ none on.more on.text undone.undos)
      ] in
      undone.made ∙ ap (λ (us : List UndoLine). (behind_all (begun table) us).lines) same ∙ sym other_undone.made
    where
      none : (more : List UndoLine) → [] ≡ undos_text delimiter more ++ [] → (undos : List UndoLine) → undos ++ more ≡ undos
      none [] is undos = append-nil undos
      none (next ∷ more) is undos =
          absurd (omega (
            arith,
            ap length is,
            length-append (undos_text delimiter (next ∷ more)) [],
            length-append (undo_line_text delimiter next ++ 10 ∷ []) (undos_text delimiter more),
            length-append (undo_line_text delimiter next) (10 ∷ []),
          ))

  -- two faults stand at one place
  one-place : (table : List KeyedLine) (bytes : List ℕ) (stop other : Stop table bytes) → (stop.before ≡ other.before) × (stop.rest ≡ other.rest)
  one-place table bytes stop other =
      elim (one-of (begun table) stop.before other.before stop.rest other.rest stop.read.taken other.read.taken (sym stop.read.text ∙ other.read.text)) [
        | inl on ↦ before_it on.more on.is on.text on.taken
        | inr on ↦ behind_it on.more on.is on.text on.taken
      ]
    where
      before_it : (more : List UndoLine) → stop.before ≡ other.before ++ more → other.rest ≡ undos_text delimiter more ++ stop.rest → AreTaken delimiter (behind_all (begun table) other.before) more →
          (stop.before ≡ other.before) × (stop.rest ≡ other.rest)
      before_it [] is text taken = (is ∙ append-nil other.before, sym text)
      before_it (next ∷ more) is text taken = absurd (passed table bytes other stop.rest (next ∷ more) text taken (omega arith))

      behind_it : (more : List UndoLine) → other.before ≡ stop.before ++ more → stop.rest ≡ undos_text delimiter more ++ other.rest → AreTaken delimiter (behind_all (begun table) stop.before) more →
          (stop.before ≡ other.before) × (stop.rest ≡ other.rest)
      behind_it [] is text taken = (sym (is ∙ append-nil stop.before), text)
      behind_it (next ∷ more) is text taken = absurd (passed table bytes stop other.rest (next ∷ more) text taken (omega arith))

  -- what is no line, and a line with a fault, stand at two
  bad-or-line : (table : List KeyedLine) (bytes : List ℕ) (line : ℕ) (fault : RevertFault) → HasBadUndo delimiter table bytes line → HasLineFault delimiter table bytes fault → fault ≢ Memory → ⊥
  unfolding stop-bad stop-line
  bad-or-line table bytes line fault bad other known =
      let place = one-place table bytes (stop-bad table bytes line bad) (stop-line table bytes fault other known) in
      let befores : bad.before ≡ other.before = place.0 in
      let rests : bad.rest ≡ undo_line_text delimiter other.undo ++ 10 ∷ other.rest = place.1 in
      bad.none other.undo other.rest rests other.is (subst (λ (us : List UndoLine). rank_of (behind_all (begun table) us).part ≤ rank_of other.undo.part) (sym befores) other.order)

  two-bad : (table : List KeyedLine) (bytes : List ℕ) (line other : ℕ) → HasBadUndo delimiter table bytes line → HasBadUndo delimiter table bytes other → line ≡ other
  unfolding stop-bad
  two-bad table bytes line other bad other_bad =
      let place = one-place table bytes (stop-bad table bytes line bad) (stop-bad table bytes other other_bad) in
      let befores : bad.before ≡ other_bad.before = place.0 in
      bad.number ∙ ap (λ (us : List UndoLine). length us + 1) befores ∙ sym other_bad.number

  -- a line has one fault
  line-one : (undoing : Undoing) (undo : UndoLine) (number : ℕ) (fault other : RevertFault) → IsLineFault undoing undo number fault → IsLineFault undoing undo number other → fault ≢ Memory → other ≢ Memory → fault ≡ other
  line-one undoing undo number (BadLine line) other is other_is known other_known = absurd is
  line-one undoing undo number fault (BadLine line) is other_is known other_known = absurd other_is
  line-one undoing undo number Memory other is other_is known other_known = absurd (known refl)
  line-one undoing undo number fault Memory is other_is known other_known = absurd (other_known refl)
  line-one undoing undo number (DoubleKey line) (DoubleKey line') is other_is known other_known = ap DoubleKey (is.0 ∙ sym other_is.0)
  line-one undoing undo number (DoubleKey line) (NoSuchKey line') is other_is known other_known = absurd (both_ways _ other_is.1 is.1)
  line-one undoing undo number (DoubleKey line) (KeyExists line') is other_is known other_known = absurd (both_ways _ other_is.1 is.1)
  line-one undoing undo number (DoubleKey line) (BadPlace line') is other_is known other_known = absurd (both_ways _ other_is.1 is.1)
  line-one undoing undo number (NoSuchKey line) (DoubleKey line') is other_is known other_known = absurd (both_ways _ is.1 other_is.1)
  line-one undoing undo number (NoSuchKey line) (NoSuchKey line') is other_is known other_known = ap NoSuchKey (is.0 ∙ sym other_is.0)
  line-one undoing undo number (NoSuchKey line) (KeyExists line') is other_is known other_known = absurd (both_ways _ is.3 other_is.3)
  line-one undoing undo number (NoSuchKey line) (BadPlace line') is other_is known other_known = absurd (both_ways _ is.3 (other_is.2 ∙ is.2))
  line-one undoing undo number (KeyExists line) (DoubleKey line') is other_is known other_known = absurd (both_ways _ is.1 other_is.1)
  line-one undoing undo number (KeyExists line) (NoSuchKey line') is other_is known other_known = absurd (both_ways _ other_is.3 is.3)
  line-one undoing undo number (KeyExists line) (KeyExists line') is other_is known other_known = ap KeyExists (is.0 ∙ sym other_is.0)
  line-one undoing undo number (KeyExists line) (BadPlace line') is other_is known other_known = absurd (both_ways _ (other_is.2 ∙ is.2) is.3)
  line-one undoing undo number (BadPlace line) (DoubleKey line') is other_is known other_known = absurd (both_ways _ is.1 other_is.1)
  line-one undoing undo number (BadPlace line) (NoSuchKey line') is other_is known other_known = absurd (both_ways _ other_is.3 (is.2 ∙ other_is.2))
  line-one undoing undo number (BadPlace line) (KeyExists line') is other_is known other_known = absurd (both_ways _ (is.2 ∙ other_is.2) other_is.3)
  line-one undoing undo number (BadPlace line) (BadPlace line') is other_is known other_known = ap BadPlace (is.0 ∙ sym other_is.0)

  two-lines : (table : List KeyedLine) (bytes : List ℕ) (fault other : RevertFault) → HasLineFault delimiter table bytes fault → HasLineFault delimiter table bytes other → fault ≢ Memory → other ≢ Memory → fault ≡ other
  unfolding stop-line
  two-lines table bytes fault other bad other_bad known other_known =
      let place = one-place table bytes (stop-line table bytes fault bad known) (stop-line table bytes other other_bad other_known) in
      let befores : bad.before ≡ other_bad.before = place.0 in
      let rests : undo_line_text delimiter bad.undo ++ 10 ∷ bad.rest ≡ undo_line_text delimiter other_bad.undo ++ 10 ∷ other_bad.rest = place.1 in
      let undos : bad.undo ≡ other_bad.undo = (same-start bad.undo other_bad.undo bad.rest other_bad.rest bad.is other_bad.is rests).0 in
      line-one (behind_all (begun table) other_bad.before) other_bad.undo (length other_bad.before + 1) fault other
      (subst (λ (us : List UndoLine). IsLineFault (behind_all (begun table) us) other_bad.undo (length us + 1) fault) befores
      (subst (λ (u : UndoLine). IsLineFault (behind_all (begun table) bad.before) u (length bad.before + 1) fault) undos bad.fault_is))
      other_bad.fault_is known other_known

  pub one-fault : (table : List KeyedLine) (bytes : List ℕ) (fault other : RevertFault) → IsUndoFault delimiter table bytes fault → IsUndoFault delimiter table bytes other → fault ≢ Memory → other ≢ Memory → fault ≡ other
  one-fault table bytes fault other is other_is known other_known =
      elim (split table bytes fault is known) [
        | inl bad ↦ elim (split table bytes other other_is other_known) [
          | inl other_bad ↦ bad.1 ∙ ap BadLine (two-bad table bytes bad.0 other_bad.0 bad.2 other_bad.2) ∙ sym other_bad.1
          | inr line ↦ absurd (bad-or-line table bytes bad.0 other bad.2 line other_known)
        ]
        | inr line ↦ elim (split table bytes other other_is other_known) [
          | inl other_bad ↦ absurd (bad-or-line table bytes other_bad.0 fault other_bad.2 line known)
          | inr other_line ↦ two-lines table bytes fault other line other_line known other_known
        ]
      ]
