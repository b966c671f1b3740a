use Rattle.std.proofs.Common.{◌≡◌, arith, ap, sym, ◌∙◌, true, length, get_or, decimal, ℕ, ◌==◌, ◌<◌, inl, inr, List}
use Rattle.std.specs.Char.{is_ascii_digit}
use Rattle.std.specs.List.{list_all}
use Rattle.std.proofs.lemmas.Bool.{both_ways, eqb-true}
use Rattle.stream_apply.proofs.StreamLemmas.{above_zero}
use Rattle.undo_streams.proofs.DigitLemmas.{decimal-digits, decimal-few, decimal-front, decimal-some, value_written}
use Rattle.undo_streams.proofs.undo_lines.read_place.Goals as goal
use Rattle.undo_streams.proofs.undo_lines.read_place.Goals.{then-is_empty-via-then-is_empty, then-is_empty-via-else-is_empty+then-digits-gt-PLACE_DIGITS, then-is_empty-via-else-is_empty+else-digits-gt-PLACE_DIGITS+then-not-are_digits}

empty_digits : {n : ℕ} (digits : List ℕ) → length digits ≡ n → 0 < n → (length digits == 0) ≡ true → ⊥
empty_digits digits are some empty = omega (arith, are, some, eqb-true (length digits) 0 empty)

pub returns-then-is_empty : goal.returns-then-is_empty
returns-then-is_empty c = λ place small is.
    let some = decimal-some place small in
    let few = decimal-few place small in
    elim c.then-is_empty.branch [
      | then-is_empty-via-then-is_empty w ↦ empty_digits c.args.digits.now (ap length is) some (sym c.is_empty.ensures ∙ w.if-is_empty.true)
      | then-is_empty-via-else-is_empty+then-digits-gt-PLACE_DIGITS w ↦ omega (arith, few, ap length is, w.if-digits-gt-PLACE_DIGITS.true)
      | then-is_empty-via-else-is_empty+else-digits-gt-PLACE_DIGITS+then-not-are_digits w ↦
          both_ways _ (sym w.are_digits.ensures ∙ w.if-not-are_digits.true) (ap (list_all is_ascii_digit) is ∙ decimal-digits place small)
    ]

pub returns-then-digits-gt1 : goal.returns-then-digits-gt1
returns-then-digits-gt1 c = λ place small is.
    omega (arith, c.if-digits-gt1.true, ap length is, decimal-front place small (ap (λ (ds : List _). get_or ds 0 0) (sym is) ∙ c.if-digits-eq48.true))

pub returns : goal.returns
returns c =
    let digits = c.args.digits.now in
    let are : list_all is_ascii_digit digits ≡ true = sym c.are_digits.ensures ∙ c.if-not-are_digits.false in
    let front : get_or digits 0 0 ≡ 48 → length digits ≡ 1 = λ zero. elim c.else-digits-eq48.either [ inl one ↦ omega (arith, one.1, above_zero _ (sym c.is_empty.ensures ∙ c.if-is_empty.false)) | inr other ↦ absurd (other zero) ] in
    let written = value_written digits are (above_zero _ (sym c.is_empty.ensures ∙ c.if-is_empty.false)) c.if-digits-gt-PLACE_DIGITS.false front in
    (omega (arith, written.0, c.value_of.ensures), written.1 ∙ ap decimal (sym c.value_of.ensures))
