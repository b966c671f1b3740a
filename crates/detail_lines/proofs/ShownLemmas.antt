-- What a line shows, column by column.
use Rattle.std.proofs.Common.{◌≡◌, ◌<◌, ◌+◌, ℕ, ℤ, suc, zero, Bool, true, false, List, Option, None, cond, get_or, length, set, refl, ap, arith, inl, inr, subst, sym, ◌∙◌}
use Rattle.std.specs.Prelude.{IfSome}
use Rattle.std.proofs.lemmas.Bool.{cases_lt}
use Rattle.std.proofs.lemmas.List.{get_or-set_same, get_or-set_other, length-set}
use Rattle.schema_facts.specs.FactsBefore.{facts_among}
use Rattle.draw_values.specs.CohortValues.{IsDayOf, IsNumberOf}
use Rattle.draw_values.specs.declared.leaf_numbers.Number.{Number}
use Rattle.draw_values.specs.Values.{is_null}
use Rattle.detail_lines.specs.declared.shown.Shown.{Shown}
use Rattle.detail_lines.specs.Lines.{Line, column_of, draws_of_line, line_day_by, line_day_in, line_number_by, line_number_in}
use Rattle.detail_lines.specs.Made.{LineOver, line_over}
use Rattle.detail_lines.specs.Shown.{AreShown, IsDayAt, IsNumberAt, IsSet}

-- whether the field of a column is drawn to be null
abbrev pub is_drawn_null : Line → ℕ → Bool
is_drawn_null line column = is_null (column_of line column).null (draws_of_line line column)

-- ---- one column

-- one that is drawn to be null shows nothing
pub no_day : (line : Line) (column n : ℕ) → is_drawn_null line column ≡ true → None ≡ line_day_in n line column
unfolding line_day_in
no_day line column zero null = refl
no_day line column (suc n) null =
    ap (λ (test : Bool). cond test None (line_day_by (line_day_in n line) line column (column_of line column).kind)) (sym null)

pub no_number : (line : Line) (column n : ℕ) → is_drawn_null line column ≡ true → None ≡ line_number_in n line column
unfolding line_number_in
no_number line column zero null = refl
no_number line column (suc n) null =
    ap (λ (test : Bool). cond test None (line_number_by (line_number_in n line) line column (column_of line column).kind)) (sym null)

-- any other shows what its kind says
pub day_is : (line : LineOver) (column n : ℕ) (day : Option ℤ) → is_drawn_null (line_over line) column ≡ false → IsDayAt line column day → column < n → day ≡ line_day_in n (line_over line) column
unfolding line_day_in
day_is line column zero day held is past = absurd (omega (arith, past))
day_is line column (suc n) day held is past =
    is.0 n (omega (arith, past))
    ∙ ap (λ (test : Bool). cond test None (line_day_by (line_day_in n (line_over line)) (line_over line) column (column_of (line_over line) column).kind)) (sym held)

pub number_is : (line : LineOver) (column n : ℕ) (number : Option Number) → is_drawn_null (line_over line) column ≡ false → IsNumberAt line column number → column < n → number ≡ line_number_in n (line_over line) column
unfolding line_number_in
number_is line column zero number held is past = absurd (omega (arith, past))
number_is line column (suc n) number held is past =
    is.0 n (omega (arith, past))
    ∙ ap (λ (test : Bool). cond test None (line_number_by (line_number_in n (line_over line)) (line_over line) column (column_of (line_over line) column).kind)) (sym held)

-- ---- one column more

-- a list with one more that is set
set_more : {A : Type 0} (P : ℕ → A → Type 0) (xs : List A) (place : ℕ) (x none : A) → place < length xs → ((k : ℕ) → k < place → P k (get_or xs k none)) → P place x →
    (k : ℕ) → k < place + 1 → P k (get_or (set xs place x) k none)
set_more P xs place x none within so_far here k below = elim (cases_lt k place) [
  | inl before ↦ subst (P k) (sym (get_or-set_other xs place k x none (λ same. absurd (omega (arith, before, same))))) (so_far k before)
  | inr behind ↦
      let at : k ≡ place = omega (arith, below, behind) in
      subst (λ (j : ℕ). P j (get_or (set xs place x) j none)) (sym at) (subst (P place) (sym (get_or-set_same xs place x none within)) here)
]

pub shown-more : (line : LineOver) (column : ℕ) (before after : Shown) (day : Option ℤ) (number : Option Number) → column < 32 → AreShown line column before → IsSet before column day number after →
    ((n : ℕ) → column < n → day ≡ line_day_in n (line_over line) column) → ((n : ℕ) → column < n → number ≡ line_number_in n (line_over line) column) →
    IfSome day (IsDayOf (facts_among line.over.kept.facts column).days) → IfSome number (IsNumberOf (facts_among line.over.kept.facts column).numbers) →
    AreShown line (column + 1) after
shown-more line column before after day number few so_far is day_here number_here day_within number_within =
    let here_days : column < length before.days = omega (arith, few, so_far.days) in
    let here_numbers : column < length before.numbers = omega (arith, few, so_far.numbers) in
    record {
      days = ap (λ (xs : List (Option ℤ)). length xs) is.days ∙ length-set before.days column day ∙ so_far.days;
      numbers = ap (λ (xs : List (Option Number)). length xs) is.numbers ∙ length-set before.numbers column number ∙ so_far.numbers;
      each_day = λ k n below past.
          subst (λ (xs : List (Option ℤ)). get_or xs k None ≡ line_day_in n (line_over line) k) (sym is.days)
          (set_more (λ (j : ℕ) (x : Option ℤ). j < n → x ≡ line_day_in n (line_over line) j) before.days column day None here_days (λ j inside far. so_far.each_day j n inside far) (day_here n) k below past);
      each_number = λ k n below past.
          subst (λ (xs : List (Option Number)). get_or xs k None ≡ line_number_in n (line_over line) k) (sym is.numbers)
          (set_more (λ (j : ℕ) (x : Option Number). j < n → x ≡ line_number_in n (line_over line) j) before.numbers column number None here_numbers (λ j inside far. so_far.each_number j n inside far) (number_here n) k below past);
      days_within = λ k below.
          subst (λ (xs : List (Option ℤ)). IfSome (get_or xs k None) (IsDayOf (facts_among line.over.kept.facts k).days)) (sym is.days)
          (set_more (λ (j : ℕ) (x : Option ℤ). IfSome x (IsDayOf (facts_among line.over.kept.facts j).days)) before.days column day None here_days so_far.days_within day_within k below);
      numbers_within = λ k below.
          subst (λ (xs : List (Option Number)). IfSome (get_or xs k None) (IsNumberOf (facts_among line.over.kept.facts k).numbers)) (sym is.numbers)
          (set_more (λ (j : ℕ) (x : Option Number). IfSome x (IsNumberOf (facts_among line.over.kept.facts j).numbers)) before.numbers column number None here_numbers so_far.numbers_within number_within k below);
    }
