-- What a line says: its text, its weight, and where its carriage return goes.
use Rattle.std.proofs.Common.{◌≡◌, ℕ, ◌+◌, ◌-◌, ◌||◌, Bool, true, false, not, cond, List, [], ◌∷◌, ◌++◌, Option, Some, None, length, get_or, take, Bor, eqb, refl, ap, sym, ◌∙◌, inl, inr, arith, rules, eq-eqb}
use Rattle.std.proofs.lemmas.Bool.{cases_Bool, eqb-true}
use Rattle.std.proofs.lemmas.Grind.{common_steps}
use Rattle.std.proofs.lemmas.List.{take_all, take_more}
use Rattle.std.proofs.lemmas.Str.Parse.{IsNumeralModel, numerals_by_value}
use Rattle.std.specs.Char.{is_ascii_digit}
use Rattle.std.specs.List.{list_all, list_any, position_or_len}
use Rattle.std.specs.Option.{MatchOption, unwrap_or}
use Rattle.std.specs.Str.Lines.{strip_carriage_return}
use Rattle.std.specs.Str.Parse.{digits_value}

-- where no element is the first to pass, none passes
pub list_any-from_position : {X : Type 0} (p : X → Bool) (xs : List X) → position_or_len p xs ≡ length xs → list_any p xs ≡ false
list_any-from_position p [] whole = refl
list_any-from_position p (x ∷ xs) whole =
    elim (cases_Bool (p x)) [
      | inl passes ↦
          let here : position_or_len p (x ∷ xs) ≡ 0 =
          ap (λ (b : Bool). cond (not b) (1 + position_or_len p xs) 0) passes in
          absurd (omega arith)
      | inr fails ↦
          let here : position_or_len p (x ∷ xs) ≡ 1 + position_or_len p xs =
          ap (λ (b : Bool). cond (not b) (1 + position_or_len p xs) 0) fails in
          ap (λ (b : Bool). b || list_any p xs) fails ∙ list_any-from_position p xs (omega arith)
    ]

-- digits in the words of the grammar
pub digits_model : IsNumeralModel (λ digits. list_all is_ascii_digit digits ≡ true) (digits_value 10)
digits_model = numerals_by_value _ (search rules)

-- a line that ends with a carriage return, less it
pub strip_carriage_return-push : (line rest : List ℕ) → line ≡ rest ++ 13 ∷ [] → strip_carriage_return line ≡ rest
strip_carriage_return-push line rest ends =
    let last : get_or line (length line - 1) 0 ≡ 13 = grind (arith, common_steps) in
    let front : take (length line - 1) line ≡ rest = grind (arith, common_steps) in
    ap (λ (b : Bool). cond b (take (length line - 1) line) line) (eq-eqb (get_or line (length line - 1) 0) 13 last) ∙ front

-- and one that ends with another byte, or has none
pub strip_carriage_return-other : (line : List ℕ) → ((front : List ℕ) → line ≡ front ++ 13 ∷ [] → ⊥) → strip_carriage_return line ≡ line
strip_carriage_return-other [] other = refl
strip_carriage_return-other (byte ∷ others) other =
    let line = byte ∷ others in
    let at_end = length line - 1 in
    elim (cases_Bool (eqb (get_or line at_end 0) 13)) [
      | inl returns ↦
          let last : get_or line at_end 0 ≡ 13 = eqb-true (get_or line at_end 0) 13 returns in
          let split : line ≡ take at_end line ++ get_or line at_end 0 ∷ [] =
          sym (take_all (at_end + 1) line (omega arith)) ∙ take_more line at_end 0 (omega arith) in
          absurd (other (take at_end line) (rw last at split))
      | inr goes_on ↦ ap (λ (b : Bool). cond b (take at_end line) line) goes_on
    ]

pub strip_carriage_return-stripped : (part : Bor (List ℕ)) (stripped : Option (Bor (List ℕ))) →
    MatchOption stripped ((front : List ℕ) → part.now ≡ front ++ 13 ∷ [] → ⊥) (λ line. part.now ≡ line.now ++ 13 ∷ []) →
    (unwrap_or stripped part).now ≡ strip_carriage_return part.now
strip_carriage_return-stripped part None other = sym (strip_carriage_return-other part.now other)
strip_carriage_return-stripped part (Some line) ends = sym (strip_carriage_return-push part.now line.now ends)
