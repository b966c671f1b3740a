-- The lines of a row, one after the other, and the parts of a line.
use Rattle.std.proofs.Common.{◌≡◌, ◌<◌, ℕ, ◌+◌, ◌^◌, List, [], ◌∷◌, ◌++◌, append_assoc, append-nil, decimal, flat_map, Option, Some, ap, arith, sym, ◌∙◌}
use Rattle.std.specs.Prelude.{codes}
use Rattle.std.specs.List.{range_with_len}
use Rattle.std.proofs.lemmas.List.Concat.{flat_map-append, flat_map-cons}
use Rattle.life_intervals.proofs.Ranges.{range_with_len-add}
use Rattle.row_text.specs.Fields.{field_text}
use Rattle.row_text.specs.Lines.{line_text}
use Rattle.row_text.proofs.DigitLemmas.{escaped_text-decimal}

-- ---- one line

-- a field with the delimiter before it
abbrev pub after_delimiter : ℕ → Option (List ℕ) → List ℕ
after_delimiter delimiter field = delimiter ∷ field_text delimiter field

-- a key and a number, the fields and a line feed are the line
pub line-joined : (delimiter key number : ℕ) (others : List (Option (List ℕ))) → key < 2 ^ 64 → number < 2 ^ 64 →
    ((decimal key ++ delimiter ∷ decimal number) ++ flat_map (after_delimiter delimiter) others) ++ 10 ∷ []
    ≡ line_text delimiter (Some (decimal key) ∷ Some (decimal number) ∷ others) ++ codes "\n"
line-joined delimiter key number others small few =
    let first = field_text-decimal delimiter key small in
    let second = field_text-decimal delimiter number few in
    let fields : List ℕ = flat_map (after_delimiter delimiter) others in
    ap (λ (text : List ℕ). text ++ 10 ∷ []) (append_assoc (decimal key) (delimiter ∷ decimal number) fields)
    ∙ ap (λ (text : List ℕ). (text ++ ((delimiter ∷ decimal number) ++ fields)) ++ 10 ∷ []) (sym first)
    ∙ ap (λ (text : List ℕ). (field_text delimiter (Some (decimal key)) ++ ((delimiter ∷ text) ++ fields)) ++ 10 ∷ []) (sym second)
    ∙ ap (λ (text : List ℕ). (field_text delimiter (Some (decimal key)) ++ text) ++ 10 ∷ []) (sym (flat_map-cons (after_delimiter delimiter) (Some (decimal number)) others))
  where
    field_text-decimal : (d n : ℕ) → n < 2 ^ 64 → field_text d (Some (decimal n)) ≡ decimal n
    field_text-decimal d n below = escaped_text-decimal d n below

-- and the same without fields
pub key_line-joined : (delimiter key number : ℕ) → key < 2 ^ 64 → number < 2 ^ 64 →
    (decimal key ++ delimiter ∷ decimal number) ++ 10 ∷ [] ≡ line_text delimiter (Some (decimal key) ∷ Some (decimal number) ∷ []) ++ codes "\n"
key_line-joined delimiter key number small few =
    ap (λ (text : List ℕ). text ++ 10 ∷ []) (sym (append-nil (decimal key ++ delimiter ∷ decimal number))) ∙ line-joined delimiter key number [] small few

-- ---- one line more

pub lines-more : (f : ℕ → List ℕ) (done : ℕ) → flat_map f (range_with_len 1 done) ++ f (done + 1) ≡ flat_map f (range_with_len 1 (done + 1))
lines-more f done =
    let here : 1 + done ≡ done + 1 = omega arith in
    ap (λ (n : ℕ). flat_map f (range_with_len 1 done) ++ f n) (sym here)
    ∙ ap (λ (text : List ℕ). flat_map f (range_with_len 1 done) ++ text) (sym (append-nil (f (1 + done))) ∙ sym (flat_map-cons f (1 + done) []))
    ∙ sym (flat_map-append f (range_with_len 1 done) ((1 + done) ∷ []))
    ∙ ap (flat_map f) (sym (range_with_len-add 1 done 1))
