-- A word list that is written is read again.
use Rattle.std.proofs.Common.{◌≡◌, ◌≢◌, ℕ, zero, suc, ◌+◌, ◌-◌, ◌<◌, ◌≤◌, ◌^◌, ◌==◌, Bool, true, false, not, cond, List, [], ◌∷◌, ◌++◌, map, filter, length, get_or, take, drop, All, Some, None, Ok, refl, ap, sym, ◌∙◌, arith, eq-eqb, lit<, if◌then◌else◌}
use Rattle.std.proofs.lemmas.Bool.{ne_eqb, le-leb, le-ltb, and_from}
use Rattle.std.proofs.lemmas.Fmt.{IsAscii-decimal, decimal_nonempty, digits_decimal, digits_value-decimal, length-decimal-le}
use Rattle.std.proofs.lemmas.List.{get_or-append-add, get_or_append_left, length-append, length-map, drop-drop}
use Rattle.std.proofs.lemmas.List.Elements.{All-append, All-cons, All-from_get_or, All-head, All-tail, All-weaker}
use Rattle.std.proofs.lemmas.List.Folds.{list_any_at}
use Rattle.std.proofs.lemmas.List.Splits.{slice_split_at}
use Rattle.std.proofs.lemmas.List.Sums.{position_or_len_is}
use Rattle.std.proofs.lemmas.Str.{IsUtf8-append, IsUtf8-encode, IsUtf8-from_ascii, IsUtf8-nil}
use Rattle.std.proofs.Math.Utf8.{encode}
use Rattle.std.proofs.lemmas.Str.Parse.{digit_at}
use Rattle.std.proofs.Math.Seq.{take-append_seam, drop-append_seam, get_or-append_seam}
use Rattle.std.specs.Char.{is_ascii_digit}
use Rattle.std.specs.Fmt.{decimal}
use Rattle.std.specs.Int.{is_in_range, IsInRange}
use Rattle.std.specs.List.{after_first, list_all, list_any, position_or_len}
use Rattle.std.specs.Option.{unwrap_or}
use Rattle.std.specs.Str.{IsUtf8}
use Rattle.std.specs.Str.Lines.{strip_carriage_return}
use Rattle.std.specs.Str.Parse.{digits_value}
use Rattle.dictionaries.specs.WordList.{WordList, IsWordList}
use Rattle.dictionaries.specs.Grammar.{Line, byte_order_mark, entry_lines, without_mark, word_list, is_line_feed, lines, numbered_line, numbered_from, has_entry, is_tab, text_of, is_weight, weight_named, weight_of, fault_of, first_fault_from, dictionary_of}
use Rattle.dictionaries.specs.Written.{IsPlain, written_list, written_line, written_lines}
use Rattle.dictionaries.proofs.LineLemmas.{digits_model}
use Rattle.dictionaries.proofs.DictionaryLemmas.{dictionary_of-list}

-- ---- a weight in decimal

decimal_digits : (weight : ℕ) → weight < 2 ^ 64 → All (λ b. IsInRange 48 57 b) (decimal weight)
decimal_digits weight small =
    let digits = decimal weight in
    let all : list_all is_ascii_digit digits ≡ true = digits_decimal digits_model weight small in
    All-from_get_or (λ b. IsInRange 48 57 b) digits 0 (λ i within. digit_at digits i (digits_model.to digits all) within)

is_weight-decimal : (weight : ℕ) → 1 ≤ weight → weight ≤ 1000000 → is_weight (decimal weight) ≡ true
is_weight-decimal weight positive light =
    let digits = decimal weight in
    let small : weight < 2 ^ 64 = omega arith in
    let some = decimal_nonempty weight small in
    let few : length digits ≤ 7 = length-decimal-le 7 weight (omega arith) (omega arith) small in
    let value = digits_value-decimal digits_model weight small in
    let long : is_in_range 1 7 (length digits) ≡ true = and_from _ _ (le-leb 1 (length digits) (omega arith)) (le-leb (length digits) 7 few) in
    let range : is_in_range 1 1000000 (digits_value 10 digits) ≡ true =
    and_from _ _ (le-leb 1 (digits_value 10 digits) (omega arith)) (le-leb (digits_value 10 digits) 1000000 (omega arith)) in
    and_from _ _ (and_from _ _ long (digits_decimal digits_model weight small)) range

-- ---- a written line

first_tab : (entry digits : List ℕ) → IsPlain entry → position_or_len is_tab (entry ++ 9 ∷ digits) ≡ length entry
first_tab entry digits plain =
    let line = entry ++ 9 ∷ digits in
    position_or_len_is is_tab line (length entry) 0 (omega (arith, length-append entry (9 ∷ digits)))
    (λ k before.
    let same = get_or_append_left entry (9 ∷ digits) 0 k before in
    ne_eqb (get_or line k 0) 9 (rw same (plain k 0 before).0))
    (λ _. eq-eqb (get_or line (length entry) 0) 9 (get_or-append_seam entry 9 digits 0))

text_of-written_line : (entry : List ℕ) (weight : ℕ) → IsPlain entry → text_of (written_line entry weight) ≡ entry
text_of-written_line entry weight plain =
    ap (λ (n : ℕ). take n (written_line entry weight)) (first_tab entry (decimal weight) plain) ∙ take-append_seam entry (9 ∷ decimal weight)

weight_of-written_line : (entry : List ℕ) (weight : ℕ) → IsPlain entry → 1 ≤ weight → weight ≤ 1000000 →
    weight_of (written_line entry weight) ≡ Some weight
weight_of-written_line entry weight plain positive light =
    let digits = decimal weight in
    let line = written_line entry weight in
    let small : weight < 2 ^ 64 = omega arith in
    let has_tab : list_any is_tab line ≡ true =
    list_any_at is_tab line (length entry) 0 (omega (arith, length-append entry (9 ∷ digits)))
    (eq-eqb (get_or line (length entry) 0) 9 (get_or-append_seam entry 9 digits 0)) in
    let behind : after_first is_tab line ≡ digits =
    ap (λ (n : ℕ). drop (n + 1) line) (first_tab entry digits plain)
    ∙ sym (drop-drop 1 (length entry) line) ∙ ap (drop 1) (drop-append_seam entry (9 ∷ digits)) in
    ap (λ (b : Bool). if b then weight_named (after_first is_tab line) else Some 1) has_tab
    ∙ ap weight_named behind
    ∙ ap (λ (b : Bool). if b then Some (digits_value 10 digits) else None) (is_weight-decimal weight positive light)
    ∙ ap Some (digits_value-decimal digits_model weight small)

-- it ends with a digit
strip_carriage_return-written_line : (entry : List ℕ) (weight : ℕ) → weight < 2 ^ 64 →
    strip_carriage_return (written_line entry weight) ≡ written_line entry weight
strip_carriage_return-written_line entry weight small =
    let digits = decimal weight in
    let line = written_line entry weight in
    let some = decimal_nonempty weight small in
    let at : length line - 1 ≡ length entry + suc (length digits - 1) = omega (arith, length-append entry (9 ∷ digits)) in
    let last : get_or line (length line - 1) 0 ≡ get_or digits (length digits - 1) 0 =
    ap (λ (n : ℕ). get_or line n 0) at ∙ get_or-append-add entry (9 ∷ digits) (suc (length digits - 1)) 0 in
    let digit = decimal_digits weight small (length digits - 1) 0 (omega arith) in
    ap (λ (b : Bool). cond b (take (length line - 1) line) line) (ne_eqb (get_or line (length line - 1) 0) 13 (λ same. omega (arith, digit.1)))

no_line_feed : (entry : List ℕ) (weight : ℕ) → weight < 2 ^ 64 → IsPlain entry → All (λ b. is_line_feed b ≡ false) (written_line entry weight)
no_line_feed entry weight small plain =
    let P : ℕ → Type 0 = λ b. is_line_feed b ≡ false in
    All-append P entry (9 ∷ decimal weight)
    (All-weaker (λ b. (b ≢ 9) × (b ≢ 10)) P (λ b apart. ne_eqb b 10 apart.1) entry plain)
    (All-cons P 9 (decimal weight) refl
    (All-weaker (λ b. IsInRange 48 57 b) P (λ b digit. ne_eqb b 10 (λ same. omega (arith, digit.0))) (decimal weight) (decimal_digits weight small)))

-- ---- written lines

lines-written_lines : (entry : List ℕ) (weight : ℕ) (entries : List (List ℕ)) (weights : List ℕ) → weight < 2 ^ 64 → IsPlain entry →
    lines (written_lines (entry ∷ entries) (weight ∷ weights)) ≡ written_line entry weight ∷ lines (written_lines entries weights)
unfolding written_lines
lines-written_lines entry weight entries weights small plain =
    let line = written_line entry weight in
    let rest = written_lines entries weights in
    ap (map strip_carriage_return) (slice_split_at is_line_feed line 10 rest (no_line_feed entry weight small plain) refl)
    ∙ ap (λ (l : List ℕ). l ∷ lines rest) (strip_carriage_return-written_line entry weight small)

-- the lines with an entry, numbered from this number on
abbrev filled_from : ℕ → List (List ℕ) → List ℕ → List Line
filled_from number entries weights = filter has_entry (numbered_from number (lines (written_lines entries weights)))

filled_from-cons : (number : ℕ) (entry : List ℕ) (weight : ℕ) (entries : List (List ℕ)) (weights : List ℕ) → weight < 2 ^ 64 → IsPlain entry →
    filled_from number (entry ∷ entries) (weight ∷ weights)
    ≡ numbered_line number (written_line entry weight) ∷ filled_from (number + 1) entries weights
filled_from-cons number entry weight entries weights small plain =
    let line = written_line entry weight in
    let rest = filled_from (number + 1) entries weights in
    let some : (length line == 0) ≡ false = ne_eqb (length line) 0 (λ none. omega (arith, length-append entry (9 ∷ decimal weight))) in
    ap (λ (ls : List (List ℕ)). filter has_entry (numbered_from number ls)) (lines-written_lines entry weight entries weights small plain)
    ∙ ap (λ (b : Bool). cond (not b) (numbered_line number line ∷ rest) rest) some

-- entries that can be written, with weights for each
record AreFit (entries : List (List ℕ)) (weights : List ℕ) : Type 0 where
  short : All (λ entry. length entry ≤ 255) entries
  utf8 : All IsUtf8 entries
  plain : All IsPlain entries
  paired : length weights ≡ length entries
  positive : All (λ weight. 1 ≤ weight) weights
  light : All (λ weight. weight ≤ 1000000) weights

AreFit-tail : (entry : List ℕ) (weight : ℕ) (entries : List (List ℕ)) (weights : List ℕ) → AreFit (entry ∷ entries) (weight ∷ weights) →
    AreFit entries weights
AreFit-tail entry weight entries weights fit = record {
  short = All-tail (λ e. length e ≤ 255) entry entries fit.short;
  utf8 = All-tail IsUtf8 entry entries fit.utf8;
  plain = All-tail IsPlain entry entries fit.plain;
  paired = omega (arith, fit.paired);
  positive = All-tail (λ w. 1 ≤ w) weight weights fit.positive;
  light = All-tail (λ w. w ≤ 1000000) weight weights fit.light;
}

-- the lines have no fault, and are read as what was written
record AreReadAs (entry : ℕ) (read : List Line) (entries : List (List ℕ)) (weights : List ℕ) : Type 0 where
  right : first_fault_from entry read ≡ None
  texts : map (λ line. text_of line.bytes) read ≡ entries
  weighed : map (λ line. unwrap_or (weight_of line.bytes) 0) read ≡ weights

no_fault : (place number : ℕ) (entry : List ℕ) (weight : ℕ) → IsPlain entry → length entry ≤ 255 → 1 ≤ weight → weight ≤ 1000000 →
    place ≤ 1000000 → fault_of place number (written_line entry weight) ≡ None
no_fault place number entry weight plain short positive light few =
    rw (text_of-written_line entry weight plain, weight_of-written_line entry weight plain positive light, le-ltb 255 (length entry) short, le-ltb 1000000 place few) refl

AreReadAs-written : (place number : ℕ) (entries : List (List ℕ)) (weights : List ℕ) → AreFit entries weights →
    place + length entries ≤ 1000001 → AreReadAs place (filled_from number entries weights) entries weights
unfolding written_lines
AreReadAs-written place number [] [] fit few = record { right = refl; texts = refl; weighed = refl }
AreReadAs-written place number [] (weight ∷ weights) fit few = absurd (omega (arith, fit.paired))
AreReadAs-written place number (entry ∷ entries) [] fit few = absurd (omega (arith, fit.paired))
AreReadAs-written place number (entry ∷ entries) (weight ∷ weights) fit few =
    let plain = All-head IsPlain entry entries fit.plain in
    let short = All-head (λ e. length e ≤ 255) entry entries fit.short in
    let positive : 1 ≤ weight = All-head (λ w. 1 ≤ w) weight weights fit.positive in
    let light : weight ≤ 1000000 = All-head (λ w. w ≤ 1000000) weight weights fit.light in
    let first = filled_from-cons number entry weight entries weights (omega arith) plain in
    let rest = AreReadAs-written (place + 1) (number + 1) entries weights (AreFit-tail entry weight entries weights fit) (omega arith) in
    let fine = no_fault place number entry weight plain short positive light (omega arith) in
    rw first
    (record {
      right = rw fine rest.right;
      texts = rw (text_of-written_line entry weight plain, rest.texts) refl;
      weighed = rw (weight_of-written_line entry weight plain positive light, rest.weighed) refl;
    })

-- ---- written bytes

ascii_alone : (byte i : ℕ) → byte < 128 → get_or (byte ∷ []) i 0 < 128
ascii_alone byte zero low = low
ascii_alone byte (suc i) low = lit< tt

IsUtf8-cons : (byte : ℕ) (text : List ℕ) → byte < 128 → IsUtf8 text → IsUtf8 (byte ∷ text)
IsUtf8-cons byte text low utf8 =
    IsUtf8-append (byte ∷ []) text (IsUtf8-from_ascii (byte ∷ []) (λ i. ascii_alone byte i low)) utf8

IsUtf8-written_lines : (entries : List (List ℕ)) (weights : List ℕ) → AreFit entries weights → IsUtf8 (written_lines entries weights)
unfolding written_lines
IsUtf8-written_lines [] weights fit = IsUtf8-nil
IsUtf8-written_lines (entry ∷ entries) [] fit = IsUtf8-nil
IsUtf8-written_lines (entry ∷ entries) (weight ∷ weights) fit =
    let light : weight ≤ 1000000 = All-head (λ w. w ≤ 1000000) weight weights fit.light in
    let rest = written_lines entries weights in
    let digits : IsUtf8 (decimal weight) = IsUtf8-from_ascii (decimal weight) (IsAscii-decimal weight (omega arith)) in
    let line : IsUtf8 (written_line entry weight) =
    IsUtf8-append entry (9 ∷ decimal weight) (All-head IsUtf8 entry entries fit.utf8) (IsUtf8-cons 9 (decimal weight) (lit< tt) digits) in
    IsUtf8-append (written_line entry weight) (10 ∷ rest) line
    (IsUtf8-cons 10 rest (lit< tt) (IsUtf8-written_lines entries weights (AreFit-tail entry weight entries weights fit)))

IsUtf8-byte_order_mark : IsUtf8 byte_order_mark
unfolding encode
IsUtf8-byte_order_mark = IsUtf8-encode 65279 refl

pub dictionary_of-written_list : (list : WordList) → IsWordList list → All IsPlain list.entries → dictionary_of (written_list list) ≡ Ok list
dictionary_of-written_list list sound plain =
    let rest = written_lines list.entries list.weights in
    let fit : AreFit list.entries list.weights = record {
      short = sound.short;
      utf8 = sound.utf8;
      plain = plain;
      paired = sound.paired;
      positive = sound.positive;
      light = sound.light;
    } in
    let utf8 : IsUtf8 (written_list list) = IsUtf8-append byte_order_mark rest IsUtf8-byte_order_mark (IsUtf8-written_lines list.entries list.weights fit) in
    let read = AreReadAs-written 1 1 list.entries list.weights fit (omega (arith, sound.few)) in
    let lines = entry_lines (without_mark (written_list list)) in
    let same : word_list lines ≡ list = rw (read.texts, read.weighed) refl in
    let some : 0 < length lines =
    omega (arith, sound.some, ap (λ (l : WordList). length l.entries) same, length-map lines (λ (l : Line). text_of l.bytes)) in
    dictionary_of-list (written_list list) utf8 read.right some ∙ ap Ok same
