-- The parts of a text are texts: it is cut at bytes that are characters of their own.
use Rattle.std.proofs.Common.{◌≡◌, ℕ, zero, suc, ◌+◌, ◌-◌, ◌<◌, ◌≤◌, ◌==◌, Bool, false, not, cond, eqb, List, [], ◌∷◌, ◌++◌, map, length, get_or, take, drop, All, ap, sym, ◌∙◌, subst, inl, inr, arith, lit<}
use Rattle.std.proofs.Math.Utf8.{encode}
use Rattle.std.proofs.lemmas.Bool.{cases_Bool, cases_lt, eqb-true, not-false, not-true}
use Rattle.std.proofs.lemmas.List.{take_all, take-append-drop, length-drop}
use Rattle.std.proofs.lemmas.List.Elements.{All-nil, All-cons, All-head, All-tail, All-map, All-filter, All-weaker}
use Rattle.std.proofs.lemmas.List.Splits.{slice_split_first, slice_split_none}
use Rattle.std.proofs.lemmas.List.Sums.{prefix_len_stops, prefix_len_passes}
use Rattle.std.proofs.lemmas.Slice.Eq.{bytes_eq-Decides}
use Rattle.std.proofs.lemmas.Str.{IsUtf8-take, IsUtf8-drop, IsUtf8-past_char, IsCharBoundary-before_ascii, IsCharBoundary-after_ascii}
use Rattle.std.specs.List.{before_first, after_first, position_or_len, slice_split, starts_with}
use Rattle.std.specs.Str.{IsUtf8}
use Rattle.std.specs.Str.Lines.{strip_carriage_return}
use Rattle.dictionaries.specs.Grammar.{byte_order_mark, without_mark, lines, is_line_feed, numbered_line, numbered_from, has_entry, entry_lines, text_of}

-- the byte at which a text is cut
cut_at : (c : ℕ) (text : List ℕ) → position_or_len (λ b. b == c) text < length text →
    get_or text (position_or_len (λ b. b == c) text) 0 ≡ c
cut_at c text found =
    let place = position_or_len (λ b. b == c) text in
    eqb-true (get_or text place 0) c (not-false (eqb (get_or text place 0) c) (prefix_len_stops (λ b. not (b == c)) text 0 found))

IsUtf8-before_first : (c : ℕ) (text : List ℕ) → c < 128 → IsUtf8 text → IsUtf8 (before_first (λ b. b == c) text)
IsUtf8-before_first c text ascii utf8 =
    let place = position_or_len (λ b. b == c) text in
    elim (cases_lt place (length text)) [
      | inl found ↦
          let low : get_or text place 0 < 128 = omega (arith, cut_at c text found) in
          IsUtf8-take text place utf8 (IsCharBoundary-before_ascii text place found low)
      | inr none ↦ rw (take_all place text none) utf8
    ]

IsUtf8-after_first : (c : ℕ) (text : List ℕ) → c < 128 → IsUtf8 text → position_or_len (λ b. b == c) text < length text →
    IsUtf8 (after_first (λ b. b == c) text)
IsUtf8-after_first c text ascii utf8 found =
    let place = position_or_len (λ b. b == c) text in
    let low : get_or text place 0 < 128 = omega (arith, cut_at c text found) in
    IsUtf8-drop text (place + 1) utf8 (IsCharBoundary-after_ascii text place utf8 found low)

-- where no byte is the first to pass, each fails
All-fail : (p : ℕ → Bool) (text : List ℕ) → length text ≤ position_or_len p text → All (λ b. p b ≡ false) text
All-fail p text none k d within =
    not-true (p (get_or text k d)) (prefix_len_passes (λ b. not (p b)) text k d (omega arith))

-- of a text of at most so many bytes
All-parts_within : (most c : ℕ) (text : List ℕ) → length text ≤ most → c < 128 → IsUtf8 text → All IsUtf8 (slice_split (λ b. b == c) text)
All-parts_within zero c text short ascii utf8 =
    let p : ℕ → Bool = λ b. b == c in
    rw (slice_split_none p text (All-fail p text (omega arith))) (All-cons IsUtf8 text [] utf8 (All-nil IsUtf8))
All-parts_within (suc most) c text short ascii utf8 =
    let p : ℕ → Bool = λ b. b == c in
    elim (cases_lt (position_or_len p text) (length text)) [
      | inl found ↦
          let shorter : length (after_first p text) ≤ most = omega (arith, length-drop (position_or_len p text + 1) text) in
          rw (slice_split_first p text 0 found)
          (All-cons IsUtf8 (before_first p text) (slice_split p (after_first p text)) (IsUtf8-before_first c text ascii utf8)
          (All-parts_within most c (after_first p text) shorter ascii (IsUtf8-after_first c text ascii utf8 found)))
      | inr none ↦ rw (slice_split_none p text (All-fail p text none)) (All-cons IsUtf8 text [] utf8 (All-nil IsUtf8))
    ]

IsUtf8-strip_carriage_return : (line : List ℕ) → IsUtf8 line → IsUtf8 (strip_carriage_return line)
IsUtf8-strip_carriage_return [] utf8 = utf8
IsUtf8-strip_carriage_return (byte ∷ others) utf8 =
    let line = byte ∷ others in
    let last = length line - 1 in
    let P : Bool → Type 0 = λ b. IsUtf8 (cond b (take last line) line) in
    elim (cases_Bool (eqb (get_or line last 0) 13)) [
      | inl returns ↦
          let low : get_or line last 0 < 128 = omega (arith, eqb-true (get_or line last 0) 13 returns) in
          subst P (sym returns) (IsUtf8-take line last utf8 (IsCharBoundary-before_ascii line last (omega arith) low))
      | inr goes_on ↦ subst P (sym goes_on) utf8
    ]

IsUtf8-without_mark : (bytes : List ℕ) → IsUtf8 bytes → IsUtf8 (without_mark bytes)
unfolding encode
IsUtf8-without_mark bytes utf8 =
    let P : Bool → Type 0 = λ b. IsUtf8 (cond b (drop 3 bytes) bytes) in
    elim (cases_Bool (starts_with ◌==◌ bytes byte_order_mark)) [
      | inl marked ↦
          let front : byte_order_mark ≡ take 3 bytes = (bytes_eq-Decides byte_order_mark (take 3 bytes)).0 marked in
          let whole : bytes ≡ encode 65279 ++ drop 3 bytes =
          sym (take-append-drop 3 bytes) ∙ ap (λ (xs : List ℕ). xs ++ drop 3 bytes) (sym front) in
          subst P (sym marked) (IsUtf8-past_char bytes (drop 3 bytes) 65279 utf8 whole)
      | inr plain ↦ subst P (sym plain) utf8
    ]

All-numbered_from : (P : List ℕ → Type 0) (number : ℕ) (lines : List (List ℕ)) → All P lines →
    All (λ line. P line.bytes) (numbered_from number lines)
All-numbered_from P number [] all = All-nil (λ line. P line.bytes)
All-numbered_from P number (line ∷ others) all =
    All-cons (λ l. P l.bytes) (numbered_line number line) (numbered_from (number + 1) others)
    (All-head P line others all) (All-numbered_from P (number + 1) others (All-tail P line others all))

-- the texts of a text's lines
pub All-text_of : (bytes : List ℕ) → IsUtf8 bytes → All IsUtf8 (map (λ line. text_of line.bytes) (entry_lines (without_mark bytes)))
All-text_of bytes utf8 =
    let text = without_mark bytes in
    let parts = slice_split is_line_feed text in
    let each_part : All IsUtf8 parts = All-parts_within (length text) 10 text (omega arith) (lit< tt) (IsUtf8-without_mark bytes utf8) in
    let each_line : All IsUtf8 (lines text) =
    All-map IsUtf8 strip_carriage_return parts
    (All-weaker IsUtf8 (λ part. IsUtf8 (strip_carriage_return part)) IsUtf8-strip_carriage_return parts each_part) in
    let numbered = numbered_from 1 (lines text) in
    let each_filled =
    All-filter has_entry (λ line. IsUtf8 line.bytes) numbered (All-numbered_from IsUtf8 1 (lines text) each_line) in
    All-map IsUtf8 (λ line. text_of line.bytes) (entry_lines text)
    (All-weaker (λ line. IsUtf8 line.bytes) (λ line. IsUtf8 (text_of line.bytes))
    (λ line utf8. IsUtf8-before_first 9 line.bytes (lit< tt) utf8) (entry_lines text) each_filled)
