-- What is read is within its bounds.
use Rattle.std.proofs.Common.{◌≡◌, ℕ, ◌+◌, ◌≤◌, ◌&&◌, Bool, true, false, List, [], ◌∷◌, map, length, Option, Some, None, Result, Ok, Err, All, refl, ap, sym, ◌∙◌, subst, inl, inr, arith, nat_le, nat_lt, if◌then◌else◌}
use Rattle.std.proofs.lemmas.Bool.{cases_Bool, leb-true, ltb-false, and_parts}
use Rattle.std.proofs.lemmas.List.{length-map}
use Rattle.std.proofs.lemmas.List.Elements.{All-nil, All-cons, All-map}
use Rattle.std.proofs.lemmas.List.Sums.{sum_by-le}
use Rattle.std.proofs.lemmas.Str.{IsUtf8-from_is_utf8}
use Rattle.std.specs.Char.{is_ascii_digit}
use Rattle.std.specs.Int.{is_in_range}
use Rattle.std.specs.List.{after_first, list_all, list_any}
use Rattle.std.specs.Option.{is_none, option_or, unwrap_or}
use Rattle.std.specs.Str.{IsUtf8, is_utf8}
use Rattle.std.specs.Str.Lossy.{utf8_valid_len}
use Rattle.std.specs.Str.Parse.{digits_value}
use Rattle.dictionaries.specs.WordList.{WordList, IsWordList}
use Rattle.dictionaries.specs.Grammar.{Line, without_mark, entry_lines, is_tab, text_of, is_weight, weight_named, weight_of, fault_of, first_fault_from, word_list, word_list_unless_fault, dictionary_of_lines, dictionary_of}
use Rattle.dictionaries.specs.declared.fault.DictFault.{DictFault}
use Rattle.dictionaries.specs.declared.fault.DictFault.TheVariants.{NotUtf8, LongEntry, BadWeight, TooMany}
use Rattle.dictionaries.proofs.TextLemmas.{All-text_of}

-- a weight is from 1 to 1,000,000
abbrev IsInBounds : ℕ → Type 0
IsInBounds weight = (1 ≤ weight) × (weight ≤ 1000000)

weight_named-bounds : (digits : List ℕ) (weight : ℕ) → weight_named digits ≡ Some weight → IsInBounds weight
weight_named-bounds digits weight named =
    let value = digits_value 10 digits in
    elim (cases_Bool (is_weight digits)) [
      | inl is ↦
          let same : Some value ≡ Some weight = sym (ap (λ (b : Bool). if b then Some value else None) is) ∙ named in
          let value-is : value ≡ weight = cc in
          let range : is_in_range 1 1000000 value ≡ true =
          (and_parts (is_in_range 1 7 (length digits) && list_all is_ascii_digit digits) (is_in_range 1 1000000 value) is).1 in
          let ends = and_parts (nat_le 1 value) (nat_le value 1000000) range in
          (omega (arith, leb-true 1 value ends.0), omega (arith, leb-true value 1000000 ends.1))
      | inr other ↦
          let none : None ≡ Some weight = sym (ap (λ (b : Bool). if b then Some value else None) other) ∙ named in
          cc
    ]

weight_of-bounds : (line : List ℕ) (weight : ℕ) → weight_of line ≡ Some weight → IsInBounds weight
weight_of-bounds line weight named =
    let behind = weight_named (after_first is_tab line) in
    elim (cases_Bool (list_any is_tab line)) [
      | inl divided ↦
          weight_named-bounds (after_first is_tab line) weight
          (sym (ap (λ (b : Bool). if b then behind else Some 1) divided) ∙ named)
      | inr whole ↦
          let one : Some 1 ≡ Some weight = sym (ap (λ (b : Bool). if b then behind else Some 1) whole) ∙ named in
          let weight-is : 1 ≡ weight = cc in
          (omega arith, omega arith)
    ]

unwrapped : (weight : Option ℕ) → is_none weight ≡ false → ((w : ℕ) → weight ≡ Some w → IsInBounds w) → IsInBounds (unwrap_or weight 0)
unwrapped None some bounds = cc
unwrapped (Some w) some bounds = bounds w refl

-- nothing is wrong where no test tells a fault
no_test : (long bad many : Bool) (x y z : DictFault) →
    (if long then Some x else (if bad then Some y else (if many then Some z else None))) ≡ None →
    (long ≡ false) × (bad ≡ false) × (many ≡ false)
no_test true bad many x y z none = cc
no_test false true many x y z none = cc
no_test false false true x y z none = cc
no_test false false false x y z none = (refl, refl, refl)

-- a line without a fault, given the number of its entry
record IsFine (entry : ℕ) (line : Line) : Type 0 where
  short : length (text_of line.bytes) ≤ 255
  weighs : IsInBounds (unwrap_or (weight_of line.bytes) 0)
  few : entry ≤ 1000000

IsFine-from_fault_of : (entry : ℕ) (line : Line) → fault_of entry line.number line.bytes ≡ None → IsFine entry line
IsFine-from_fault_of entry line none =
    let text = text_of line.bytes in
    let tests =
    no_test (nat_lt 255 (length text)) (is_none (weight_of line.bytes)) (nat_lt 1000000 entry)
    (LongEntry line.number) (BadWeight line.number) (TooMany line.number) none in
    record {
      short = ltb-false 255 (length text) tests.0;
      weighs = unwrapped (weight_of line.bytes) tests.1 (weight_of-bounds line.bytes);
      few = ltb-false 1000000 entry tests.2;
    }

option_or-parts : {A : Type 0} (x y : Option A) → option_or x y ≡ None → (x ≡ None) × (y ≡ None)
option_or-parts None y none = (refl, none)
option_or-parts (Some x) y none = cc

first_fault_from-parts : (entry : ℕ) (line : Line) (others : List Line) → first_fault_from entry (line ∷ others) ≡ None →
    IsFine entry line × (first_fault_from (entry + 1) others ≡ None)
first_fault_from-parts entry line others none =
    let parts = option_or-parts (fault_of entry line.number line.bytes) (first_fault_from (entry + 1) others) none in
    (IsFine-from_fault_of entry line parts.0, parts.1)

-- what holds of a line that is fine holds of each
All-fine : (P : Line → Type 0) → ((entry : ℕ) (line : Line) → IsFine entry line → P line) → (entry : ℕ) (lines : List Line) →
    first_fault_from entry lines ≡ None → All P lines
All-fine P gives entry [] none = All-nil P
All-fine P gives entry (line ∷ others) none =
    let parts = first_fault_from-parts entry line others none in
    All-cons P line others (gives entry line parts.0) (All-fine P gives (entry + 1) others parts.1)

few_lines : (entry : ℕ) (line : Line) (others : List Line) → first_fault_from entry (line ∷ others) ≡ None →
    entry + length others ≤ 1000000
few_lines entry line [] none =
    let fine : IsFine entry line = (first_fault_from-parts entry line [] none).0 in omega (arith, fine.few)
few_lines entry line (next ∷ others) none =
    omega (arith, few_lines (entry + 1) next others (first_fault_from-parts entry line (next ∷ others) none).1)

IsWordList-word_list : (line : Line) (others : List Line) → first_fault_from 1 (line ∷ others) ≡ None →
    All IsUtf8 (map (λ l. text_of l.bytes) (line ∷ others)) → IsWordList (word_list (line ∷ others))
IsWordList-word_list line others none utf8 =
    let lines = line ∷ others in
    let text : Line → List ℕ = λ l. text_of l.bytes in
    let weight : Line → ℕ = λ l. unwrap_or (weight_of l.bytes) 0 in
    let long = length-map lines text in
    let weights_long = length-map lines weight in
    let few : length (map text lines) ≤ 1000000 = omega (arith, few_lines 1 line others none) in
    let positive : All (λ w. 1 ≤ w) (map weight lines) =
    All-map (λ w. 1 ≤ w) weight lines (All-fine (λ l. 1 ≤ weight l) (λ _ _ fine. fine.weighs.0) 1 lines none) in
    let light : All (λ w. w ≤ 1000000) (map weight lines) =
    All-map (λ w. w ≤ 1000000) weight lines (All-fine (λ l. weight l ≤ 1000000) (λ _ _ fine. fine.weighs.1) 1 lines none) in
    record {
      some = omega arith;
      few = few;
      short = All-map (λ entry. length entry ≤ 255) text lines (All-fine (λ l. length (text l) ≤ 255) (λ _ _ fine. fine.short) 1 lines none);
      utf8 = utf8;
      paired = weights_long ∙ sym long;
      positive = positive;
      light = light;
      small = omega (arith, sum_by-le (λ w. w) 1000000 (map weight lines) light);
    }

IsWordList-word_list_unless_fault : (fault : Option DictFault) (lines : List Line) (list : WordList) → first_fault_from 1 lines ≡ fault →
    All IsUtf8 (map (λ l. text_of l.bytes) lines) → word_list_unless_fault fault lines ≡ Ok list → IsWordList list
IsWordList-word_list_unless_fault (Some fault) lines list first utf8 read = cc
IsWordList-word_list_unless_fault None [] list first utf8 read = cc
IsWordList-word_list_unless_fault None (line ∷ others) list first utf8 read =
    let list-is : word_list (line ∷ others) ≡ list = cc in
    subst IsWordList list-is (IsWordList-word_list line others first utf8)

pub IsWordList-dictionary_of : (bytes : List ℕ) (list : WordList) → dictionary_of bytes ≡ Ok list → IsWordList list
unfolding dictionary_of
IsWordList-dictionary_of bytes list read =
    let lines = entry_lines (without_mark bytes) in
    let at : Bool → Result WordList DictFault = λ b. if b then dictionary_of_lines lines else Err (NotUtf8 (utf8_valid_len bytes)) in
    elim (cases_Bool (is_utf8 bytes)) [
      | inl text ↦
          IsWordList-word_list_unless_fault (first_fault_from 1 lines) lines list refl (All-text_of bytes (IsUtf8-from_is_utf8 bytes text))
          (sym (ap at text) ∙ read)
      | inr other ↦
          let refused : Err (NotUtf8 (utf8_valid_len bytes)) ≡ Ok list = sym (ap at other) ∙ read in
          cc
    ]
