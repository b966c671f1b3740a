-- The dictionary of bytes, case by case.
use Rattle.std.proofs.Common.{◌≡◌, ℕ, ◌<◌, Bool, List, [], ◌∷◌, length, Option, Some, None, Result, Ok, Err, IsOk, refl, ap, ◌∙◌, arith, if◌then◌else◌}
use Rattle.std.proofs.lemmas.Bool.{false_from_ne_true}
use Rattle.std.proofs.lemmas.Str.{IsUtf8-from_is_utf8, is_utf8-from_IsUtf8}
use Rattle.std.specs.Str.{IsUtf8, is_utf8}
use Rattle.std.specs.Str.Lossy.{utf8_valid_len}
use Rattle.dictionaries.specs.WordList.{WordList}
use Rattle.dictionaries.specs.Grammar.{Line, without_mark, entry_lines, first_fault_from, word_list, word_list_unless_fault, dictionary_of_lines, dictionary_of}
use Rattle.dictionaries.specs.declared.fault.DictFault.{DictFault}
use Rattle.dictionaries.specs.declared.fault.DictFault.TheVariants.{NotUtf8, Empty}

abbrev answer : List ℕ → Bool → Result WordList DictFault
answer bytes text = if text then dictionary_of_lines (entry_lines (without_mark bytes)) else Err (NotUtf8 (utf8_valid_len bytes))

pub dictionary_of-no_text : (bytes : List ℕ) → (IsUtf8 bytes → ⊥) → dictionary_of bytes ≡ Err (NotUtf8 (utf8_valid_len bytes))
unfolding dictionary_of
dictionary_of-no_text bytes other =
    ap (answer bytes) (false_from_ne_true (is_utf8 bytes) (λ text. other (IsUtf8-from_is_utf8 bytes text)))

dictionary_of-text : (bytes : List ℕ) → IsUtf8 bytes → dictionary_of bytes ≡ dictionary_of_lines (entry_lines (without_mark bytes))
unfolding dictionary_of
dictionary_of-text bytes text = ap (answer bytes) (is_utf8-from_IsUtf8 bytes text)

-- a line has a fault
pub dictionary_of-fault : (bytes : List ℕ) (fault : DictFault) → IsUtf8 bytes →
    first_fault_from 1 (entry_lines (without_mark bytes)) ≡ Some fault → dictionary_of bytes ≡ Err fault
dictionary_of-fault bytes fault text first =
    dictionary_of-text bytes text ∙ ap (λ (o : Option DictFault). word_list_unless_fault o (entry_lines (without_mark bytes))) first

word_list_unless_fault-list : (lines : List Line) → 0 < length lines → word_list_unless_fault None lines ≡ Ok (word_list lines)
word_list_unless_fault-list [] some = absurd (omega arith)
word_list_unless_fault-list (line ∷ others) some = refl

word_list_unless_fault-empty : (lines : List Line) → length lines ≡ 0 → word_list_unless_fault None lines ≡ Err Empty
word_list_unless_fault-empty [] none = refl
word_list_unless_fault-empty (line ∷ others) none = absurd (omega arith)

-- no line has a fault, and there is an entry
pub dictionary_of-list : (bytes : List ℕ) → IsUtf8 bytes →
    first_fault_from 1 (entry_lines (without_mark bytes)) ≡ None → 0 < length (entry_lines (without_mark bytes)) →
    dictionary_of bytes ≡ Ok (word_list (entry_lines (without_mark bytes)))
dictionary_of-list bytes text right some =
    let lines = entry_lines (without_mark bytes) in
    dictionary_of-text bytes text ∙ ap (λ (o : Option DictFault). word_list_unless_fault o lines) right ∙ word_list_unless_fault-list lines some

is_ok-list : (given : Result WordList DictFault) (list : WordList) → given ≡ Ok list → IsOk given
is_ok-list given list is = rw is refl

-- so it is a dictionary
pub dictionary_of-is_ok : (bytes : List ℕ) → IsUtf8 bytes →
    first_fault_from 1 (entry_lines (without_mark bytes)) ≡ None → 0 < length (entry_lines (without_mark bytes)) → IsOk (dictionary_of bytes)
dictionary_of-is_ok bytes text right some = is_ok-list (dictionary_of bytes) _ (dictionary_of-list bytes text right some)

-- or there is none
pub dictionary_of-empty : (bytes : List ℕ) → IsUtf8 bytes →
    first_fault_from 1 (entry_lines (without_mark bytes)) ≡ None → length (entry_lines (without_mark bytes)) ≡ 0 → dictionary_of bytes ≡ Err Empty
dictionary_of-empty bytes text right none =
    let lines = entry_lines (without_mark bytes) in
    dictionary_of-text bytes text ∙ ap (λ (o : Option DictFault). word_list_unless_fault o lines) right ∙ word_list_unless_fault-empty lines none
