-- The grammar of word lists: which bytes stand for which entries and weights, and what is wrong with all other bytes.
use Rattle.std.specs.Prelude.{ℕ, ◌+◌, List, [], ◌∷◌, Bool, not, ◌&&◌, ◌==◌, nat_lt, filter, length, map, drop, Option, Some, None, is_none, unwrap_or, Result, Ok, Err, if◌then◌else◌}
use Rattle.std.specs.Char.{is_ascii_digit}
use Rattle.std.specs.Int.{is_in_range}
use Rattle.std.specs.List.{after_first, before_first, list_all, list_any, slice_split, starts_with}
use Rattle.std.specs.Option.{option_or}
use Rattle.std.specs.Str.{is_utf8}
use Rattle.std.specs.Str.Lines.{strip_carriage_return}
use Rattle.std.specs.Str.Lossy.{utf8_valid_len}
use Rattle.std.specs.Str.Parse.{digits_value}
use Rattle.dictionaries.specs.WordList.{WordList}
use Rattle.dictionaries.specs.declared.fault.DictFault.{DictFault}
use Rattle.dictionaries.specs.declared.fault.DictFault.TheVariants.{NotUtf8, LongEntry, BadWeight, TooMany, Empty}

-- ---- the lines

abbrev pub byte_order_mark : List ℕ
byte_order_mark = 0xEF ∷ 0xBB ∷ 0xBF ∷ []

-- the bytes without a byte order mark at their beginning
abbrev pub without_mark : List ℕ → List ℕ
without_mark bytes = if starts_with ◌==◌ bytes byte_order_mark then drop 3 bytes else bytes

abbrev pub is_line_feed : ℕ → Bool
is_line_feed byte = byte == 10

-- the lines: each ends with a line feed or the end of the bytes, and one carriage return before that end is no part of it
abbrev pub lines : List ℕ → List (List ℕ)
lines bytes = map strip_carriage_return (slice_split is_line_feed bytes)

-- a line with its number
pub record Line : Type 0 where
  pub number : ℕ
  pub bytes : List ℕ

abbrev pub numbered_line : ℕ → List ℕ → Line
numbered_line number line = record { number = number; bytes = line }

-- the lines with their numbers, given that of the first
abbrev pub numbered_from : ℕ → List (List ℕ) → List Line
numbered_from number [] = []
numbered_from number (line ∷ others) = numbered_line number line ∷ numbered_from (number + 1) others

-- an empty line has no entry
abbrev pub has_entry : Line → Bool
has_entry line = not (length line.bytes == 0)

-- the lines with an entry, numbered from 1 among all lines
abbrev pub entry_lines : List ℕ → List Line
entry_lines bytes = filter has_entry (numbered_from 1 (lines bytes))

-- ---- what a line says

abbrev pub is_tab : ℕ → Bool
is_tab byte = byte == 9

-- the text: what stands before the first tab, and the whole line where there is none
abbrev pub text_of : List ℕ → List ℕ
text_of line = before_first is_tab line

-- one to seven decimal digits with a value from 1 to 1,000,000
abbrev pub is_weight : List ℕ → Bool
is_weight digits =
    is_in_range 1 7 (length digits)
    && list_all is_ascii_digit digits
    && is_in_range 1 1000000 (digits_value 10 digits)

-- the weight that these bytes name
abbrev pub weight_named : List ℕ → Option ℕ
weight_named digits = if is_weight digits then Some (digits_value 10 digits) else None

-- the weight: the one that is named after the first tab, and 1 where there is no tab
abbrev pub weight_of : List ℕ → Option ℕ
weight_of line = if list_any is_tab line then weight_named (after_first is_tab line) else Some 1

-- ---- what is wrong with a line

-- the fault of a line, given the number of its entry and its own
abbrev pub fault_of : ℕ → ℕ → List ℕ → Option DictFault
fault_of entry number line =
    if nat_lt 255 (length (text_of line)) then Some (LongEntry number)
    else (if is_none (weight_of line) then Some (BadWeight number)
    else (if nat_lt 1000000 entry then Some (TooMany number) else None))

-- the first fault of lines, given the number of the first one's entry
abbrev pub first_fault_from : ℕ → List Line → Option DictFault
first_fault_from entry [] = None
first_fault_from entry (line ∷ others) = option_or (fault_of entry line.number line.bytes) (first_fault_from (entry + 1) others)

-- ---- the whole

-- the texts of lines as entries, with their weights
abbrev pub word_list : List Line → WordList
word_list lines = record {
  entries = map (λ line. text_of line.bytes) lines;
  weights = map (λ line. unwrap_or (weight_of line.bytes) 0) lines;
}

-- the word list of the lines where none has a fault, and there is one
abbrev pub word_list_unless_fault : Option DictFault → List Line → Result WordList DictFault
word_list_unless_fault (Some fault) lines = Err fault
word_list_unless_fault None [] = Err Empty
word_list_unless_fault None (line ∷ others) = Ok (word_list (line ∷ others))

abbrev pub dictionary_of_lines : List Line → Result WordList DictFault
dictionary_of_lines lines = word_list_unless_fault (first_fault_from 1 lines) lines

-- the word list that the bytes stand for, or their first fault
unfoldable pub dictionary_of : List ℕ → Result WordList DictFault
dictionary_of bytes =
    if is_utf8 bytes then dictionary_of_lines (entry_lines (without_mark bytes)) else Err (NotUtf8 (utf8_valid_len bytes))
