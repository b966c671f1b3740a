-- The form of the words after the program's name, and what each of them stands for.
use Rattle.std.specs.Prelude.{ℕ, zero, suc, ◌+◌, Bool, false, true, not, ◌&&◌, ◌==◌, nat_lt, nat_le, List, [], ◌∷◌, length, find, map, Option, Some, None, codes, option_map, if◌then◌else◌}
use Rattle.std.specs.Borrow.{Bor}
use Rattle.std.specs.List.{list_any}
use Rattle.std.specs.Option.{option_copied, option_map_or}
use Rattle.std.specs.Str.{bytes_eq}
use Rattle.clap.specs.Lexer.{long_of}
use Rattle.request_words.specs.Options.{Given, options, word_of}
use Rattle.request_words.specs.declared.usage.OptionName.TheVariants as option

-- ---- the form

-- whether a word begins with a hyphen
abbrev pub has_hyphen : List ℕ → Bool
has_hyphen [] = false
has_hyphen (byte ∷ word) = byte == 45

-- whether one of these is an option's name
abbrev pub is_one_of : List (List ℕ) → List ℕ → Bool
is_one_of known name = list_any (λ word. bytes_eq word name) known

-- the names of the options that are written with two hyphens
abbrev pub option_words : List (List ℕ)
option_words = map word_of options

abbrev pub is_option_word : List ℕ → Bool
is_option_word name = is_one_of option_words name

-- whether a word, as `--name` or `--name=value`, has this name
abbrev pub stands_for : List ℕ → List ℕ → Bool
stands_for name word = option_map_or (λ (parts : List ℕ × Option (List ℕ)). bytes_eq parts.0 name) (long_of word) false

-- whether a value may stand after `=`: it isn't empty, and doesn't begin with a hyphen
abbrev pub can_follow : List ℕ → Bool
can_follow value = not (length value == 0) && not (has_hyphen value)

-- whether words go on in the form after an option, whose value follows as the next word where none stands after `=`
abbrev pub value_goes_on : Option (List ℕ) → (Bool → Bool) → Bool
value_goes_on None rest_goes_on = rest_goes_on true
value_goes_on (Some value) rest_goes_on = can_follow value && rest_goes_on false

-- the same of an option's parts, its name and what stands after `=`: it doesn't stand in the rest once more
abbrev pub option_goes_on : Option (List ℕ × Option (List ℕ)) → List (List ℕ) → (Bool → Bool) → Bool
option_goes_on None rest rest_goes_on = false
option_goes_on (Some parts) rest rest_goes_on =
    is_option_word parts.0 && (not (list_any (stands_for parts.0) rest) && value_goes_on parts.1 rest_goes_on)

-- whether words go on in the form: `due` says that the word before is an option whose value follows, and `count` is how many words
-- before are no option's. One or two of these stand among the words, the mode and a schema's name, and no option twice.
unfoldable pub goes_on : List (List ℕ) → Bool → ℕ → Bool
goes_on [] due count = not due && nat_le 1 count
goes_on (word ∷ rest) true count = not (has_hyphen word) && goes_on rest false count
goes_on (word ∷ rest) false count =
    if has_hyphen word then option_goes_on (long_of word) rest (λ due. goes_on rest due count)
    else (nat_lt count 2 && goes_on rest false (count + 1))

-- whether the words after the program's name have the form
abbrev pub has_form : List (List ℕ) → Bool
has_form words = goes_on words false 0

-- ---- what the words stand for

-- a word, with the name of what it stands for
abbrev pub Entry : Type 0
Entry = List ℕ × List ℕ

-- what a word stands for that is no option's: the first for the mode, the next for the schema's name
abbrev pub place_word : ℕ → List ℕ
place_word zero = codes "mode"
place_word (suc count) = word_of option.Schema

-- an option and what stands after `=`, then what the rest stands for, where the next word may be the option's value
abbrev pub value_entries : List ℕ → Option (List ℕ) → (Option (List ℕ) → List Entry) → List Entry
value_entries name None of_rest = of_rest (Some name)
value_entries name (Some value) of_rest = (name, value) ∷ of_rest None

abbrev pub option_entries : Option (List ℕ × Option (List ℕ)) → (Option (List ℕ) → List Entry) → List Entry
option_entries None of_rest = []
option_entries (Some parts) of_rest = value_entries parts.0 parts.1 of_rest

-- the words by what they stand for; `due` is the option whose value is the next word
unfoldable pub entries : List (List ℕ) → Option (List ℕ) → ℕ → List Entry
entries [] due count = []
entries (word ∷ rest) (Some name) count = (name, word) ∷ entries rest None count
entries (word ∷ rest) None count =
    if has_hyphen word then option_entries (long_of word) (λ due. entries rest due count)
    else ((place_word count, word) ∷ entries rest None (count + 1))

-- the word that stands for this
abbrev pub word_for : List ℕ → List Entry → Option (List ℕ)
word_for name all = option_map (λ (e : Entry). e.1) (find (λ (e : Entry). bytes_eq e.0 name) all)

-- what the words give for the mode, and for each option
abbrev pub mode_in : List (List ℕ) → Option (List ℕ)
mode_in words = word_for (codes "mode") (entries words None 0)

abbrev pub given_in : List (List ℕ) → Given
given_in words = λ name. word_for (word_of name) (entries words None 0)

-- a name and what stands after it, as the program refers to them
abbrev pub option_parts : Bor (List ℕ) × Option (Bor (List ℕ)) → List ℕ × Option (List ℕ)
option_parts parts = (parts.0.now, option_copied parts.1)
