-- What words of the form are, one after the other, and what they stand for.
use Rattle.std.proofs.Common.{◌≡◌, ◌<◌, ◌≤◌, ◌+◌, ◌&&◌, not, is_some, ℕ, true, false, zero, suc, refl, sym, subst, arith, List, [], ◌∷◌, Bool, Option, Some, None, nat_lt, codes}
use Rattle.std.specs.List.{list_any}
use Rattle.std.specs.Str.{bytes_eq}
use Rattle.std.proofs.lemmas.Bool.{and_parts, not-true, or_parts, or_right}
use Rattle.std.proofs.lemmas.Bool.Decides.{nat_tests}
use Rattle.std.proofs.lemmas.Slice.Eq.{bytes_eq-Decides}
use Rattle.clap.specs.Lexer.{long_of}
use Rattle.request_words.specs.Form.{Entry, can_follow, entries, goes_on, option_goes_on, has_hyphen, stands_for, is_option_word, place_word}

abbrev pub Word : Type 0
Word = List ℕ

-- ---- texts

pub same : (word : Word) → bytes_eq word word ≡ true
same word = (bytes_eq-Decides word word).1 refl

pub unlike : (one other : Word) → bytes_eq one other ≡ false → bytes_eq other one ≡ false
unlike one other e = go (bytes_eq other one) refl
  where
    go : (b : Bool) → bytes_eq other one ≡ b → bytes_eq other one ≡ false
    go false t = t
    go true t =
        let bad : bytes_eq one other ≡ true = (bytes_eq-Decides one other).1 (sym ((bytes_eq-Decides other one).0 t)) in
        cc

-- a name of an option is no word that is none
pub no_option : (name other : Word) → is_option_word name ≡ true → is_option_word other ≡ false → bytes_eq name other ≡ false
no_option name other known unknown = go (bytes_eq name other) refl
  where
    go : (b : Bool) → bytes_eq name other ≡ b → bytes_eq name other ≡ false
    go false t = t
    go true t =
        let bad : is_option_word name ≡ false = rw ((bytes_eq-Decides name other).0 t) unknown in
        cc

-- a word without a hyphen is no option
pub plain_parts : (word : Word) → has_hyphen word ≡ false → long_of word ≡ None
plain_parts [] e = refl
plain_parts (byte ∷ rest) e = rw e refl

pub plain_name : (name word : Word) → has_hyphen word ≡ false → stands_for name word ≡ false
plain_name name word e = rw (plain_parts word e) refl

-- ---- what goes on in the form

-- a word that goes on in the form is no option's, or an option whose value is the next word, or one with its value
pub data Step (word : Word) (rest : List Word) (count : ℕ) : Type 0 where
  plain : has_hyphen word ≡ false → count < 2 → goes_on rest false (count + 1) ≡ true → Step word rest count
  named : (name : Word) → has_hyphen word ≡ true → long_of word ≡ Some (name, None) → is_option_word name ≡ true →
      list_any (stands_for name) rest ≡ false → goes_on rest true count ≡ true → Step word rest count
  valued : (name value : Word) → has_hyphen word ≡ true → long_of word ≡ Some (name, Some value) → is_option_word name ≡ true →
      list_any (stands_for name) rest ≡ false → goes_on rest false count ≡ true → Step word rest count

option_step : (word : Word) (rest : List Word) (count : ℕ) (parts : Option (Word × Option Word)) → has_hyphen word ≡ true → long_of word ≡ parts →
    option_goes_on parts rest (λ due. goes_on rest due count) ≡ true → Step word rest count
option_step word rest count None h long f = cc
option_step word rest count (Some (name, None)) h long f =
    let once = not (list_any (stands_for name) rest) in
    let first = and_parts (is_option_word name) (once && goes_on rest true count) f in
    let next = and_parts once (goes_on rest true count) first.1 in
    named name h long first.0 (not-true (list_any (stands_for name) rest) next.0) next.1
option_step word rest count (Some (name, Some value)) h long f =
    let once = not (list_any (stands_for name) rest) in
    let follows = can_follow value && goes_on rest false count in
    let first = and_parts (is_option_word name) (once && follows) f in
    let next = and_parts once follows first.1 in
    valued name value h long first.0 (not-true (list_any (stands_for name) rest) next.0) (and_parts (can_follow value) (goes_on rest false count) next.1).1

pub step_of : (word : Word) (rest : List Word) (count : ℕ) → goes_on (word ∷ rest) false count ≡ true → Step word rest count
unfolding goes_on
step_of word rest count f = go (has_hyphen word) refl
  where
    go : (b : Bool) → has_hyphen word ≡ b → Step word rest count
    go true h = option_step word rest count (long_of word) h refl (rw h at f)
    go false h =
        let few : (nat_lt count 2 && goes_on rest false (count + 1)) ≡ true = rw h at f in
        let parts = and_parts (nat_lt count 2) (goes_on rest false (count + 1)) few in
        let below : nat_lt count 2 ≡ true = parts.0 in
        plain h (grind (arith, nat_tests)) parts.1

-- a value goes on in the form
pub value_step : (word : Word) (rest : List Word) (count : ℕ) → goes_on (word ∷ rest) true count ≡ true → (has_hyphen word ≡ false) × (goes_on rest false count ≡ true)
unfolding goes_on
value_step word rest count f =
    let parts = and_parts (not (has_hyphen word)) (goes_on rest false count) f in
    (not-true (has_hyphen word) parts.0, parts.1)

-- ---- what it stands for

pub entries-end : (due : Option Word) (count : ℕ) → entries [] due count ≡ []
unfolding entries
entries-end due count = refl

pub entries-plain : (word : Word) (rest : List Word) (count : ℕ) → has_hyphen word ≡ false →
    entries (word ∷ rest) None count ≡ (place_word count, word) ∷ entries rest None (count + 1)
unfolding entries
entries-plain word rest count h = rw h refl

pub entries-named : (word : Word) (rest : List Word) (count : ℕ) (name : Word) → has_hyphen word ≡ true → long_of word ≡ Some (name, None) →
    entries (word ∷ rest) None count ≡ entries rest (Some name) count
unfolding entries
entries-named word rest count name h long = rw (h, long) refl

pub entries-valued : (word : Word) (rest : List Word) (count : ℕ) (name value : Word) → has_hyphen word ≡ true → long_of word ≡ Some (name, Some value) →
    entries (word ∷ rest) None count ≡ (name, value) ∷ entries rest None count
unfolding entries
entries-valued word rest count name value h long = rw (h, long) refl

pub entries-value : (word : Word) (rest : List Word) (count : ℕ) (name : Word) →
    entries (word ∷ rest) (Some name) count ≡ (name, word) ∷ entries rest None count
unfolding entries
entries-value word rest count name = refl

-- ---- nothing is given twice

-- whether something is given under a name
abbrev pub is_given : Word → List Entry → Bool
is_given name all = list_any (λ (e : Entry). bytes_eq e.0 name) all

abbrev pub is_distinct : List Entry → Bool
is_distinct [] = true
is_distinct (e ∷ rest) = not (is_given e.0 rest) && is_distinct rest

-- words of the form have no name that no option has
unnamed : (name : Word) → is_option_word name ≡ false → (words : List Word) (due : Bool) (count : ℕ) → goes_on words due count ≡ true →
    list_any (stands_for name) words ≡ false
unnamed name unknown [] due count f = refl
unnamed name unknown (word ∷ rest) true count f =
    let step = value_step word rest count f in
    rw (plain_name name word step.0) (unnamed name unknown rest false count step.1)
unnamed name unknown (word ∷ rest) false count f = elim (step_of word rest count f) [
  | plain h few g ↦ rw (plain_name name word h) (unnamed name unknown rest false (count + 1) g)
  | named found h long known once g ↦ rw (long, no_option found name known unknown) (unnamed name unknown rest true count g)
  | valued found value h long known once g ↦ rw (long, no_option found name known unknown) (unnamed name unknown rest false count g)
]

abbrev IsOther : Option Word → Word → Type 0
IsOther None name = Unit {0}
IsOther (Some due) name = bytes_eq due name ≡ false

-- no place from this one on has the name
abbrev IsNoPlace : ℕ → Word → Type 0
IsNoPlace count name = (place : ℕ) → count ≤ place → place < 2 → bytes_eq (place_word place) name ≡ false

-- what isn't named among words is not given by them
ungiven : (name : Word) (words : List Word) (due : Option Word) (count : ℕ) → goes_on words (is_some due) count ≡ true → IsNoPlace count name → IsOther due name →
    list_any (stands_for name) words ≡ false → is_given name (entries words due count) ≡ false
ungiven name [] due count f places other none = rw (entries-end due count) refl
ungiven name (word ∷ rest) (Some due) count f places other none =
    let step = value_step word rest count f in
    let behind : list_any (stands_for name) rest ≡ false = rw (plain_name name word step.0) at none in
    rw (entries-value word rest count due, other) (ungiven name rest None count step.1 places tt behind)
ungiven name (word ∷ rest) None count f places other none = elim (step_of word rest count f) [
  | plain h few g ↦
      let behind : list_any (stands_for name) rest ≡ false = rw (plain_name name word h) at none in
      rw (entries-plain word rest count h, places count (omega arith) few)
      (ungiven name rest None (count + 1) g (λ place high low. places place (omega arith) low) tt behind)
  | named found h long known once g ↦
      let parts = or_parts (bytes_eq found name) (list_any (stands_for name) rest) (rw long at none) in
      rw (entries-named word rest count found h long) (ungiven name rest (Some found) count g places parts.0 parts.1)
  | valued found value h long known once g ↦
      let parts = or_parts (bytes_eq found name) (list_any (stands_for name) rest) (rw long at none) in
      rw (entries-valued word rest count found value h long, parts.0) (ungiven name rest None count g places tt parts.1)
]

place_unknown : (count : ℕ) → is_option_word (place_word count) ≡ false
place_unknown zero = refl
place_unknown (suc count) = refl

option_no_place : (name : Word) (count : ℕ) → is_option_word name ≡ true → IsNoPlace count name
option_no_place name count known = λ place high low. unlike name (place_word place) (no_option name (place_word place) known (place_unknown place))

later_no_place : (count : ℕ) → count < 2 → IsNoPlace (count + 1) (place_word count)
later_no_place zero few zero high low = absurd (omega arith)
later_no_place zero few (suc place) high low = refl
later_no_place (suc count) few place high low = absurd (omega arith)

-- an option whose value is due doesn't stand in the words after it
abbrev IsOnce : Option Word → List Word → Type 0
IsOnce None words = Unit {0}
IsOnce (Some name) words = (is_option_word name ≡ true) × (list_any (stands_for name) words ≡ false)

one_more : (name value : Word) (rest : List Entry) → is_given name rest ≡ false → is_distinct rest ≡ true → is_distinct ((name, value) ∷ rest) ≡ true
one_more name value rest new distinct = rw (new, distinct) refl

pub entries_distinct : (words : List Word) (due : Option Word) (count : ℕ) → goes_on words (is_some due) count ≡ true → IsOnce due words →
    is_distinct (entries words due count) ≡ true
entries_distinct [] due count f once = rw (entries-end due count) refl
entries_distinct (word ∷ rest) (Some name) count f due =
    let step = value_step word rest count f in
    let behind : list_any (stands_for name) rest ≡ false = rw (plain_name name word step.0) at due.1 in
    let new = ungiven name rest None count step.1 (option_no_place name count due.0) tt behind in
    subst (λ all. is_distinct all ≡ true) (sym (entries-value word rest count name))
    (one_more name word (entries rest None count) new (entries_distinct rest None count step.1 tt))
entries_distinct (word ∷ rest) None count f due = elim (step_of word rest count f) [
  | plain h few g ↦
      let name = place_word count in
      let behind = unnamed name (place_unknown count) rest false (count + 1) g in
      let new = ungiven name rest None (count + 1) g (later_no_place count few) tt behind in
      subst (λ all. is_distinct all ≡ true) (sym (entries-plain word rest count h))
      (one_more name word (entries rest None (count + 1)) new (entries_distinct rest None (count + 1) g tt))
  | named name h long known once g ↦
      subst (λ all. is_distinct all ≡ true) (sym (entries-named word rest count name h long)) (entries_distinct rest (Some name) count g (known, once))
  | valued name value h long known once g ↦
      let new = ungiven name rest None count g (option_no_place name count known) tt once in
      subst (λ all. is_distinct all ≡ true) (sym (entries-valued word rest count name value h long))
      (one_more name value (entries rest None count) new (entries_distinct rest None count g tt))
]

-- ---- the mode is given

pub mode_given : (words : List Word) (due : Option Word) → goes_on words (is_some due) 0 ≡ true → is_given (codes "mode") (entries words due 0) ≡ true
unfolding goes_on
mode_given [] None f = cc
mode_given [] (Some name) f = cc
mode_given (word ∷ rest) (Some name) f =
    subst (λ all. is_given (codes "mode") all ≡ true) (sym (entries-value word rest 0 name))
    (or_right (bytes_eq name (codes "mode")) _ (mode_given rest None (value_step word rest 0 f).1))
mode_given (word ∷ rest) None f = elim (step_of word rest 0 f) [
  | plain h few g ↦ rw (entries-plain word rest 0 h) refl
  | named name h long known once g ↦
      subst (λ all. is_given (codes "mode") all ≡ true) (sym (entries-named word rest 0 name h long)) (mode_given rest (Some name) g)
  | valued name value h long known once g ↦
      subst (λ all. is_given (codes "mode") all ≡ true) (sym (entries-valued word rest 0 name value h long))
      (or_right (bytes_eq name (codes "mode")) _ (mode_given rest None g))
]
