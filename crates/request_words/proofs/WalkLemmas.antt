-- The walk of `clap` over words of the form.
use Rattle.std.proofs.Common.{◌≡◌, ◌∙◌, ◌<◌, ◌+◌, ◌||◌, not, is_some, map, ℕ, true, false, zero, suc, refl, sym, ap, subst, arith, List, [], ◌∷◌, ◌++◌, Bool, Option, Some, None, fold, min, codes}
use Rattle.std.specs.Str.{bytes_eq}
use Rattle.std.proofs.lemmas.Bool.{and_parts, and_right, not-true, or_parts}
use Rattle.std.proofs.lemmas.List.{append-nil}
use Rattle.std.proofs.lemmas.Slice.Eq.{bytes_eq-Decides}
use Rattle.clap.specs.Lexer.{long_of, short_of, usize_max}
use Rattle.clap.specs.Walk.{Held, Row, Rule, Waiting, Walk, idle, option, arg_by_id, arg_by_index, arg_by_long, at_row, has_row, is_pending, more_values, settled_rows, used, walked}
use Rattle.clap.specs.Simple.{Shape, new_rule}
use Rattle.clap.specs.Takes.{settle_passes, turn_passes, use_passes, walk_passes}
use Rattle.clap.specs.declared.builder.action.ArgAction.TheVariants.{Set}
use Rattle.clap.specs.declared.builder.value_parser.Reading.TheVariants.{AsWritten}
use Rattle.clap.specs.declared.builder.value_parser.ValueParser.TheVariants as parser
use Rattle.clap.specs.declared.parser.matches.ValueSource.TheVariants.{CommandLine}
use Rattle.request_words.specs.Form.{Entry, entries, goes_on, has_hyphen, is_option_word, place_word}
use Rattle.request_words.proofs.FormLemmas.{Word, entries-end, entries-named, entries-plain, entries-value, entries-valued, is_distinct, is_given, plain_parts, same, step_of, unlike, value_step}
use Rattle.request_words.proofs.FormLemmas as form

-- what matches hold of a word by what it stands for
abbrev pub row_of_entry : Entry → Row
row_of_entry entry = record {
  id = entry.0;
  values = entry.1 ∷ [];
  count = None;
  source = Some CommandLine;
  reading = AsWritten;
}

-- ---- words

plain_no_short : (word : Word) → has_hyphen word ≡ false → short_of word ≡ None
plain_no_short [] e = refl
plain_no_short (byte ∷ rest) e = rw e refl

plain_no_end : (word : Word) → has_hyphen word ≡ false → bytes_eq word (codes "--") ≡ false
plain_no_end [] e = refl
plain_no_end (byte ∷ rest) e = rw e refl

option_no_end : (word : Word) (parts : Word × Option Word) → long_of word ≡ Some parts → bytes_eq word (codes "--") ≡ false
option_no_end word parts long = go (bytes_eq word (codes "--")) refl
  where
    go : (b : Bool) → bytes_eq word (codes "--") ≡ b → bytes_eq word (codes "--") ≡ false
    go false t = t
    go true t =
        let ends : word ≡ codes "--" = (bytes_eq-Decides word (codes "--")).0 t in
        let bad : None ≡ Some parts = rw ends at long in
        cc

-- ---- rows

-- what building makes of an argument
abbrev pub built_rule : Word → Option Word → Option ℕ → Bool → Rule
built_rule id long index required = record (new_rule id) {
  long = long;
  index = index;
  action = Some Set;
  parser = Some parser.String;
  range = Some (record { start_inclusive = 1; end_inclusive = 1 });
  required = required;
}

abbrev pub built_option : Word → Rule
built_option name = built_rule name (Some name) None false

abbrev pub built_mode : Rule
built_mode = built_rule (codes "mode") None (Some 1) true

abbrev pub built_schema : Rule
built_schema = built_rule (codes "schema") None (Some 2) false

row_behind : (id : Word) (change : Row → List Row) (missing rows : List Row) → has_row id rows ≡ false → at_row id change missing rows ≡ rows ++ missing
row_behind id change missing [] e = refl
row_behind id change missing (row ∷ rows) e =
    let parts = or_parts (bytes_eq row.id id) (has_row id rows) e in
    rw parts.0 (ap (λ all. row ∷ all) (row_behind id change missing rows parts.1))

-- a first use puts a row after the others
used_first : (id : Word) (long : Option Word) (index : Option ℕ) (required : Bool) (value : Word) (rows : List Row) → has_row id rows ≡ false →
    used (built_rule id long index required) (value ∷ []) rows ≡ rows ++ row_of_entry (id, value) ∷ []
used_first id long index required value rows new =
    let kept : at_row id (λ _. []) [] rows ≡ rows = row_behind id (λ _. []) [] rows new ∙ append-nil rows in
    rw kept (row_behind id (more_values CommandLine (value ∷ [])) (row_of_entry (id, value) ∷ []) rows new)

first_passes : (id : Word) (long : Option Word) (index : Option ℕ) (required : Bool) (value : Word) (rows : List Row) → has_row id rows ≡ false →
    use_passes false (built_rule id long index required) (value ∷ []) rows ≡ true
first_passes id long index required value rows new = rw new refl

pub rows_given : (id : Word) (all : List Entry) → has_row id (map row_of_entry all) ≡ is_given id all
rows_given id [] = refl
rows_given id (e ∷ rest) = ap (λ b. bytes_eq e.0 id || b) (rows_given id rest)

map_one : (all : List Entry) (e : Entry) → map row_of_entry (all ++ e ∷ []) ≡ map row_of_entry all ++ row_of_entry e ∷ []
map_one [] e = refl
map_one (x ∷ xs) e = ap (λ rows. row_of_entry x ∷ rows) (map_one xs e)

one_then : (all : List Entry) (e : Entry) (rest : List Entry) → (all ++ e ∷ []) ++ rest ≡ all ++ e ∷ rest
one_then [] e rest = refl
one_then (x ∷ xs) e rest = ap (λ l. x ∷ l) (one_then xs e rest)

-- ---- what is new

new_to_middle : (id name value : Word) (all rest : List Entry) → is_given id (all ++ (name, value) ∷ rest) ≡ false → bytes_eq name id ≡ false
new_to_middle id name value [] rest e = (or_parts (bytes_eq name id) (is_given id rest) e).0
new_to_middle id name value (x ∷ xs) rest e = new_to_middle id name value xs rest (or_parts (bytes_eq x.0 id) _ e).1

is_new : (name value : Word) (all rest : List Entry) → is_distinct (all ++ (name, value) ∷ rest) ≡ true → is_given name all ≡ false
is_new name value [] rest distinct = refl
is_new name value (x ∷ xs) rest distinct =
    let parts = and_parts (not (is_given x.0 (xs ++ (name, value) ∷ rest))) (is_distinct (xs ++ (name, value) ∷ rest)) distinct in
    let here = new_to_middle x.0 name value xs rest (not-true _ parts.0) in
    rw (unlike name x.0 here) (is_new name value xs rest parts.1)

-- ---- the walk

abbrev waiting_for : Option Word → Waiting
waiting_for None = idle
waiting_for (Some name) = option name

-- where the walk is, with an option's value due or none, and after so many words that are no option's
abbrev pub at : Option Word → ℕ → Held → Walk
at due count held = record {
  held = held;
  waiting = waiting_for due;
  position = count + 1;
  is_trailing = false;
  stopped = None;
}

-- a built command finds its options by their names, and the two others by their places
pub record Finds (shape : Shape) : Type 0 where
  pub again : shape.args_override_self ≡ false
  pub by_long : (name : Word) → is_option_word name ≡ true → arg_by_long shape.rules name ≡ Some (built_option name)
  pub by_id : (name : Word) → is_option_word name ≡ true → arg_by_id shape.rules name ≡ Some (built_option name)
  pub mode_at : arg_by_index shape.rules 1 ≡ Some built_mode
  pub schema_at : arg_by_index shape.rules 2 ≡ Some built_schema
  pub mode_by : arg_by_id shape.rules (codes "mode") ≡ Some built_mode
  pub schema_by : arg_by_id shape.rules (codes "schema") ≡ Some built_schema

module _ (shape : Shape) (finds : Finds shape) where
  -- a word takes the walk on, and is taken
  abbrev Turns : Word → Walk → Walk → Type 0
  Turns word walk next = (turn_passes shape [] walk word ≡ true) × (walked shape.rules [] walk word ≡ next)

  -- what is held comes to these entries
  abbrev pub Settles : Held → List Entry → Type 0
  Settles held all = (settle_passes shape.rules shape.args_override_self held ≡ true) × (settled_rows shape.rules held.pending held.rows ≡ map row_of_entry all)

  abbrev pub Holds : Option Word → Held → List Entry → Type 0
  Holds None held all = Settles held all
  Holds (Some name) held all = (is_option_word name ≡ true) × (held.pending ≡ Some (name, [])) × (held.rows ≡ map row_of_entry all)

  -- one value is held that isn't used yet
  abbrev with_value : Word → Word → List Row → ℕ → Held
  with_value id value rows skip = record { rows = rows; pending = Some (id, value ∷ []); skip = skip }

  value_settles : (id value : Word) (long : Option Word) (index : Option ℕ) (required : Bool) (rows : List Row) (skip : ℕ) (all : List Entry) →
      arg_by_id shape.rules id ≡ Some (built_rule id long index required) → rows ≡ map row_of_entry all → is_given id all ≡ false →
      Settles (with_value id value rows skip) (all ++ (id, value) ∷ [])
  value_settles id value long index required rows skip all by are new =
      let first : has_row id rows ≡ false = rw are (rows_given id all ∙ new) in
      let passes = first_passes id long index required value rows first in
      let more : rows ++ row_of_entry (id, value) ∷ [] ≡ map row_of_entry (all ++ (id, value) ∷ []) = rw are (sym (map_one all (id, value))) in
      (rw (by, finds.again) passes, rw by (used_first id long index required value rows first ∙ more))

  value_turn : (name word : Word) (count : ℕ) (held : Held) → is_option_word name ≡ true → has_hyphen word ≡ false → held.pending ≡ Some (name, []) →
      Turns word (at (Some name) count held) (at None count (with_value name word held.rows held.skip))
  unfolding walked
  value_turn name word count held known plain pending =
      let no_end = plain_no_end word plain in
      let long = plain_parts word plain in
      let short = plain_no_short word plain in
      let by = finds.by_id name known in
      (rw (no_end, long, short) refl, rw (no_end, long, short, by, pending, same name) refl)

  plain_turn : (id word : Word) (index : Option ℕ) (required : Bool) (count : ℕ) (held : Held) → has_hyphen word ≡ false →
      arg_by_index shape.rules (count + 1) ≡ Some (built_rule id None index required) → min (count + 1 + 1) usize_max ≡ count + 1 + 1 →
      settle_passes shape.rules shape.args_override_self held ≡ true →
      Turns word (at None count held) (at None (count + 1) (with_value id word (settled_rows shape.rules held.pending held.rows) held.skip))
  unfolding walked
  plain_turn id word index required count held plain by next passes =
      let no_end = plain_no_end word plain in
      let long = plain_parts word plain in
      let short = plain_no_short word plain in
      let one = and_right (is_pending (built_rule id None index required) held.pending) false refl in
      (rw (no_end, long, short, by, one, passes) refl, rw (no_end, long, short, by, one, next) refl)

  valued_turn : (name value word : Word) (count : ℕ) (held : Held) (all : List Entry) → long_of word ≡ Some (name, Some value) → is_option_word name ≡ true →
      Settles held all → is_given name all ≡ false →
      Turns word (at None count held) (at None count (record { rows = used (built_option name) (value ∷ []) (settled_rows shape.rules held.pending held.rows); pending = None; skip = held.skip }))
  unfolding walked
  valued_turn name value word count held all long known settles new =
      let no_end = option_no_end word (name, Some value) long in
      let by = finds.by_long name known in
      let first : has_row name (settled_rows shape.rules held.pending held.rows) ≡ false = rw settles.1 (rows_given name all ∙ new) in
      (rw (no_end, long, by, settles.0, finds.again, first) refl, rw (no_end, long, by) refl)

  named_turn : (name word : Word) (count : ℕ) (held : Held) → long_of word ≡ Some (name, None) → is_option_word name ≡ true →
      settle_passes shape.rules shape.args_override_self held ≡ true →
      Turns word (at None count held) (at (Some name) count (record { rows = settled_rows shape.rules held.pending held.rows; pending = Some (name, []); skip = held.skip }))
  unfolding walked
  named_turn name word count held long known passes =
      let no_end = option_no_end word (name, None) long in
      let by = finds.by_long name known in
      (rw (no_end, long, by, passes) refl, rw (no_end, long, by) refl)

  abbrev end_of : List Word → Walk → Walk
  end_of words walk = fold (walked shape.rules []) walk words

  -- the walk over words takes each, and what it holds at their end comes to these entries
  abbrev pub Ends : List Word → Walk → List Entry → Type 0
  Ends words walk all = (walk_passes shape [] walk words ≡ true) × Settles (end_of words walk).held all

  after_turn : (word : Word) (rest : List Word) (walk next : Walk) (all : List Entry) → Turns word walk next → Ends rest next all → Ends (word ∷ rest) walk all
  unfolding walk_passes
  after_turn word rest walk next all turn ends = (rw (turn.0, turn.1) ends.0, subst (λ w. Settles (end_of rest w).held all) (sym turn.1) ends.1)

  abbrev Walks : List Word → Type 0
  Walks words = (due : Option Word) (count : ℕ) (held : Held) (all : List Entry) → Holds due held all → goes_on words (is_some due) count ≡ true →
      is_distinct (all ++ entries words due count) ≡ true → Ends words (at due count held) (all ++ entries words due count)

  -- a word that stands for one entry more, before those of the rest
  with_entry : (word : Word) (rest : List Word) (walk : Walk) (count : ℕ) (held : Held) (all : List Entry) (e : Entry) → Turns word walk (at None count held) →
      Settles held (all ++ e ∷ []) → goes_on rest false count ≡ true → is_distinct (all ++ e ∷ entries rest None count) ≡ true → Walks rest →
      Ends (word ∷ rest) walk (all ++ e ∷ entries rest None count)
  with_entry word rest walk count held all e turn settles f distinct walks =
      let join = one_then all e (entries rest None count) in
      let ends = walks None count held (all ++ e ∷ []) settles f (subst (λ l. is_distinct l ≡ true) (sym join) distinct) in
      after_turn word rest walk (at None count held) (all ++ e ∷ entries rest None count) turn (subst (λ l. Ends rest (at None count held) l) join ends)

  plain_walk : (word : Word) (rest : List Word) (count : ℕ) (held : Held) (all : List Entry) → has_hyphen word ≡ false → Settles held all → count < 2 →
      goes_on rest false (count + 1) ≡ true → is_distinct (all ++ (place_word count, word) ∷ entries rest None (count + 1)) ≡ true → Walks rest →
      Ends (word ∷ rest) (at None count held) (all ++ (place_word count, word) ∷ entries rest None (count + 1))
  plain_walk word rest zero held all plain settles few f distinct walks =
      let rows = settled_rows shape.rules held.pending held.rows in
      let new = is_new (codes "mode") word all (entries rest None 1) distinct in
      let one = value_settles (codes "mode") word None (Some 1) true rows held.skip all finds.mode_by settles.1 new in
      let turn = plain_turn (codes "mode") word (Some 1) true 0 held plain finds.mode_at refl settles.0 in
      with_entry word rest (at None 0 held) 1 (with_value (codes "mode") word rows held.skip) all (codes "mode", word) turn one f distinct walks
  plain_walk word rest (suc zero) held all plain settles few f distinct walks =
      let rows = settled_rows shape.rules held.pending held.rows in
      let new = is_new (codes "schema") word all (entries rest None 2) distinct in
      let one = value_settles (codes "schema") word None (Some 2) false rows held.skip all finds.schema_by settles.1 new in
      let turn = plain_turn (codes "schema") word (Some 2) false 1 held plain finds.schema_at refl settles.0 in
      with_entry word rest (at None 1 held) 2 (with_value (codes "schema") word rows held.skip) all (codes "schema", word) turn one f distinct walks
  plain_walk word rest (suc (suc count)) held all plain settles few f distinct walks = absurd (omega arith)

  value_walk : (word : Word) (rest : List Word) (name : Word) (count : ℕ) (held : Held) (all : List Entry) → Holds (Some name) held all →
      has_hyphen word ≡ false → goes_on rest false count ≡ true → is_distinct (all ++ (name, word) ∷ entries rest None count) ≡ true → Walks rest →
      Ends (word ∷ rest) (at (Some name) count held) (all ++ (name, word) ∷ entries rest None count)
  value_walk word rest name count held all holds plain f distinct walks =
      let new = is_new name word all (entries rest None count) distinct in
      let one = value_settles name word (Some name) None false held.rows held.skip all (finds.by_id name holds.0) holds.2 new in
      let turn = value_turn name word count held holds.0 plain holds.1 in
      with_entry word rest (at (Some name) count held) count (with_value name word held.rows held.skip) all (name, word) turn one f distinct walks

  valued_walk : (word : Word) (rest : List Word) (name value : Word) (count : ℕ) (held : Held) (all : List Entry) → Settles held all →
      long_of word ≡ Some (name, Some value) → is_option_word name ≡ true → goes_on rest false count ≡ true →
      is_distinct (all ++ (name, value) ∷ entries rest None count) ≡ true → Walks rest →
      Ends (word ∷ rest) (at None count held) (all ++ (name, value) ∷ entries rest None count)
  valued_walk word rest name value count held all settles long known f distinct walks =
      let new = is_new name value all (entries rest None count) distinct in
      let rows = settled_rows shape.rules held.pending held.rows in
      let first : has_row name rows ≡ false = rw settles.1 (rows_given name all ∙ new) in
      let next : Held = record { rows = used (built_option name) (value ∷ []) rows; pending = None; skip = held.skip } in
      let more : map row_of_entry all ++ row_of_entry (name, value) ∷ [] ≡ map row_of_entry (all ++ (name, value) ∷ []) = sym (map_one all (name, value)) in
      let are : next.rows ≡ map row_of_entry (all ++ (name, value) ∷ []) =
      used_first name (Some name) None false value rows first ∙ (ap (λ l. l ++ row_of_entry (name, value) ∷ []) settles.1 ∙ more) in
      with_entry word rest (at None count held) count next all (name, value) (valued_turn name value word count held all long known settles new) (refl, are) f distinct walks

  named_walk : (word : Word) (rest : List Word) (name : Word) (count : ℕ) (held : Held) (all : List Entry) → Settles held all →
      long_of word ≡ Some (name, None) → is_option_word name ≡ true → goes_on rest true count ≡ true →
      is_distinct (all ++ entries rest (Some name) count) ≡ true → Walks rest →
      Ends (word ∷ rest) (at None count held) (all ++ entries rest (Some name) count)
  named_walk word rest name count held all settles long known f distinct walks =
      let next : Held = record { rows = settled_rows shape.rules held.pending held.rows; pending = Some (name, []); skip = held.skip } in
      after_turn word rest (at None count held) (at (Some name) count next) (all ++ entries rest (Some name) count)
      (named_turn name word count held long known settles.0)
      (walks (Some name) count next all (known, refl, settles.1) f distinct)

  -- the walk over words of the form ends with what they stand for
  pub walks_to_the_end : (words : List Word) → Walks words
  unfolding goes_on walk_passes
  walks_to_the_end [] None count held all holds f distinct =
      (refl, (holds.0, holds.1 ∙ ap (map row_of_entry) (sym (ap (λ l. all ++ l) (entries-end None count) ∙ append-nil all))))
  walks_to_the_end [] (Some name) count held all holds f distinct = cc
  walks_to_the_end (word ∷ rest) (Some name) count held all holds f distinct =
      let step = value_step word rest count f in
      let is = entries-value word rest count name in
      subst (λ l. Ends (word ∷ rest) (at (Some name) count held) (all ++ l)) (sym is)
      (value_walk word rest name count held all holds step.0 step.1 (subst (λ l. is_distinct (all ++ l) ≡ true) is distinct) (walks_to_the_end rest))
  walks_to_the_end (word ∷ rest) None count held all holds f distinct = elim (step_of word rest count f) [
    | form.plain h few g ↦
        let is = entries-plain word rest count h in
        subst (λ l. Ends (word ∷ rest) (at None count held) (all ++ l)) (sym is)
        (plain_walk word rest count held all h holds few g (subst (λ l. is_distinct (all ++ l) ≡ true) is distinct) (walks_to_the_end rest))
    | form.named name h long known once g ↦
        let is = entries-named word rest count name h long in
        subst (λ l. Ends (word ∷ rest) (at None count held) (all ++ l)) (sym is)
        (named_walk word rest name count held all holds long known g (subst (λ l. is_distinct (all ++ l) ≡ true) is distinct) (walks_to_the_end rest))
    | form.valued name value h long known once g ↦
        let is = entries-valued word rest count name value h long in
        subst (λ l. Ends (word ∷ rest) (at None count held) (all ++ l)) (sym is)
        (valued_walk word rest name value count held all holds long known g (subst (λ l. is_distinct (all ++ l) ≡ true) is distinct) (walks_to_the_end rest))
  ]
