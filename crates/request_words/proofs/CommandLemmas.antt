-- The command takes words of the form, and its matches hold what they stand for.
use Rattle.std.proofs.Common.{◌≡◌, ◌∙◌, ◌&&◌, not, is_some, map, true, false, refl, ap, List, [], ◌∷◌, Bool, Option, Some, None, codes, find, fold, drop, if◌then◌else◌}
use Rattle.std.specs.Str.{bytes_eq}
use Rattle.std.proofs.lemmas.Slice.Eq.{bytes_eq-Decides}
use Rattle.clap.specs.Walk.{Held, Row, Rule, finished, first_of, has_long, has_row, nothing_held, settled_rows, walk, with_default}
use Rattle.clap.specs.Simple.{built, is_simple, matches_of}
use Rattle.clap.specs.Takes.{entered_passes, is_given as is_row_given, takes}
use Rattle.request_words.specs.Command.{command}
use Rattle.request_words.specs.Form.{Entry, entries, has_form, is_one_of, option_words, word_for}
use Rattle.request_words.proofs.FormLemmas.{Word, entries_distinct, is_given, mode_given, no_option, unlike}
use Rattle.request_words.proofs.WalkLemmas.{Ends, Finds, at, built_mode, built_option, built_schema, row_of_entry, walks_to_the_end}

-- ---- the rules of the built command

abbrev rules : List Rule
rules = built_mode ∷ built_schema ∷ map built_option option_words

rules_are : (built command).top.rules ≡ rules
rules_are = refl

pub command_is_simple : is_simple command ≡ true
command_is_simple = refl

abbrev has_option : Word → Rule → Bool
has_option name rule = not (is_some rule.index) && has_long rule name

find_long : (known : List Word) (name : Word) → is_one_of known name ≡ true → find (has_option name) (map built_option known) ≡ Some (built_option name)
find_long [] name e = cc
find_long (word ∷ words) name e = go (find_long words name) (bytes_eq word name) refl
  where
    go : (is_one_of words name ≡ true → find (has_option name) (map built_option words) ≡ Some (built_option name)) →
        (b : Bool) → bytes_eq word name ≡ b → find (has_option name) (map built_option (word ∷ words)) ≡ Some (built_option name)
    go rest true t = rw t (ap (λ w. Some (built_option w)) ((bytes_eq-Decides word name).0 t))
    go rest false t = rw t (rest (rw t at e))

abbrev has_id : Word → Rule → Bool
has_id name rule = bytes_eq rule.id name

find_id : (known : List Word) (name : Word) → is_one_of known name ≡ true → find (has_id name) (map built_option known) ≡ Some (built_option name)
find_id [] name e = cc
find_id (word ∷ words) name e = go (find_id words name) (bytes_eq word name) refl
  where
    go : (is_one_of words name ≡ true → find (has_id name) (map built_option words) ≡ Some (built_option name)) →
        (b : Bool) → bytes_eq word name ≡ b → find (has_id name) (map built_option (word ∷ words)) ≡ Some (built_option name)
    go rest true t = rw t (ap (λ w. Some (built_option w)) ((bytes_eq-Decides word name).0 t))
    go rest false t = rw t (rest (rw t at e))

command_finds : Finds (built command).top
command_finds = record {
  again = refl;
  by_long = λ name known. find_long option_words name known;
  by_id = λ name known.
      let no_mode = unlike name (codes "mode") (no_option name (codes "mode") known refl) in
      let no_schema = unlike name (codes "schema") (no_option name (codes "schema") known refl) in
      rw (no_mode, no_schema) (find_id option_words name known);
  mode_at = refl;
  schema_at = refl;
  mode_by = refl;
  schema_by = refl;
}

-- ---- the end of the parse

either : {X : Type 0} (b : Bool) (x : X) → (if b then x else x) ≡ x
either true x = refl
either false x = refl

-- no argument has a default
no_defaults : (known : List Word) (rows : List Row) → fold with_default rows (map built_option known) ≡ rows
no_defaults [] rows = refl
no_defaults (word ∷ words) rows = ap (λ r. fold with_default r (map built_option words)) (either (has_row word rows) rows) ∙ no_defaults words rows

finished-is : (held : Held) (all : List Entry) → settled_rows rules held.pending held.rows ≡ map row_of_entry all → finished (built command).top.rules held ≡ map row_of_entry all
finished-is held all are =
    let rows = settled_rows rules held.pending held.rows in
    let mode = either (has_row (codes "mode") rows) rows in
    let schema = either (has_row (codes "schema") rows) rows in
    ap (λ r. fold with_default (with_default r built_schema) (map built_option option_words)) mode
    ∙ (ap (λ r. fold with_default r (map built_option option_words)) schema ∙ (no_defaults option_words rows ∙ are))

row_given : (id : Word) (all : List Entry) → is_given id all ≡ true → is_row_given id (map row_of_entry all) ≡ true
row_given id [] e = cc
row_given id (x ∷ xs) e = go (row_given id xs) (bytes_eq x.0 id) refl
  where
    go : (is_given id xs ≡ true → is_row_given id (map row_of_entry xs) ≡ true) → (b : Bool) → bytes_eq x.0 id ≡ b → is_row_given id (map row_of_entry (x ∷ xs)) ≡ true
    go rest true t = rw t refl
    go rest false t = rw t (rest (rw t at e))

-- the word for a name is the first of its row
pub first_is : (id : Word) (all : List Entry) → first_of id (map row_of_entry all) ≡ word_for id all
first_is id [] = refl
first_is id (x ∷ xs) = go (first_is id xs) (bytes_eq x.0 id) refl
  where
    go : first_of id (map row_of_entry xs) ≡ word_for id xs → (b : Bool) → bytes_eq x.0 id ≡ b → first_of id (map row_of_entry (x ∷ xs)) ≡ word_for id (x ∷ xs)
    go rest true t = rw t refl
    go rest false t = rw t rest

enters_nothing : (stop : Option (Word × List Word)) → entered_passes (built command) stop ≡ true
enters_nothing None = refl
enters_nothing (Some parts) = refl

module _ (words : List Word) (f : has_form (drop 1 words) ≡ true) where
  ends : Ends (built command).top command_finds (drop 1 words) (at None 0 nothing_held) (entries (drop 1 words) None 0)
  ends = walks_to_the_end (built command).top command_finds (drop 1 words) None 0 nothing_held [] (refl, refl) f (entries_distinct (drop 1 words) None 0 f tt)

  -- the matches of words of the form
  pub command_matches : matches_of command words ≡ map row_of_entry (entries (drop 1 words) None 0)
  command_matches = finished-is (walk (built command).top.rules [] nothing_held (drop 1 words)).held (entries (drop 1 words) None 0) ends.1.1

  -- the command takes words of the form
  pub command_takes : takes command words ≡ true
  command_takes =
      let walk = walk (built command).top.rules [] nothing_held (drop 1 words) in
      let given = row_given (codes "mode") (entries (drop 1 words) None 0) (mode_given (drop 1 words) None f) in
      rw (enters_nothing walk.stopped, ends.0, ends.1.0, command_matches, given) refl
