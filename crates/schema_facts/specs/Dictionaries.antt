-- Dictionaries: word lists with names, and a schema with them.
use Rattle.std.specs.Prelude.{ℕ, All, List, [], Option, unwrap_or}
use Rattle.std.specs.List.{find}
use Rattle.std.specs.Option.{option_map}
use Rattle.dictionaries.specs.WordList.{WordList, IsWordList}
use Rattle.schema_model.specs.declared.table.Schema.{Schema}
use Rattle.schema_facts.specs.Names.{same_text}

-- a word list with its name
pub record Dictionary : Type 0 where
  pub name : List ℕ
  pub words : WordList

-- the word list without an entry, which stands for a name that no dictionary has
abbrev pub no_words : WordList
no_words = record { entries = []; weights = [] }

-- the words of the first dictionary with a name; None where none has it
abbrev pub dictionary_named : List Dictionary → List ℕ → Option WordList
dictionary_named dictionaries name =
    option_map (λ (dictionary : Dictionary). dictionary.words)
    (find (λ (dictionary : Dictionary). same_text dictionary.name name) dictionaries)

-- the same, without an entry where none has it
abbrev pub words_named : List Dictionary → List ℕ → WordList
words_named dictionaries name = unwrap_or (dictionary_named dictionaries name) no_words

-- each is a word list
abbrev pub AreWordLists : List Dictionary → Type 0
AreWordLists dictionaries = All (λ (dictionary : Dictionary). IsWordList dictionary.words) dictionaries

-- a schema with its dictionaries: all that a user gives
pub record Project : Type 0 where
  pub schema : Schema
  pub dictionaries : List Dictionary

abbrev pub project_of : Schema → List Dictionary → Project
project_of schema dictionaries = record { schema = schema; dictionaries = dictionaries }
