-- Dictionaries as a plan keeps them for rows.
use Rattle.std.specs.Prelude.{◌≡◌, ℕ, List, length, map, sum}
use Rattle.dictionaries.specs.WordList.{WordList}
use Rattle.row_text.specs.Fields.{escaped_text}
use Rattle.schema_facts.specs.Dictionaries.{Dictionary}

-- a word list with its entries as they are written
abbrev pub written_words : ℕ → WordList → WordList
written_words delimiter words = record words { entries = map (escaped_text delimiter) words.entries }

-- what is kept of words: a written text for each entry, and the sum of the weights
pub record AreReadyWords (written : List (List ℕ)) (words : WordList) (total : ℕ) : Type 0 where
  pub each : length written ≡ length words.entries
  pub total_is : total ≡ sum words.weights

-- how the entries of dictionaries are written
pub record Spelling : Type 0 where
  pub delimiter : ℕ
  pub dictionaries : List Dictionary
