-- The command as which `clap` reads the words, and what its matches give.
use Rattle.std.specs.Prelude.{ℕ, true, List, [], ◌∷◌, map, Some, codes}
use Rattle.clap.specs.Walk.{Rule}
use Rattle.clap.specs.Words.{App, Shape, first_of, found_of, new_rule, rows_of, with_rule}
use Rattle.clap.specs.Simple.{new_shape}
use Rattle.clap.specs.declared.parser.matches.ArgMatches.{ArgMatches}
use Rattle.request_words.specs.Form.{option_words}
use Rattle.request_words.specs.Options.{Given, word_of}
use Rattle.request_words.specs.declared.usage.OptionName.{OptionName}
use Rattle.request_words.specs.declared.usage.OptionName.TheVariants as option

-- an option with one value of text, no default and no short name
abbrev pub option_rule : List ℕ → Rule
option_rule word = record (new_rule word) { long = Some word }

-- a command with options of these names after what it has
abbrev pub with_options : App → List (List ℕ) → App
with_options command [] = command
with_options command (word ∷ words) = with_options (with_rule command (option_rule word)) words

-- the mode, which stands first and is required
abbrev pub mode_rule : Rule
mode_rule = record (new_rule (codes "mode")) { required = true }

-- the schema's name, which may stand after it
abbrev pub schema_rule : Rule
schema_rule = new_rule (word_of option.Schema)

-- the one simple command: the mode, the schema's name and the options, without help and version
abbrev pub shape : Shape
shape = record (new_shape (codes "pdgf")) {
  disable_help_flag = true;
  disable_version_flag = true;
  rules = mode_rule ∷ schema_rule ∷ map option_rule option_words;
}

abbrev pub command : App
command = record { top = shape; subs = [] }

-- what is given by matches
abbrev pub given_by : ArgMatches → Given
given_by matches = λ (name : OptionName). first_of (word_of name) (rows_of (found_of matches))
