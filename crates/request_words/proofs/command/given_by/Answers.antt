use Rattle.std.proofs.Common.{◌≡◌, ◌∙◌, List, None, Option, Some, ap, option_map, refl, ℕ}
use Rattle.std.specs.Borrow.{Bor}
use Rattle.std.specs.Option.{option_copied}
use Rattle.clap.specs.Matches.{first_value}
use Rattle.clap.specs.Words.{found_of}
use Rattle.clap.proofs.WalkLemmas.{first_value-rows}
use Rattle.request_words.specs.Options.{word_of}
use Rattle.request_words.proofs.command.given_by.Goals as goal

copied : (word : Option (Bor (List ℕ))) → option_copied word ≡ option_map (λ text. text.now) word
copied None = refl
copied (Some text) = refl

pub returns : goal.returns
returns c =
    let found = found_of c.args.matches.now in
    copied c.get_str.result ∙ (c.get_str.ensures ∙ (ap (first_value found) c.word.ensures.word ∙ first_value-rows found (word_of c.args.name)))
