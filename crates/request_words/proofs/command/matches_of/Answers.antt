use Rattle.std.proofs.Common.{◌∙◌, None, ap, drop, map, string_bytes}
use Rattle.std.proofs.lemmas.Result.{IfErr-weaker, IfOk-weaker}
use Rattle.clap.specs.Words.{App, first_of, is_simple, matches_of, takes}
use Rattle.request_words.specs.Form.{entries}
use Rattle.request_words.specs.Options.{word_of}
use Rattle.request_words.proofs.CommandLemmas.{command_is_simple, command_matches, command_takes, first_is}
use Rattle.request_words.proofs.command.matches_of.Goals as goal

pub returns-clause-read : goal.returns-clause-read
returns-clause-read c =
    let words = map string_bytes c.args.words.now in
    let is = c.in_ok-command.ensures in
    IfOk-weaker c.try_get_matches_from.result _ _
    (λ matches has.
    let rows = (has (ap is_simple is ∙ command_is_simple)).0 ∙ (ap (λ (a : App). matches_of a words) is ∙ command_matches words c.requires) in
    λ i name. (ap (first_of (word_of name)) rows ∙ first_is (word_of name) (entries (drop 1 words) None 0)) i)
    c.try_get_matches_from.ensures.matches

pub returns-clause-refused : goal.returns-clause-refused
returns-clause-refused c =
    let words = map string_bytes c.args.words.now in
    let is = c.in_ok-command.ensures in
    IfErr-weaker c.try_get_matches_from.result _ _
    (λ error passes. passes (ap (λ (a : App). takes a words) is ∙ command_takes words c.requires)) c.try_get_matches_from.ensures.passes
