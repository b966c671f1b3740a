use Rattle.std.proofs.Common.{◌∙◌, ap, map, string_bytes}
use Rattle.std.specs.Option.{option_or}
use Rattle.request_words.specs.Form.{given_in}
use Rattle.request_words.specs.Options.{takes}
use Rattle.request_words.specs.Words.{first_fault, option_fault}
use Rattle.request_words.specs.declared.usage.OptionName.TheVariants as option
use Rattle.request_words.proofs.request.first_fault.Goals as goal

pub returns : goal.returns
returns c =
    let given = given_in (map string_bytes c.args.words.now) in
    let schema = option_fault (takes c.args.mode option.Schema) option.Schema (given option.Schema) in
    let others = c.first_of.ensures ∙ ap (first_fault c.args.mode given) c.as_slice.ensures in
    c.or.ensures ∙ (ap (λ first. option_or first c.first_of.result) c.fault_at.ensures ∙ ap (option_or schema) others)
