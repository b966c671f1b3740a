use Rattle.std.proofs.Common.{◌++◌, List, ℕ, ap, append_assoc, codes, decimal, ◌∙◌}
use Rattle.refusals.specs.Messages.{grammar_text}
use Rattle.refusals.proofs.message.put_broken.Goals as goal

pub returns-clause-text : goal.returns-clause-text
returns-clause-text c =
    c.put_grammar.ensures.text
    ∙ ap (λ (words : List ℕ). words ++ grammar_text c.args.fault) c.put_counted.ensures.text
    ∙ append_assoc c.args.message.now (codes "dictionary " ++ decimal c.args.number) (grammar_text c.args.fault)
