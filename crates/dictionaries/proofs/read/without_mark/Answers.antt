use Rattle.std.proofs.Common.{Bor, List, ℕ, ap, ◌∙◌}
use Rattle.dictionaries.proofs.MarkLemmas.{without_mark-stripped}
use Rattle.dictionaries.proofs.read.without_mark.Goals as goal

pub returns : goal.returns
returns c =
    ap (λ (text : Bor (List ℕ)). text.now) c.unwrap_or.ensures
    ∙ without_mark-stripped c.args.text c.strip_prefix.result c.strip_prefix.ensures.cases
