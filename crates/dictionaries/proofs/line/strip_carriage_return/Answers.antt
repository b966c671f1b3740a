use Rattle.std.proofs.Common.{Bor, List, ℕ, ap, lit<, ◌∙◌}
use Rattle.std.proofs.lemmas.Str.Pattern.{strip_suffix_char}
use Rattle.dictionaries.proofs.LineLemmas.{strip_carriage_return-stripped}
use Rattle.dictionaries.proofs.line.strip_carriage_return.Goals as goal

pub returns : goal.returns
returns c =
    let part = c.args.part in
    let stripped = c.strip_suffix.result in
    ap (λ (line : Bor (List ℕ)). line.now) c.unwrap_or.ensures
    ∙ strip_carriage_return-stripped part stripped (strip_suffix_char 13 part.now stripped c.strip_suffix.ensures.cases (lit< tt))
