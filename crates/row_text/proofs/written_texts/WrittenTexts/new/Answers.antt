use Rattle.std.proofs.Common.{List, ℕ, ap, ◌∙◌}
use Rattle.row_text.specs.WrittenTexts.{texts_in}
use Rattle.row_text.proofs.WrittenLemmas.{texts_in-none}
use Rattle.row_text.proofs.written_texts.WrittenTexts.new.Goals as goal

pub returns : goal.returns
returns c =
    ap (λ (ends : List ℕ). texts_in c.new.result.items ends) c.new-2.ensures.items ∙ texts_in-none c.new.result.items
