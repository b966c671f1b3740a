use Rattle.std.proofs.Common.{◌≤◌, length, subst, sym}
use Rattle.schema_plan.specs.declared.ready.ReadyLeaf.{ReadyLeaf}
use Rattle.draw_values.specs.Items.{item_texts}
use Rattle.draw_values.specs.ReadyValues.{ready_size}
use Rattle.draw_values.proofs.ItemLemmas.{characters_fit, words_fit}
use Rattle.draw_values.proofs.items.most_items.Goals as goal

pub returns-in-Chars-clause-size : goal.returns-in-Chars-clause-size
returns-in-Chars-clause-size c = λ draws count few.
    subst (λ (drawn : ReadyLeaf). length (item_texts drawn draws 0 count) ≤ ready_size drawn) (sym c.in-Chars.is)
    (characters_fit c.in-Chars.lo c.in-Chars.lengths c.in-Chars.characters c.in-Chars.count draws count c.number.result c.number.ensures.number few)

pub returns-in-Words-clause-size : goal.returns-in-Words-clause-size
returns-in-Words-clause-size c = λ draws count few.
    subst (λ (drawn : ReadyLeaf). length (item_texts drawn draws 0 count) ≤ ready_size drawn) (sym c.in-Words.is)
    (words_fit c.in-Words.lo c.in-Words.lengths c.in-Words.words draws count c.number-in-Words.result c.number-in-Words.ensures.number few)
