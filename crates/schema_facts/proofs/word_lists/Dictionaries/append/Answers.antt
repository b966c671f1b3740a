use Rattle.std.proofs.Common.{◌≡◌, ◌<◌, ◌∙◌, List, get_or, length, sym, ap, subst}
use Rattle.dictionaries.specs.WordList.{IsWordList}
use Rattle.schema_facts.specs.Dictionaries.{Dictionary}
use Rattle.schema_facts.proofs.word_lists.Dictionaries.append.Goals as goal

pub append_one-requires : goal.append_one-requires
append_one-requires c =
    let others = c.args.others.now in
    let place = c.loop-named.named-index in
    let named = c.named-item.result in
    let all : c.as_slice-items.result.now ≡ others = c.as_slice-items.ensures in
    let within : place < length others = subst (λ (items : List Dictionary). place < length items) all c.loop-named-test.true in
    let is : named ≡ get_or others place named = c.named-item.is ∙ ap (λ (items : List Dictionary). get_or items place named) all in
    subst (λ (d : Dictionary). IsWordList d.words) (sym is) (c.len-limits.ensures.lists place named within)
