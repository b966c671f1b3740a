use Rattle.std.proofs.Common.{◌∷◌, [], sym, arith, subst}
use Rattle.std.proofs.lemmas.List.Elements.{All-append, All-cons}
use Rattle.dictionaries.specs.WordList.{IsWordList}
use Rattle.schema_facts.specs.Dictionaries.{AreWordLists, Dictionary}
use Rattle.schema_facts.proofs.word_lists.Dictionaries.append_one.Goals as goal

pub invariant_of-self-2 : goal.invariant_of-self-2
invariant_of-self-2 c =
    let IsList : Dictionary → Type 0 = λ (d : Dictionary). IsWordList d.words in
    let handle = c.in_ok-handle.handle in
    let one : IsList handle = subst (λ (d : Dictionary). IsWordList d.words) (sym c.in_ok-handle.ensures) c.requires in
    subst AreWordLists (sym c.in_ok-push.ensures.items)
    (All-append IsList c.self.inside.items.items (handle ∷ []) c.self.invariant (All-cons IsList handle [] one (λ i d none. absurd (omega arith))))
