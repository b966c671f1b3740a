use Rattle.std.proofs.Common.{◌≡◌, ◌++◌, take}
use Rattle.schema_facts.proofs.word_lists.Dictionaries.append.Given as goal

abbrev pub invariant-loop-named : goal.invariant-loop-named
invariant-loop-named l = l.self ≡ l.fn.self ++ take l.named-index l.items
