use Rattle.std.proofs.Common.{◌≡◌, map, take}
use Rattle.schema_facts.specs.Dictionaries.{Dictionary}
use Rattle.schema_plan.specs.ReadyWords.{written_words}
use Rattle.schema_plan.proofs.ready_words.ready_words.Given as goal

abbrev pub invariant-loop-named : goal.invariant-loop-named
invariant-loop-named l =
    l.ready.items ≡ map (λ (named : Dictionary). written_words l.delimiter named.words) (take l.named-index l.dictionaries)
