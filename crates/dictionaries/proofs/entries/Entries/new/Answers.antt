use Rattle.dictionaries.proofs.PieceLemmas.{IsCutFrom-none, pieces_from-none}
use Rattle.dictionaries.proofs.entries.Entries.new.Goals as goal

pub invariant_of-result : goal.invariant_of-result
invariant_of-result c = rw (c.new.ensures.bytes, c.new-2.ensures.items) IsCutFrom-none

pub returns : goal.returns
returns c = rw (c.new.ensures.bytes, c.new-2.ensures.items) (pieces_from-none 0 _)
