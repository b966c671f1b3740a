use Rattle.life_intervals.specs.Generator.{table_of}
use Rattle.update_box.specs.Candidates.{ends_at}
use Rattle.update_box.proofs.BornLemmas.{IsFoundBefore}
use Rattle.update_box.proofs.deletions.push_all_ending.Given as goal

abbrev pub invariant-loop-born : goal.invariant-loop-born
invariant-loop-born g l = IsFoundBefore (ends_at l.rows l.table l.t) (table_of l.rows l.table).births l.born l.initial.list.items l.list.items l.initial.steps l.steps
