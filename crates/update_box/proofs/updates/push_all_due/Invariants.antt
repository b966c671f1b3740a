use Rattle.life_intervals.specs.Generator.{table_of}
use Rattle.update_box.specs.Candidates.{is_due_at}
use Rattle.update_box.proofs.BornLemmas.{IsFoundBefore}
use Rattle.update_box.proofs.updates.push_all_due.Given as goal

abbrev pub invariant-loop-born : goal.invariant-loop-born
invariant-loop-born g l = IsFoundBefore (is_due_at l.rows l.table l.t) (table_of l.rows l.table).births l.born l.initial.list.items l.list.items l.initial.steps l.steps
