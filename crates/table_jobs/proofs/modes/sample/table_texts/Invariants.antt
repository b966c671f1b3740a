use Rattle.std.proofs.Common.{◌≡◌, ◌≤◌, ◌*◌, ◌^◌}
use Rattle.std.specs.List.{range_with_len}
use Rattle.update_box.specs.declared.parts.Content.TheVariants.{Deleted, Inserted, Updated}
use Rattle.table_jobs.specs.modes.Sample.{lines_at, text_and_changes}
use Rattle.table_jobs.proofs.modes.sample.table_texts.Given as goal

-- the text at unit 0, and what the units after it change, as many as there were steps
abbrev pub invariant-loop-step : goal.invariant-loop-step
invariant-loop-step g l = record {
  plan : l.held ≡ l.fn.plan;
  inputs : l.inputs ≡ text_and_changes l.fn.plan l.table (range_with_len 1 l.step);
  deleted : l.changed.deleted ≡ lines_at l.fn.plan l.table Deleted (range_with_len 1 l.step);
  updated : l.changed.updated ≡ lines_at l.fn.plan l.table Updated (range_with_len 1 l.step);
  inserted : l.changed.inserted ≡ lines_at l.fn.plan l.table Inserted (range_with_len 1 l.step);
  few_deleted : l.changed.deleted ≤ l.step * 2 ^ 64;
  few_updated : l.changed.updated ≤ l.step * 2 ^ 64;
  few_inserted : l.changed.inserted ≤ l.step * 2 ^ 64;
}
