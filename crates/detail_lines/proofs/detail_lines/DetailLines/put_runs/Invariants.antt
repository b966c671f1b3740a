use Rattle.std.proofs.Common.{◌≡◌, ◌≤◌, ◌-◌, ◌*◌, ◌++◌, length}
use Rattle.detail_lines.specs.declared.detail_lines.LineKind.TheVariants.{Whole}
use Rattle.detail_lines.specs.LineRuns.{HasRoom}
use Rattle.detail_lines.specs.Made.{made_rows}
use Rattle.detail_lines.proofs.detail_lines.DetailLines.put_runs.Given as goal

-- the rows that are done
abbrev pub invariant-loop-done : goal.invariant-loop-done
invariant-loop-done g l = record {
  within : l.done ≤ l.many;
  work : HasRoom l.work.lists;
  text : l.page ≡ record { text = l.fn.page.text ++ made_rows l.self Whole l.at.unit l.rows l.done; room = l.fn.page.room };
  size : length (made_rows l.self Whole l.at.unit l.rows l.done) ≤ l.done * l.self.kept.reach;
}

abbrev pub decreases-loop-done : goal.decreases-loop-done
decreases-loop-done g l = l.many - l.done
