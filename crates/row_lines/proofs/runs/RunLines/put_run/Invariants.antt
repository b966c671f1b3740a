use Rattle.std.proofs.Common.{◌≡◌, ◌≤◌, ◌+◌, ◌-◌, ◌*◌, ◌++◌, length}
use Rattle.std.specs.Prelude.{All}
use Rattle.schema_facts.specs.Layout.{layout_of}
use Rattle.schema_facts.specs.TableFacts.{cost, max_line}
use Rattle.row_lines.specs.RunFields.{HasSizes}
use Rattle.row_lines.specs.Runs.{living_from, run_text}
use Rattle.row_lines.proofs.runs.RunLines.put_run.Given as goal

abbrev pub invariant-loop-done : goal.invariant-loop-done
invariant-loop-done g l = record {
  within : l.done ≤ l.count;
  text : l.page ≡ record { text = l.fn.page.text ++ run_text l.self l.first l.done; room = l.fn.page.room };
  size : length (run_text l.self l.first l.done) ≤ l.done * max_line (layout_of l.self.plan) l.self.table;
  fields : All (HasSizes l.self) (living_from l.self l.first l.done);
  steps : l.steps ≤ l.fn.steps + l.done * cost (layout_of l.self.plan) l.self.table;
}

abbrev pub decreases-loop-done : goal.decreases-loop-done
decreases-loop-done g l = l.count - l.done
