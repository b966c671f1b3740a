use Rattle.std.proofs.Common.{◌≡◌, ◌≤◌, ◌+◌, ◌-◌, ◌*◌, ◌++◌, length, take}
use Rattle.std.specs.Prelude.{All}
use Rattle.schema_facts.specs.Layout.{layout_of}
use Rattle.schema_facts.specs.TableFacts.{line_cost, max_line}
use Rattle.row_lines.specs.RunFields.{HasSizes}
use Rattle.row_lines.specs.Runs.{listed_text}
use Rattle.row_lines.proofs.runs.RunLines.put_listed.Given as goal

abbrev pub invariant-loop-done : goal.invariant-loop-done
invariant-loop-done g l = record {
  within : l.done ≤ length l.ordinals;
  text : l.page ≡ record { text = l.fn.page.text ++ listed_text l.self (take l.done l.ordinals); room = l.fn.page.room };
  size : length (listed_text l.self (take l.done l.ordinals)) ≤ l.done * max_line (layout_of l.self.plan) l.self.table;
  fields : All (HasSizes l.self) (take l.done l.ordinals);
  steps : l.steps ≤ l.fn.steps + l.done * line_cost (layout_of l.self.plan) l.self.table;
}

abbrev pub decreases-loop-done : goal.decreases-loop-done
decreases-loop-done g l = length l.ordinals - l.done
