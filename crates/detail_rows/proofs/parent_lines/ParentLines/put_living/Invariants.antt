use Rattle.std.proofs.Common.{◌≡◌, ◌≤◌, ◌-◌, ◌*◌, ◌++◌, length}
use Rattle.detail_lines.specs.declared.detail_lines.LineKind.TheVariants.{Whole}
use Rattle.detail_rows.specs.Packages.{listed_text, living_from}
use Rattle.detail_rows.proofs.parent_lines.ParentLines.put_living.Given as goal

abbrev pub invariant-loop-done : goal.invariant-loop-done
invariant-loop-done g l = record {
  within : l.done ≤ l.count;
  text : l.page ≡ record { text = l.fn.page.text ++ listed_text l.self.plan l.self.kept Whole l.t (living_from l.self.plan l.self.kept l.t l.first l.done); room = l.fn.page.room };
  size : length (listed_text l.self.plan l.self.kept Whole l.t (living_from l.self.plan l.self.kept l.t l.first l.done)) ≤ l.done * l.self.kept.reach;
}

abbrev pub decreases-loop-done : goal.decreases-loop-done
decreases-loop-done g l = l.count - l.done
