use Rattle.std.proofs.Common.{◌≡◌, ◌≤◌, ◌-◌, ◌*◌, ◌++◌, length, take}
use Rattle.detail_rows.specs.Packages.{listed_text}
use Rattle.detail_rows.proofs.parent_lines.ParentLines.put_listed.Given as goal

abbrev pub invariant-loop-done : goal.invariant-loop-done
invariant-loop-done g l = record {
  within : l.done ≤ length l.ordinals;
  text : l.page ≡ record { text = l.fn.page.text ++ listed_text l.self.plan l.self.kept l.kind l.t (take l.done l.ordinals); room = l.fn.page.room };
  size : length (listed_text l.self.plan l.self.kept l.kind l.t (take l.done l.ordinals)) ≤ l.done * l.self.kept.reach;
}

abbrev pub decreases-loop-done : goal.decreases-loop-done
decreases-loop-done g l = length l.ordinals - l.done
