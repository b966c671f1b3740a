use Rattle.std.proofs.Common.{◌≡◌, ◌≤◌, ◌-◌, ◌*◌, ◌++◌, flat_map, length}
use Rattle.schema_facts.specs.Layout.{layout_of}
use Rattle.sql_lines.specs.Reach.{statement_size}
use Rattle.sql_lines.specs.Told.{statement_for, told_range}
use Rattle.sql_lines.proofs.rows.put_rows.Given as goal

abbrev pub invariant-loop-done : goal.invariant-loop-done
invariant-loop-done g l = record {
  within : l.done ≤ l.count;
  page : l.page ≡ record l.fn.page { text = l.fn.page.text ++ flat_map (statement_for l.of l.verb) (told_range l.of l.told 0 l.done) };
  size : length (flat_map (statement_for l.of l.verb) (told_range l.of l.told 0 l.done)) ≤ l.done * statement_size (layout_of l.of.plan) l.of.table;
}

abbrev pub decreases-loop-done : goal.decreases-loop-done
decreases-loop-done g l = l.count - l.done
