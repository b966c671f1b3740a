use Rattle.std.proofs.Common.{◌≡◌, ◌≤◌, ◌+◌, ◌-◌, ◌*◌, ◌++◌, length, take}
use Rattle.schema_facts.specs.Lineage.{one_if}
use Rattle.life_intervals.specs.Generator.{table_of}
use Rattle.row_lines.specs.Runs.{keys_text}
use Rattle.row_lines.proofs.run_keys.put_keys.Given as goal

abbrev pub invariant-loop-done : goal.invariant-loop-done
invariant-loop-done g l = record {
  within : l.done ≤ length l.ordinals;
  text : l.page ≡ record { text = l.fn.page.text ++ keys_text l.rows l.table (take l.done l.ordinals); room = l.fn.page.room };
  size : length (keys_text l.rows l.table (take l.done l.ordinals)) ≤ l.done * 21;
  steps : l.steps ≡ l.fn.steps + l.done * one_if (table_of l.rows l.table).key.scramble;
}

abbrev pub decreases-loop-done : goal.decreases-loop-done
decreases-loop-done g l = length l.ordinals - l.done
