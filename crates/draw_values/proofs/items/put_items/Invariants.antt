use Rattle.std.proofs.Common.{◌≡◌, ◌≤◌, ◌-◌, ◌++◌}
use Rattle.philox_seeds.specs.SeedTree.{draw}
use Rattle.draw_values.specs.Items.{item_texts}
use Rattle.draw_values.proofs.items.put_items.Given as goal

abbrev pub invariant-loop-done : goal.invariant-loop-done
invariant-loop-done l = record {
  within : l.done ≤ l.count;
  text : l.page.text ≡ l.fn.page.text ++ item_texts l.leaf (draw l.seed) 0 l.done;
  room : l.page.room ≡ l.fn.page.room;
}

abbrev pub decreases-loop-done : goal.decreases-loop-done
decreases-loop-done l = l.count - l.done
