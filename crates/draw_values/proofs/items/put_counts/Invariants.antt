use Rattle.std.proofs.Common.{◌≡◌, ℕ, ◌<◌, ◌+◌, ◌%◌, Some, get_or}
use Rattle.draw_values.specs.declared.items.ItemizedField.{ItemizedField}
use Rattle.draw_values.proofs.items.put_counts.Given as goal

abbrev pub invariant-loop-i : goal.invariant-loop-i
invariant-loop-i l = (k : ℕ) (d : ItemizedField) → k < l.i → get_or l.fields k d ≡ record { seed = get_or l.seeds k 0; count = Some (l.lo + get_or l.draws k 0 % l.lengths) }
