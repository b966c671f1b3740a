use Rattle.std.proofs.Common.{◌≡◌, ℕ, ◌<◌, ◌≤◌, ◌%◌, None, if◌then◌else◌, get_or, length, nat_lt}
use Rattle.draw_values.specs.declared.items.ItemizedField.{ItemizedField}
use Rattle.draw_values.proofs.items.put_null_counts.Given as goal

abbrev pub invariant-loop-i : goal.invariant-loop-i
invariant-loop-i l = record {
  written : (k : ℕ) (d : ItemizedField) → k < l.i →
      get_or l.fields k d ≡ record { seed = (get_or l.initial.fields k d).seed; count = if nat_lt (get_or l.draws k 0 % 1000) l.null then None else (get_or l.initial.fields k d).count };
  kept : (k : ℕ) (d : ItemizedField) → l.i ≤ k → k < length l.initial.fields → get_or l.fields k d ≡ get_or l.initial.fields k d;
}
