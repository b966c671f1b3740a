use Rattle.std.proofs.Common.{◌≡◌, ◌≤◌, ◌<◌, ℕ, get_or, length}
use Rattle.cohort_sizes.specs.Births.{LiesIn}
use Rattle.life_intervals.specs.Generator.{table_of}
use Rattle.life_intervals.proofs.rows.Rows.put_births.Given as goal

abbrev pub invariant-loop-i : goal.invariant-loop-i
invariant-loop-i l = record {
  same_length : length l.births ≡ length l.ordinals;
  lies : (k : ℕ) → k < l.i → LiesIn (table_of l.self l.table).births (get_or l.births k 0) (get_or l.ordinals k 0);
  born : (k : ℕ) → k < l.i → get_or l.births k 0 ≤ l.t;
}
