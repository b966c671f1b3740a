use Rattle.std.proofs.Common.{◌≡◌, ◌≤◌, ◌*◌, ◌^◌, ℕ, List, flat_map}
use Rattle.std.specs.List.{AllZip, range_with_len}
use Rattle.table_jobs.specs.modes.Sample.{IsLaterText, sum_of_bytes, table_line}
use Rattle.table_jobs.proofs.modes.sample.summary.Given as goal

-- what is told of the tables before one, and the sum of the bytes of their later texts
abbrev pub invariant-loop-table : goal.invariant-loop-table
invariant-loop-table g l = record {
  plan : l.held ≡ l.fn.plan;
  text : l.text.items ≡ flat_map (table_line l.fn.plan) (range_with_len 0 l.table);
  sums : (made : List (List ℕ)) × AllZip (IsLaterText l.fn.plan) (range_with_len 0 l.table) made × (l.sum ≡ sum_of_bytes made);
  few : l.sum ≤ l.table * 2 ^ 72;
}
