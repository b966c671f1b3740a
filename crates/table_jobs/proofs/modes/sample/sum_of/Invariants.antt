use Rattle.std.proofs.Common.{◌≡◌, ◌≤◌, ◌*◌, sum, take}
use Rattle.table_jobs.proofs.modes.sample.sum_of.Given as goal

abbrev pub invariant-loop-byte : goal.invariant-loop-byte
invariant-loop-byte l = record {
  sum : l.sum ≡ sum (take l.byte-index l.text);
  few : l.sum ≤ 255 * l.byte-index;
}
