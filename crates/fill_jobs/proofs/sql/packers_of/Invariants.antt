use Rattle.std.proofs.Common.{◌≡◌, ◌≤◌, ◌*◌, ◌^◌, map, take}
use Rattle.std.specs.List.{sum_by}
use Rattle.sql_lines.specs.Packages.{count_of}
use Rattle.sql_lines.specs.Script.{packages_of_part}
use Rattle.fill_jobs.proofs.sql.packers_of.Given as goal

abbrev pub invariant-loop-part : goal.invariant-loop-part
invariant-loop-part l = record {
  made : l.packers.parts.items ≡ map (packages_of_part l.job.of.plan l.job.of.asked) (take l.part-index l.parts);
  few : sum_by count_of l.packers.parts.items ≤ l.part-index * 2 ^ 41;
}
