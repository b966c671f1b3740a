use Rattle.std.proofs.Common.{◌≡◌, ◌+◌, take}
use Rattle.std.specs.List.{sum_by}
use Rattle.run_jobs.proofs.joined.found.Given as goal

abbrev pub invariant-loop-part : goal.invariant-loop-part
invariant-loop-part g l = l.n ≡ sum_by g.P.Packer.count (take l.part-index l.parts) + l.number
