use Rattle.std.proofs.Common.{◌≡◌, map}
use Rattle.std.specs.List.{range_with_len}
use Rattle.update_box.specs.Parts.{name_at}
use Rattle.run_jobs.proofs.names.table_names.Given as goal

abbrev pub invariant-loop-number : goal.invariant-loop-number
invariant-loop-number l = l.names ≡ map (name_at l.plan.schema) (range_with_len l.places.from l.number)
