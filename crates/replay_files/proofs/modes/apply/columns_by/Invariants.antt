use Rattle.std.proofs.Common.{◌≡◌, map}
use Rattle.std.specs.List.{range_with_len}
use Rattle.schema_plan.specs.Rules.{column_names}
use Rattle.replay_files.proofs.modes.apply.columns_by.Given as goal

abbrev pub invariant-loop-number : goal.invariant-loop-number
invariant-loop-number l = l.tables ≡ map (column_names l.plan.schema) (range_with_len l.places.from l.number)
