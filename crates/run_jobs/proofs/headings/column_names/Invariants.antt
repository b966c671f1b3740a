use Rattle.std.proofs.Common.{◌≡◌, map, take}
use Rattle.schema_model.specs.declared.column.Column.{Column}
use Rattle.run_jobs.proofs.headings.column_names.Given as goal

abbrev pub invariant-loop-place : goal.invariant-loop-place
invariant-loop-place l = l.names ≡ map (λ (column : Column). column.name) (take l.place l.columns)
