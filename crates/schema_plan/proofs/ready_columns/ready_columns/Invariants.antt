use Rattle.std.proofs.Common.{◌≡◌, map, take}
use Rattle.schema_plan.proofs.ReadyLemmas.{kept_column}
use Rattle.schema_plan.proofs.ready_columns.ready_columns.Given as goal

abbrev pub invariant-loop-column : goal.invariant-loop-column
invariant-loop-column l = l.ready ≡ map (kept_column l.lexicon.dictionaries l.lexicon.delimiter l.tables l.columns) (take l.column-index l.columns)
