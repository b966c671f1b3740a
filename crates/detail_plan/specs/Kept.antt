-- What is kept of a detail table whose rules hold, and whose it is.
use Rattle.std.specs.Prelude.{◌≡◌, ℕ, List, ◌++◌, None}
use Rattle.schema_facts.specs.declared.column_facts.ColumnFacts.{ColumnFacts}
use Rattle.schema_plan.specs.declared.ready.ReadyColumn.{ReadyColumn}
use Rattle.schema_plan.specs.Beside.{ready_beside}
use Rattle.schema_facts.specs.Dictionaries.{Dictionary, Project}
use Rattle.detail_plan.specs.declared.detail.Detail.{Detail}
use Rattle.detail_plan.specs.Beside.{columns_beside}
use Rattle.detail_plan.specs.Rules.{facts_of, first_broken, reach_of}

-- the detail table, all word lists, its columns ready for rows with their facts, and the greatest size of all lines of a row of the parent.
-- After its own columns stands the reference to the parent
pub record Kept : Type 0 where
  pub detail : Detail
  pub lists : List Dictionary
  pub columns : List ReadyColumn
  pub facts : List ColumnFacts
  pub reach : ℕ

-- all rules hold over a schema, whose word lists stand before others, and what is kept is what the schema gives
pub record KeepsRules (plan : Project) (kept : Kept) : Type 0 where
  pub others : List Dictionary
  pub lists : kept.lists ≡ plan.dictionaries ++ others
  pub keeps : first_broken plan kept.lists kept.detail ≡ None
  pub columns : kept.columns ≡ ready_beside plan kept.lists (columns_beside kept.detail)
  pub facts : kept.facts ≡ facts_of plan kept.detail
  pub reach : kept.reach ≡ reach_of plan kept.lists kept.detail
