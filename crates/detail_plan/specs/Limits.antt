-- What the numbers of a detail table are, where its rules hold.
use Rattle.std.specs.Prelude.{ℕ, ◌<◌, ◌≤◌, All, List, length}
use Rattle.schema_model.specs.declared.column.Column.{Column}
use Rattle.schema_facts.specs.declared.column_facts.ColumnFacts.{ColumnFacts}
use Rattle.schema_facts.specs.Counts.{count}
use Rattle.schema_facts.specs.Dictionaries.{Dictionary, Project}
use Rattle.schema_facts.specs.Layout.{kind_layout}
use Rattle.schema_plan.specs.Limits.{CanBeReady, IsCount, IsOfOthersAmong}
use Rattle.schema_plan.specs.Rules.{kind_at}
use Rattle.detail_plan.specs.declared.detail.Detail.{Detail}
use Rattle.detail_plan.specs.Beside.{columns_beside}

-- at most 999 of a thousand fields are null, and what is drawn can be made ready
pub record IsColumnInLimits (lists : List Dictionary) (column : Column) : Type 0 where
  pub nulls : count column.null ≤ 999
  pub ready : CanBeReady lists column.kind

pub record IsInLimits (lists : List Dictionary) (detail : Detail) : Type 0 where
  pub seed : IsCount detail.seed
  pub lo : IsCount detail.lo
  pub hi : IsCount detail.hi
  pub ordered : count detail.lo ≤ count detail.hi
  pub some_line : 1 ≤ count detail.hi
  pub few_lines : count detail.hi ≤ 64
  pub some_column : 1 ≤ length detail.columns
  pub few_columns : length detail.columns ≤ 32
  pub columns : All (IsColumnInLimits lists) (columns_beside detail)

-- over a schema and by their facts, the columns that are made of others are made of earlier ones, with days or numbers
abbrev pub AreMadeOfEarlier : Project → List ColumnFacts → Detail → Type 0
AreMadeOfEarlier plan facts detail =
    (place : ℕ) → place < length detail.columns →
    IsOfOthersAmong facts place
    (kind_layout plan.dictionaries plan.schema.tables (columns_beside detail) (kind_at (columns_beside detail) place))
